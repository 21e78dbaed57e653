-- A part of a row that is cleared.
use Rattle.std.specs.Prelude.{ℕ, ◌+◌, List, get_or, Float}
use Rattle.std.specs.Float.{nan, binary64}
use Rattle.std.specs.Float.Ieee.{sub, mul}
use Rattle.area.specs.Area.{written}

-- n numbers from place `other` on, each less factor times the number as far from place `row`
unfoldable pub lessened : ℕ → ℕ → ℕ → Float → List Float → List Float
lessened n row other factor xs = written other n (λ j. sub binary64 (get_or xs (other + j) nan) (mul binary64 factor (get_or xs (row + j) nan))) xs
