-- What goes into an elimination and what comes out of it, for both calls.
use Rattle.std.specs.Prelude.{ℕ, ◌+◌, ◌*◌, cond, List, eqb, ltb, Float}
use Rattle.std.specs.Float.{binary64}
use Rattle.std.specs.Float.Ieee.{mul}
use Rattle.area.specs.Area.{filled}
use Rattle.ieee.specs.Floats.{zero_float, one_float}
use Rattle.ieee.specs.Sums.{add_each, running_sum}
use Rattle.elimination.specs.Elimination.{at}

-- "The matrix beside the identity, s rows of 2s": a matrix by its entries
unfoldable pub beside_identity : ℕ → (ℕ → ℕ → Float) → ℕ → ℕ → Float
beside_identity s entry i c = cond (ltb c s) (entry i c) (cond (eqb c (s + i)) one_float zero_float)

-- a work area with it, row after row
unfoldable pub laid : ℕ → (ℕ → ℕ → Float) → List Float → List Float
unfolding beside_identity
laid s entry work = filled (2 * s) s (beside_identity s entry) work

-- "The right half is the inverse": its entry in row i and column j
abbrev pub inverse_at : ℕ → List Float → ℕ → ℕ → Float
inverse_at s work i j = at (2 * s) work i (s + j)

-- "z = inverse times b, summed from 0 by rising column": entry i
unfoldable pub times_inverse : ℕ → List Float → (ℕ → Float) → ℕ → Float
unfolding add_each
times_inverse s work b i = running_sum s (λ j. mul binary64 (inverse_at s work i j) (b j))
