-- Sums of f64 in turn, each operation rounded once.
use Rattle.std.specs.Prelude.{ℕ, zero, suc, Float}
use Rattle.std.specs.Float.{binary64}
use Rattle.std.specs.Float.Ieee.{add, sub}
use Rattle.ieee.specs.Floats.{zero_float}

-- f 0, f 1, .., f (k - 1) added to x in turn
unfoldable pub add_each : Float → ℕ → (ℕ → Float) → Float
add_each x zero f = x
add_each x (suc k) f = add binary64 (add_each x k f) (f k)

-- "summed from 0"
abbrev pub running_sum : ℕ → (ℕ → Float) → Float
running_sum k f = add_each zero_float k f

-- "minus each .. in turn": f 0, f 1, .., f (k - 1) taken from x
unfoldable pub less_each : Float → ℕ → (ℕ → Float) → Float
less_each x zero f = x
less_each x (suc k) f = sub binary64 (less_each x k f) (f k)
