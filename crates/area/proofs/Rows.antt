-- Places of a matrix that lies row after row, entry (r, c) of w columns at r * w + c: a row lies inside, and two rows lie apart.
use Prim.Native.Nat.{ℕ, ◌+◌, ◌*◌, ◌≤◌, ◌<◌}
use native.Mathlib.Nat.{mul-le-mul_right}
use native.Mathlib.Decide.{dec_lt}
use native.Mathlib.Omega.{arith}
use mathlib.Core.Logic.{◌≢◌}

-- a row ends where the next begins, or before
pub row_end : (w r s : ℕ) → r < s → r * w + w ≤ s * w
row_end w r s h = omega (arith, mul-le-mul_right w h)

-- entries of two rows are at different places
pub apart : (w r q a b : ℕ) → r ≢ q → a < w → b < w → r * w + a ≢ q * w + b
apart w r q a b n ha hb =
    elim (dec_lt r q) [
      | yes p ↦ omega (arith, row_end w r q p)
      | no m ↦ let p : q < r = omega arith in omega (arith, row_end w q r p)
    ]
