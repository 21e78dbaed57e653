-- Each stage keeps the area's length, and leaves what lies past the matrix as it was.
use Prim.Native.Nat.{ℕ, zero, suc, ◌*◌, ◌≤◌, ◌<◌}
use native.Mathlib.Omega.{arith}
use mathlib.Core.Bool.{Bool}
use mathlib.Core.List.{List}
use lib.Ieee.{Float}
use Rattle.area.specs.Area.{Kept}
use Rattle.area.proofs.Kept.{kept_same, kept_then, kept_written, kept_either}
use Rattle.area.proofs.Rows.{row_end}
use Rattle.elimination.specs.Elimination.{at, hold, swapped, divided, reduced, spared, cleared, step, stepped}
use Rattle.elimination.proofs.Hold.{hold_below}

-- stages of a matrix with s rows of w
module _ (w s : ℕ) where
  pub kept_swapped : (i r : ℕ) (xs : List Float) → i < s → r < s → Kept (s * w) xs (swapped w i r xs)
  unfolding swapped
  kept_swapped i r xs hi hr =
      kept_then
      (kept_written (s * w) (i * w) w (at w xs r) xs (row_end w i s hi))
      (kept_written (s * w) (r * w) w (at w xs i) _ (row_end w r s hr))

  pub kept_divided : (i : ℕ) (xs : List Float) → i < s → Kept (s * w) xs (divided w i xs)
  unfolding divided
  kept_divided i xs hi = kept_written (s * w) (i * w) w _ xs (row_end w i s hi)

  pub kept_reduced : (i k : ℕ) (factor : Float) (xs : List Float) → k < s → Kept (s * w) xs (reduced w i k factor xs)
  unfolding reduced
  kept_reduced i k factor xs hk = kept_written (s * w) (k * w) w _ xs (row_end w k s hk)

  pub kept_cleared : (skip : Bool) (i n : ℕ) (xs : List Float) → n ≤ s → Kept (s * w) xs (cleared skip w i n xs)
  unfolding cleared
  kept_cleared skip i zero xs h = kept_same (s * w) xs
  kept_cleared skip i (suc k) xs h =
      let ys : List Float = cleared skip w i k xs in
      let l : Kept (s * w) xs ys = kept_cleared skip i k xs (omega arith) in
      kept_either (spared skip w i k ys) ys (reduced w i k (at w ys k i) ys) l (kept_then l (kept_reduced i k (at w ys k i) ys h))

-- a step, of s rows of 2s
pub kept_step : (skip : Bool) (s i : ℕ) (xs : List Float) → i < s → Kept (s * (2 * s)) xs (step skip s i xs)
unfolding step
kept_step skip s i xs h =
    kept_then
    (kept_swapped (2 * s) s i (hold s i xs) xs h (hold_below s i xs h))
    (kept_then (kept_divided (2 * s) s i _ h) (kept_cleared (2 * s) s skip i s _ (omega arith)))

-- the first n steps
pub kept_stepped : (skip : Bool) (s n : ℕ) (xs : List Float) → n ≤ s → Kept (s * (2 * s)) xs (stepped skip s n xs)
unfolding stepped
kept_stepped skip s zero xs h = kept_same (s * (2 * s)) xs
kept_stepped skip s (suc n) xs h = kept_then (kept_stepped skip s n xs (omega arith)) (kept_step skip s n (stepped skip s n xs) h)
