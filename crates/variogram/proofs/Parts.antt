-- A point's numbers, taken out of its list.
use Rattle.std.proofs.Common.{◌≡◌, ℕ, ◌+◌, ◌<◌, ◌≤◌, List, length, take, drop, ap₂, arith}
use Rattle.std.proofs.lemmas.List.{get_or-take, get_or-drop, length-take, length-drop}
use lib.Ieee.{Float, binary64, sub, nan}
use Rattle.ieee.proofs.Sums.{same_sum}
use Rattle.variogram.specs.Distance.{square, squares, axis, axis_from}

module _ (xs : List Float) (at d : ℕ) where
  pub as_many : at + d ≤ length xs → length (take d (drop at xs)) ≡ d
  as_many h = rw (length-take, length-drop) (omega arith)

  same_axis : (k : ℕ) → k < d → axis (take d (drop at xs)) k ≡ axis_from xs at k
  same_axis k h = rw (get_or-take d (drop at xs) k nan h, get_or-drop)

-- their squares are those of the places where the points begin
pub taken_squares : (xs ys : List Float) (a b d : ℕ) → a + d ≤ length xs
    → squares (axis (take d (drop a xs))) (axis (take d (drop b ys))) (length (take d (drop a xs))) ≡ squares (axis_from xs a) (axis_from ys b) d
taken_squares xs ys a b d h =
    rw (as_many xs a d h)
    (same_sum d _ _ (λ k l. ap₂ (λ (x y : Float). square (sub binary64 x y)) (same_axis xs a d k l) (same_axis ys b d k l)))
