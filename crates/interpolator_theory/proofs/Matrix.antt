-- The matrix: its zeros in the lower right, and its symmetry, bit for bit, for every query.
use Prim.Native.Nat.{ℕ, ◌-◌, ◌≤◌}
use mathlib.Core.Path.{◌≡◌, refl, ap}
use mathlib.Core.Bool.{Bool, true, false, cond}
use lib.Dec.{ltb}
use lib.Ieee.{Float, binary64, sub}
use borrow.Author.Tests.{le-ltb}
use Rattle.ieee.specs.Floats.{zero_float}
use Rattle.variogram.specs.Model.{semivariance}
use Rattle.variogram.proofs.Distance.{distance_back}
use Rattle.interpolator_theory.specs.Call.{Query, wells}
use Rattle.interpolator_theory.specs.Assembly.{covariance, trend_at, column, entry}

-- zeros in the lower right
pub lower_right : (q : Query) (i j : ℕ) → wells q ≤ i → wells q ≤ j → entry q i j ≡ zero_float
unfolding entry
lower_right q i j hi hj = rw (le-ltb i (wells q) hi, le-ltb j (wells q) hj)

-- the covariance of two wells is that of the way back
covariance_back : (q : Query) (i j : ℕ) → covariance q i q.points j ≡ covariance q j q.points i
unfolding covariance
covariance_back q i j =
    ap (λ (h : Float). sub binary64 q.variogram.sill (semivariance q.variogram h)) (distance_back q.points i q.points j q.dimension)

-- the matrix is symmetric
pub symmetric : (q : Query) (i j : ℕ) → entry q i j ≡ entry q j i
unfolding entry column
symmetric q i j = go (ltb i (wells q)) (ltb j (wells q))
  where
    go : (bi bj : Bool)
        → cond bj (cond bi (covariance q i q.points j) (trend_at q q.points j (i - wells q))) (cond bi (trend_at q q.points i (j - wells q)) zero_float)
        ≡ cond bi (cond bj (covariance q j q.points i) (trend_at q q.points i (j - wells q))) (cond bj (trend_at q q.points j (i - wells q)) zero_float)
    go true true = covariance_back q i j
    go true false = refl
    go false true = refl
    go false false = refl
