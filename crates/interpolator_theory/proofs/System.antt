-- The interpolator's matrix is the kriging system's, entry by entry, beside the identity, and its right-hand side is the target's:
-- of every query with a dimension that is offered.
use Prim.Native.Nat.{ℕ, ◌+◌, ◌-◌, ◌*◌, ◌<◌, ◌≤◌}
use native.Mathlib.Omega.{arith}
use mathlib.Core.Path.{◌≡◌, refl, ap, sym}
use mathlib.Core.Logic.{◌≢◌}
use mathlib.Core.Bool.{true, false}
use mathlib.Core.List.{List, map}
use borrow.Author.Tests.{lt-ltb, le-ltb}
use lib.Dec.{ltb}
use lib.ListN.{length, get_or}
use lib.Ieee.{Float, nan, binary64, sub}
use Rattle.ieee.specs.Floats.{zero_float, one_float}
use Rattle.ieee.specs.Root.{sqrt_of}
use Rattle.variogram.specs.Model.{semivariance}
use Rattle.variogram.specs.Distance.{offered}
use Rattle.variogram.proofs.Distance.{squares_opposite, distance_offered}
use Rattle.elimination.specs.Elimination.{at}
use Rattle.elimination.proofs.Laid.{laid_one, laid_zero}
use Rattle.system_theory.specs.Drift.{Place, value_of}
use Rattle.system_theory.specs.System.{size as equations, drift_at, Index, Well, Drift, Within, coefficient_of, right_of, row_of}
use Rattle.system_theory.proofs.System.{own_transpose, matrix_at as laid-matrix}
use Rattle.interpolator_theory.specs.declared.KrigingType.{KrigingType}
use Rattle.interpolator_theory.specs.declared.KrigingType.TheVariants.{Ordinary, Universal}
use Rattle.interpolator_theory.specs.Call.{Query, Areas, wells, added, size}
use Rattle.interpolator_theory.specs.Assembly.{covariance, trend, trend_at, column, entry, right_side}
use Rattle.interpolator_theory.specs.System.{place_of, point_place, target_place, covariance_of, monomials, system_of}
use Rattle.interpolator_theory.specs.Exit.{assembled}

-- "(s = n + 1)", "(s = n + 4)": as many are added as there are drift functions
added_is : (t : KrigingType) → added t ≡ length (monomials t)
added_is Ordinary = refl
added_is Universal = refl

pub rows_are : (q : Query) → size q ≡ equations (system_of q)
rows_are q = ap (λ (n : ℕ). wells q + n) (added_is q.kriging_type)

-- ---- drift functions and covariances, of a list of points
values_are : (t : KrigingType) (a : Place) → map (λ m. value_of m a) (monomials t) ≡ trend t a.axis
unfolding value_of trend
values_are Ordinary a = refl
values_are Universal a = refl

trend_is : (q : Query) (ys : List Float) (j l : ℕ) → trend_at q ys j l ≡ drift_at (system_of q) l (place_of ys q.dimension j)
unfolding trend_at drift_at
trend_is q ys j l = ap (λ (xs : List Float). get_or xs l nan) (sym (values_are q.kriging_type (place_of ys q.dimension j)))

-- ---- symmetry, bit for bit
pub system_symmetric : (q : Query) (u v : Index) → coefficient_of (system_of q) u v ≡ coefficient_of (system_of q) v u
unfolding covariance_of
system_symmetric q =
    own_transpose (system_of q) (λ i j.
    ap (λ (x : Float). sub binary64 q.variogram.sill (semivariance q.variogram (sqrt_of x)))
    (squares_opposite (point_place q i).axis (point_place q j).axis q.dimension))

module _ (q : Query) (ok : offered q.dimension ≡ true) where
  covariance_is : (i : ℕ) (ys : List Float) (j : ℕ) → covariance q i ys j ≡ covariance_of q (point_place q i) (place_of ys q.dimension j)
  unfolding covariance covariance_of
  covariance_is i ys j =
      ap (λ (h : Float). sub binary64 q.variogram.sill (semivariance q.variogram h)) (distance_offered q.points i ys j q.dimension ok)

  -- ---- entries
  inside : (i : ℕ) → i < wells q → ltb i (wells q) ≡ true
  inside i h = lt-ltb i (wells q) h

  past : (l : ℕ) → ltb (wells q + l) (wells q) ≡ false
  past l = le-ltb (wells q + l) (wells q) (omega arith)

  back : (l : ℕ) → wells q + l - wells q ≡ l
  back l = omega arith

  -- a column holds the right-hand sides at its point
  column_is : (ys : List Float) (j : ℕ) (u : Index) → Within (system_of q) u
      → column q ys j (row_of (system_of q) u) ≡ right_of (system_of q) (place_of ys q.dimension j) u
  unfolding column right_of
  column_is ys j (Well i) h = rw (inside i h) (covariance_is i ys j)
  column_is ys j (Drift l) h = rw (past l, back l) (trend_is q ys j l)

  pub entry_is : (u v : Index) → Within (system_of q) u → Within (system_of q) v
      → entry q (row_of (system_of q) u) (row_of (system_of q) v) ≡ coefficient_of (system_of q) u v
  unfolding entry coefficient_of right_of
  entry_is (Well i) (Well j) hu hv = rw (inside j hv) (column_is q.points j (Well i) hu)
  entry_is (Well i) (Drift l) hu hv = rw (past l, inside i hu, back l) (trend_is q q.points i l)
  entry_is (Drift l) (Well j) hu hv = rw (inside j hv) (column_is q.points j (Drift l) hu)
  entry_is (Drift l) (Drift k) hu hv = rw (past k, past l)

  -- ---- the right-hand side of a target
  pub right_is : (t : ℕ) (u : Index) → Within (system_of q) u → right_side q t (row_of (system_of q) u) ≡ right_of (system_of q) (target_place q t) u
  right_is t u h = column_is q.targets t u h

  -- ---- the work area: the matrix, and the identity beside it
  module _ (a : Areas) (long : 2 * size q * size q ≤ length a.work) where
    pub matrix_at : (u v : Index) → Within (system_of q) u → Within (system_of q) v
        → at (2 * size q) (assembled q a) (row_of (system_of q) u) (row_of (system_of q) v) ≡ coefficient_of (system_of q) u v
    matrix_at = laid-matrix (system_of q) (size q) (rows_are q) (entry q) entry_is a.work long

    pub identity_one : (i : ℕ) → i < size q → at (2 * size q) (assembled q a) i (size q + i) ≡ one_float
    identity_one = laid_one (size q) (entry q) a.work nan long

    pub identity_zero : (i j : ℕ) → i < size q → j < size q → i ≢ j → at (2 * size q) (assembled q a) i (size q + j) ≡ zero_float
    identity_zero = laid_zero (size q) (entry q) a.work nan long
