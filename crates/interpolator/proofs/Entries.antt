-- The entries of the interpolator's matrix by the part that they stand in.
use Prim.Native.Nat.{ℕ, ◌*◌, ◌-◌, ◌<◌, ◌≤◌}
use native.Mathlib.Omega.{arith}
use mathlib.Core.Path.{◌≡◌, refl, ◌∙◌}
use mathlib.Core.Logic.{◌≢◌}
use mathlib.Core.List.{List, []}
use borrow.Author.Tests.{lt-ltb, le-ltb}
use lib.Ieee.{Float, nan, binary64, sub, mul}
use lib.ListN.{get_or}
use Rattle.ieee.specs.Floats.{zero_float, one_float}
use Rattle.variogram.specs.Model.{semivariance}
use Rattle.variogram.specs.Distance.{axis_from, distance}
use Rattle.interpolator_theory.specs.declared.KrigingType.{KrigingType}
use Rattle.interpolator_theory.specs.declared.KrigingType.TheVariants.{Ordinary, Universal}
use Rattle.interpolator.specs.declared.KrigingInterpolator.{KrigingInterpolator}
use Rattle.interpolator_theory.specs.Call.{Query, wells, added}
use Rattle.interpolator_theory.specs.Assembly.{covariance, trend, trend_at, column, entry}

-- ---- a term of the trend
module _ (t : KrigingType) (axis : ℕ → Float) (c : ℕ) where
  pub term_x : t ≡ Universal → c ≡ 1 → axis 0 ≡ get_or (trend t axis) c nan
  unfolding trend
  term_x u e = rw (u, e)

  pub term_y : t ≡ Universal → c ≡ 2 → axis 1 ≡ get_or (trend t axis) c nan
  unfolding trend
  term_y u e = rw (u, e)

  pub term_xy : t ≡ Universal → c ≡ 3 → mul binary64 (axis 0) (axis 1) ≡ get_or (trend t axis) c nan
  unfolding trend
  term_xy u e = rw (u, e)

pub term_one : (t : KrigingType) (axis : ℕ → Float) (c : ℕ) → c ≡ 0 → one_float ≡ get_or (trend t axis) c nan
unfolding trend
term_one Ordinary axis c e = rw e
term_one Universal axis c e = rw e

-- a term past the one is Universal's
pub past_one : (t : KrigingType) (c : ℕ) → c < added t → 0 < c → t ≡ Universal
past_one Ordinary c h l = absurd (omega arith)
past_one Universal c h l = refl

-- and the last one is xy
pub last_term : (t : KrigingType) (c : ℕ) → c < added t → c ≢ 0 → c ≢ 1 → c ≢ 2 → c ≡ 3
last_term Ordinary c h a b d = omega arith
last_term Universal c h a b d = omega arith

-- ---- columns and entries
module _ (q : Query) (ys : List Float) (j i : ℕ) where
  pub of_points_lem : i < wells q → {v : Float} → v ≡ sub binary64 q.variogram.sill (semivariance q.variogram (distance q.points i ys j q.dimension))
      → v ≡ column q ys j i
  unfolding column covariance
  of_points_lem h e = e ∙ rw (lt-ltb i (wells q) h)

  pub of_trend : wells q ≤ i → {v : Float} → v ≡ get_or (trend q.kriging_type (axis_from ys (j * q.dimension))) (i - wells q) nan → v ≡ column q ys j i
  unfolding column trend_at
  of_trend h e = e ∙ rw (le-ltb i (wells q) h)

module _ (q : Query) (i j : ℕ) where
  pub left : j < wells q → {v : Float} → v ≡ column q q.points j i → v ≡ entry q i j
  unfolding entry
  left h e = e ∙ rw (lt-ltb j (wells q) h)

  pub upper_right : wells q ≤ j → i < wells q → {v : Float} → v ≡ get_or (trend q.kriging_type (axis_from q.points (i * q.dimension))) (j - wells q) nan
      → v ≡ entry q i j
  unfolding entry trend_at
  upper_right h k e = e ∙ rw (le-ltb j (wells q) h, lt-ltb i (wells q) k)

  pub lower_right : wells q ≤ j → wells q ≤ i → zero_float ≡ entry q i j
  unfolding entry
  lower_right h k = rw (le-ltb j (wells q) h, le-ltb i (wells q) k)

-- ---- neither reads the targets: they are those of the same query with no target
module _ (interpolator : KrigingInterpolator) (values points targets : List Float) (d : ℕ) where
  -- a query of these, with whatever targets
  abbrev pub asked : List Float → Query
  asked ys = record {
    kriging_type = interpolator.kriging_type;
    variogram = interpolator.variogram;
    dimension = d;
    values = values;
    points = points;
    targets = ys;
  }

  pub column_unread : (ys : List Float) (j : ℕ) → column (asked []) ys j ≡ column (asked targets) ys j
  unfolding column covariance trend_at
  column_unread ys j = refl

  pub entry_unread : entry (asked []) ≡ entry (asked targets)
  unfolding entry column covariance trend_at
  entry_unread = refl
