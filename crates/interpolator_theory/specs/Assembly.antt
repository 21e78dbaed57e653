-- The interpolator's matrix, and the right-hand side of a target: paper 01, "Interpolator".
use Rattle.std.specs.Prelude.{ℕ, ◌-◌, ◌*◌, cond, List, [], ◌∷◌, ltb, get_or, Float}
use Rattle.std.specs.Float.{nan, binary64}
use Rattle.std.specs.Float.Ieee.{sub, mul}
use Rattle.ieee.specs.Floats.{zero_float, one_float}
use Rattle.variogram.specs.Model.{semivariance}
use Rattle.variogram.specs.Distance.{axis_from, distance}
use Rattle.interpolator_theory.specs.declared.KrigingType.{KrigingType}
use Rattle.interpolator_theory.specs.declared.KrigingType.TheVariants.{Ordinary, Universal}
use Rattle.interpolator_theory.specs.Call.{Query, wells}

-- "Entries are sill − variogram": of the well i and the point j of a list, the wells' or the targets'
unfoldable pub covariance : Query → ℕ → List Float → ℕ → Float
unfolding semivariance distance
covariance q i ys j = sub binary64 q.variogram.sill (semivariance q.variogram (distance q.points i ys j q.dimension))

-- "Ordinary adds a one; Universal 1, x, y, xy from the first two axes": of a point by its axes
unfoldable pub trend : KrigingType → (ℕ → Float) → List Float
trend Ordinary axis = one_float ∷ []
trend Universal axis = one_float ∷ axis 0 ∷ axis 1 ∷ mul binary64 (axis 0) (axis 1) ∷ []

-- the term c of the trend at the point j of a list
unfoldable pub trend_at : Query → List Float → ℕ → ℕ → Float
unfolding trend
trend_at q ys j c = get_or (trend q.kriging_type (axis_from ys (j * q.dimension))) c nan

-- the column of the point j of a list: its covariance with each well, and under these its trend
unfoldable pub column : Query → List Float → ℕ → ℕ → Float
unfolding covariance trend_at
column q ys j i = cond (ltb i (wells q)) (covariance q i ys j) (trend_at q ys j (i - wells q))

-- the entry in row i and column j of the matrix: "sill − variogram, the diagonal too"; beside and below, the trend of the wells; zeros in the lower right
unfoldable pub entry : Query → ℕ → ℕ → Float
unfolding column trend_at
entry q i j = cond (ltb j (wells q)) (column q q.points j i) (cond (ltb i (wells q)) (trend_at q q.points i (j - wells q)) zero_float)

-- b of the target t: the column of that point
abbrev pub right_side : Query → ℕ → ℕ → Float
right_side q t i = column q q.targets t i
