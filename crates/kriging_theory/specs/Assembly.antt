-- The matrix of a fit: paper 01, "Assembly".
use Rattle.std.specs.Prelude.{ℕ, ◌-◌, cond, List, eqb, ltb, Float}
use Rattle.std.specs.Float.{binary64}
use Rattle.std.specs.Float.Ieee.{add}
use Rattle.variogram.specs.Model.{semivariance}
use Rattle.variogram.specs.Distance.{distance2d}
use Rattle.ieee.specs.Floats.{zero_float}
use Rattle.elimination.specs.Inverse.{laid}
use Rattle.survey.specs.declared.UniversalKrigingOptions.{UniversalKrigingOptions}
use Rattle.survey.specs.Survey.{Survey, wells, size, x_of, y_of}
use Rattle.kriging_theory.specs.Drift.{drift}

-- "variogram between different wells, 0 + r on the diagonal", of wells at these coordinates
unfoldable pub between : UniversalKrigingOptions → List Float → ℕ → ℕ → Float
unfolding semivariance distance2d
between options coords i j =
    cond (eqb i j)
    (add binary64 zero_float options.regularization)
    (semivariance options.variogram (distance2d (x_of coords i) (y_of coords i) (x_of coords j) (y_of coords j)))

-- "Upper left: variogram ..  Beside and below: F and its transpose; Lower right: zeros.": n wells, what stands between them, and F
unfoldable pub joined : ℕ → (ℕ → ℕ → Float) → (ℕ → ℕ → Float) → ℕ → ℕ → Float
joined n gamma f i j =
    cond (ltb i n)
    (cond (ltb j n) (gamma i j) (f i (j - n)))
    (cond (ltb j n) (f j (i - n)) zero_float)

unfoldable pub entry : Survey → ℕ → ℕ → Float
unfolding between joined
entry s i j = joined (wells s) (between s.options s.coords) (drift s) i j

-- "The matrix beside the identity, s rows of 2s", in a work area
abbrev pub assembled : Survey → List Float → List Float
assembled s work = laid (size s) (entry s) work
