-- A call of the interpolator: what it takes, and what it is lent.
use Rattle.std.specs.Prelude.{ℕ, ◌+◌, ◌/◌, List, [], ◌∷◌, length, Float}
use Rattle.error.specs.Short.{Lent, lent}
use Rattle.variogram.specs.declared.Variogram.{Variogram}
use Rattle.interpolator_theory.specs.declared.KrigingType.{KrigingType}
use Rattle.interpolator_theory.specs.declared.KrigingType.TheVariants.{Ordinary, Universal}

-- what the call takes: points of d numbers, row after row, the value at each, and targets like the points
pub record Query : Type 0 where
  pub kriging_type : KrigingType
  pub variogram : Variogram
  pub dimension : ℕ
  pub values : List Float
  pub points : List Float
  pub targets : List Float

-- ---- areas
-- what it is lent, at entry or at exit: the work area, and the answer's
pub record Areas : Type 0 where
  pub work : List Float
  pub figures : List Float
  pub variances : List Float

-- these areas
abbrev pub areas_of : List Float → List Float → List Float → Areas
areas_of work figures variances = record { work = work; figures = figures; variances = variances }

-- the areas with another one for one of them
abbrev pub with_work : Areas → List Float → Areas
with_work a work = record { work = work; figures = a.figures; variances = a.variances }

abbrev pub with_figures : Areas → List Float → Areas
with_figures a figures = record { work = a.work; figures = figures; variances = a.variances }

abbrev pub with_variances : Areas → List Float → Areas
with_variances a variances = record { work = a.work; figures = a.figures; variances = variances }

-- ---- counts
-- n, the number of points with a value
abbrev pub wells : Query → ℕ
wells q = length q.values

-- m, the number of targets, of d numbers each
abbrev pub node_count : Query → ℕ
node_count q = length q.targets / q.dimension

-- "Ordinary adds a one (s = n + 1); Universal 1, x, y, xy (s = n + 4)"
abbrev pub added : KrigingType → ℕ
added Ordinary = 1
added Universal = 4

-- s, the size of the system
abbrev pub size : Query → ℕ
size q = wells q + added q.kriging_type

-- 18: "an answer area too short: m figures and variances"
abbrev pub answer_areas : Query → Areas → List Lent
answer_areas q a = lent a.figures (node_count q) ∷ lent a.variances (node_count q) ∷ []
