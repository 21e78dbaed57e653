-- The areas that a caller lends a fit, at entry or at exit.
use Rattle.std.specs.Prelude.{ℕ, ◌*◌, List, [], ◌∷◌, Float}
use Rattle.error.specs.Short.{Lent, lent}
use Rattle.survey.specs.Survey.{Survey, wells, node_count, columns}

-- the work area, and those of the answer: figures, variances, verdicts, weights node after node, multipliers, and the trend
pub record Areas : Type 0 where
  pub work : List Float
  pub predicted : List Float
  pub variance : List Float
  pub verdicts : List ℕ
  pub weights : List Float
  pub multipliers : List Float
  pub trend : List Float

-- these areas
abbrev pub areas_of : List Float → List Float → List Float → List ℕ → List Float → List Float → List Float → Areas
areas_of work predicted variance verdicts weights multipliers trend = record {
  work = work;
  predicted = predicted;
  variance = variance;
  verdicts = verdicts;
  weights = weights;
  multipliers = multipliers;
  trend = trend;
}

-- the same areas with another work area
abbrev pub with_work : Areas → List Float → Areas
with_work a work = record {
  work = work;
  predicted = a.predicted;
  variance = a.variance;
  verdicts = a.verdicts;
  weights = a.weights;
  multipliers = a.multipliers;
  trend = a.trend;
}

-- "an answer area too short: m figures and variances; in a fit also m verdicts, n·m weights (node after node), p coefficients", now called multipliers;
-- and the trend: "An area shorter than p is refused by 18."
abbrev pub answer_areas : Survey → Areas → List Lent
answer_areas s a =
    lent a.predicted (node_count s)
    ∷ lent a.variance (node_count s)
    ∷ lent a.verdicts (node_count s)
    ∷ lent a.weights (wells s * node_count s)
    ∷ lent a.multipliers (columns s)
    ∷ lent a.trend (columns s)
    ∷ []
