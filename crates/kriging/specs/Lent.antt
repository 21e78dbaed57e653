-- The areas as a caller lends them, and as everything here speaks of them.
use Rattle.std.specs.Prelude.{◌≡◌}
use Rattle.kriging_theory.specs.Areas.{Areas, areas_of}
use Rattle.kriging.specs.declared.Areas as Declared

-- what the lent areas hold
abbrev pub areas_lent : Declared.Areas → Areas
areas_lent a =
    areas_of a.work.now a.predicted.now a.variance.now a.verdicts.now a.weights.now a.multipliers.now a.trend.now

-- they are the same areas, whatever they hold: a caller's own lists end as what these hold
pub record StillLent (a b : Declared.Areas) : Type 0 where
  pub work : b.work.ghost_name ≡ a.work.ghost_name
  pub predicted : b.predicted.ghost_name ≡ a.predicted.ghost_name
  pub variance : b.variance.ghost_name ≡ a.variance.ghost_name
  pub verdicts : b.verdicts.ghost_name ≡ a.verdicts.ghost_name
  pub weights : b.weights.ghost_name ≡ a.weights.ghost_name
  pub multipliers : b.multipliers.ghost_name ≡ a.multipliers.ghost_name
  pub trend : b.trend.ghost_name ≡ a.trend.ghost_name
