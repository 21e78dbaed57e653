-- "all past the named lengths is untouched": each area of b is as long as that of a, and the same from its named length on.
use Rattle.std.specs.Prelude.{◌*◌}
use Rattle.area.specs.Area.{Kept}
use Rattle.survey.specs.Survey.{Survey, wells, node_count, columns, size}
use Rattle.kriging_theory.specs.Areas.{Areas}

pub record Untouched (s : Survey) (a b : Areas) : Type 0 where
  pub work : Kept (2 * size s * size s) a.work b.work
  pub predicted : Kept (node_count s) a.predicted b.predicted
  pub variance : Kept (node_count s) a.variance b.variance
  pub verdicts : Kept (node_count s) a.verdicts b.verdicts
  pub weights : Kept (wells s * node_count s) a.weights b.weights
  pub multipliers : Kept (columns s) a.multipliers b.multipliers
  pub trend : Kept (columns s) a.trend b.trend
