-- `report::lists::Lists::new` meets its contract: past the tests the lists are even.
use native.Mathlib.Omega.{arith}
use Rattle.report.proofs.lists.Lists.new.Goals as goal

pub invariant_of-result : goal.invariant_of-result
invariant_of-result c =
    let nodes = c.node_count-nodes.ensures.0 in
    record { even = record { figure_each = omega arith; variance_each = omega arith; trend_each = omega arith } }
