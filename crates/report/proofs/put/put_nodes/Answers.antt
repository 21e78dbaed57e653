-- `report::put::put_nodes` meets its contract: after i turns the first i lines stand there.
use lib.ListN.{length}
use native.Mathlib.Omega.{arith}
use Rattle.report.specs.Listing.{node_at}
use Rattle.report.proofs.Lines.{puts_line, has_room_line}
use Rattle.report.proofs.put.put_nodes.Goals as goal

pub put_node-requires : goal.put_node-requires
put_node-requires c =
    let a = c.args in
    let line = node_at a.predicted.now a.variance.now a.verdicts.now in
    has_room_line line c.loop-i.i (length a.verdicts.now) (omega arith) c.requires.2 c.loop-i.invariant

pub loop-i-preserved : goal.loop-i-preserved
loop-i-preserved c =
    let a = c.args in
    puts_line (node_at a.predicted.now a.variance.now a.verdicts.now) c.loop-i.i c.loop-i.invariant c.put_node.ensures
