-- `report::put::put_nodes` meets its contract: after i turns the first i lines stand there.
use Rattle.report.specs.Listing.{lines, node_at}
use Rattle.area.specs.Cursor.{Puts}
use Rattle.report.proofs.put.put_nodes.Given as goal

abbrev pub invariant-loop-i : goal.invariant-loop-i
invariant-loop-i l = Puts (lines l.i (node_at l.predicted l.variance l.verdicts)) l.initial.out l.out
