-- `report::room::left_by_nodes` meets its contract: after i turns the first i lines are taken off the room.
use Rattle.std.proofs.Common.{◌≡◌, ◌+◌, List, length}
use lib.Ieee.{Float}
use Rattle.report.specs.Listing.{lines, node_at}
use Rattle.report.proofs.room.left_by_nodes.Given as goal

abbrev pub invariant-loop-i : goal.invariant-loop-i
invariant-loop-i l = (figures variances : List Float) → l.rest + length (lines l.i (node_at figures variances l.verdicts)) ≡ l.room
