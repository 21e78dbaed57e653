-- `elimination::layout::complete` meets its contract: after i turns the first i rows are whole.
use Prim.Native.Nat.{◌*◌, ◌-◌, ◌≤◌}
use mathlib.Core.Path.{◌≡◌}
use lib.ListN.{length}
use Rattle.area.specs.Area.{filled}
use Rattle.elimination.specs.Inverse.{beside_identity}
use Rattle.elimination.specs.Rows.{across}
use Rattle.elimination.proofs.layout.complete.Given as goal

abbrev pub invariant-loop-i : goal.invariant-loop-i
invariant-loop-i l =
    (l.i ≤ l.size) × (2 * l.size * l.size ≤ length l.initial.work) × (length l.work ≡ length l.initial.work)
    × (l.work ≡ filled (2 * l.size) l.i (beside_identity l.size (across l.size l.initial.work)) l.initial.work)

abbrev pub decreases-loop-i : goal.decreases-loop-i
decreases-loop-i l = l.size - l.i
