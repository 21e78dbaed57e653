-- `elimination::eliminate` meets its contract. The invariant: the run from step i on makes of the area in hand what the whole elimination makes of the
-- area that came. The measure is the steps left.
use Prim.Native.Nat.{◌≤◌, ◌*◌, ◌-◌}
use mathlib.Core.Path.{◌≡◌}
use lib.ListN.{length}
use Rattle.elimination.specs.Elimination.{run, eliminated}
use Rattle.elimination.proofs.Clear.{skips}
use Rattle.elimination.proofs.eliminate.Given as goal

abbrev pub invariant-loop-i : goal.invariant-loop-i
invariant-loop-i g l =
    (l.i ≤ l.size) × (l.width ≡ 2 * l.size) × (2 * l.size * l.size ≤ length l.initial.work) × (length l.work ≡ length l.initial.work)
    × (eliminated (skips g.row.SKIP) l.size l.initial.work ≡ run (skips g.row.SKIP) l.size (l.size - l.i) l.i l.work)

abbrev pub decreases-loop-i : goal.decreases-loop-i
decreases-loop-i g l = l.size - l.i
