-- `elimination::clear_others` meets its contract: after k turns the first k rows are cleared.
use Prim.Native.Nat.{◌≤◌, ◌<◌, ◌*◌, ◌-◌}
use mathlib.Core.Path.{◌≡◌}
use lib.ListN.{length}
use Rattle.elimination.specs.Elimination.{cleared}
use Rattle.elimination.proofs.Clear.{skips}
use Rattle.elimination.proofs.clear_others.Given as goal

abbrev pub invariant-loop-k : goal.invariant-loop-k
invariant-loop-k g l =
    (l.k ≤ l.size) × (l.width ≡ 2 * l.size) × (2 * l.size * l.size ≤ length l.initial.work) × (l.i < l.size) × (length l.work ≡ length l.initial.work)
    × (l.work ≡ cleared (skips g.row.SKIP) (2 * l.size) l.i l.k l.initial.work)

abbrev pub decreases-loop-k : goal.decreases-loop-k
decreases-loop-k g l = l.size - l.k
