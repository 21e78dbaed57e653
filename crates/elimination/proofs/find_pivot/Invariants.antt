-- `elimination::find_pivot` meets its contract: the row in hand is the one held once the rows above row k are passed.
use Prim.Native.Nat.{◌≤◌, ◌<◌, ◌*◌, ◌+◌, ◌-◌}
use mathlib.Core.Path.{◌≡◌}
use lib.ListN.{length}
use Rattle.elimination.specs.Elimination.{magnitude, held}
use Rattle.elimination.proofs.find_pivot.Given as goal

abbrev pub invariant-loop-k : goal.invariant-loop-k
invariant-loop-k l =
    (l.i < l.k) × (l.k ≤ l.size) × (l.width ≡ 2 * l.size) × (2 * l.size * l.size ≤ length l.work)
    × (l.max_row ≡ held (2 * l.size) l.i (l.k - (l.i + 1)) l.work) × (l.max_val ≡ magnitude (2 * l.size) l.i l.work l.max_row)

abbrev pub decreases-loop-k : goal.decreases-loop-k
decreases-loop-k l = l.size - l.k
