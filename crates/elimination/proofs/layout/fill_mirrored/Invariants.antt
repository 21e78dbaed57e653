-- `elimination::layout::fill_mirrored` meets its contract: after j turns the area is what j stores write.
use Prim.Native.Nat.{◌≤◌, ◌*◌, ◌+◌, ◌-◌}
use mathlib.Core.Path.{◌≡◌}
use lib.ListN.{length}
use Rattle.area.specs.Area.{written}
use Rattle.elimination.specs.Elimination.{at}
use Rattle.elimination.proofs.layout.fill_mirrored.Given as goal

abbrev pub invariant-loop-j : goal.invariant-loop-j
invariant-loop-j l =
    (l.j ≤ l.i) × (l.width ≡ 2 * l.size) × (l.row ≡ l.i * (2 * l.size)) × (length l.work ≡ length l.initial.work) × (l.row + 2 * l.size ≤ length l.initial.work)
    × (l.work ≡ written (l.i * (2 * l.size)) l.j (λ c. at (2 * l.size) l.initial.work c l.i) l.initial.work)

abbrev pub decreases-loop-j : goal.decreases-loop-j
decreases-loop-j l = l.i - l.j
