-- `elimination::clear_row` meets its contract: after t turns 4 * t numbers of the row are cleared.
use Prim.Native.Nat.{◌≤◌, ◌*◌, ◌+◌, ◌/◌}
use mathlib.Core.Path.{◌≡◌}
use lib.ListN.{length}
use Rattle.elimination.specs.Parts.{lessened}
use Rattle.elimination.proofs.clear_row.Given as goal

abbrev pub invariant-loop-turn : goal.invariant-loop-turn
invariant-loop-turn l =
    (l.turn ≤ l.size / 2) × (l.turn-end ≡ l.size / 2) × (l.row ≡ l.i * (2 * l.size)) × (l.other ≡ l.k * (2 * l.size)) × (length l.work ≡ length l.initial.work)
    × (l.row + 2 * l.size ≤ length l.initial.work) × (l.other + 2 * l.size ≤ length l.initial.work)
    × (l.work ≡ lessened (4 * l.turn) (l.i * (2 * l.size)) (l.k * (2 * l.size)) l.factor l.initial.work)
