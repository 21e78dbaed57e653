-- `solution::Inverse::fill_rows` meets its contract: after so many turns z has four times as many rows.
use Prim.Native.Nat.{◌*◌, ◌/◌}
use mathlib.Core.Path.{◌≡◌}
use lib.ListN.{length}
use Rattle.area.specs.Area.{written}
use Rattle.solution.proofs.Terms.{rows}
use Rattle.solution.proofs.Inverse.fill_rows.Given as goal

abbrev pub invariant-loop-turn : goal.invariant-loop-turn
invariant-loop-turn l =
    (l.turns ≡ l.self.size / 4) × (length l.z ≡ length l.initial.z) × (l.z ≡ written 0 (4 * l.turn) (rows l.self.size l.self.work.now l.b) l.initial.z)
