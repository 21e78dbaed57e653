-- `solution::Inverse::fill_last_rows` meets its contract: where z began as the first rows are written, it has i of them.
use Prim.Native.Nat.{◌-◌, ◌≤◌}
use mathlib.Core.Path.{◌≡◌}
use mathlib.Core.List.{List}
use lib.ListN.{length}
use lib.Ieee.{Float}
use Rattle.area.specs.Area.{written}
use Rattle.solution.proofs.Terms.{rows}
use Rattle.solution.proofs.Inverse.fill_last_rows.Given as goal

abbrev pub invariant-loop-i : goal.invariant-loop-i
invariant-loop-i l =
    (l.i ≤ l.self.size) × (length l.z ≡ length l.initial.z)
    × ((xs : List Float) → l.initial.z ≡ written 0 l.from (rows l.self.size l.self.work.now l.b) xs → l.z ≡ written 0 l.i (rows l.self.size l.self.work.now l.b) xs)

abbrev pub decreases-loop-i : goal.decreases-loop-i
decreases-loop-i l = l.self.size - l.i
