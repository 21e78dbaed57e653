-- `solution::Inverse::four_rows` meets its contract: after j turns each sum has the first j terms of its row.
use Prim.Native.Nat.{◌+◌, ◌-◌, ◌≤◌}
use mathlib.Core.Path.{◌≡◌}
use Rattle.ieee.specs.Sums.{running_sum}
use Rattle.solution.proofs.Terms.{terms}
use Rattle.solution.proofs.Inverse.four_rows.Given as goal

abbrev pub invariant-loop-j : goal.invariant-loop-j
invariant-loop-j l =
    (l.j ≤ l.self.size) × (l.first ≡ running_sum l.j (terms l.self.size l.self.work.now l.b l.i)) × (l.second ≡ running_sum l.j (terms l.self.size l.self.work.now l.b (l.i + 1)))
    × (l.third ≡ running_sum l.j (terms l.self.size l.self.work.now l.b (l.i + 2))) × (l.fourth ≡ running_sum l.j (terms l.self.size l.self.work.now l.b (l.i + 3)))

abbrev pub decreases-loop-j : goal.decreases-loop-j
decreases-loop-j l = l.self.size - l.j
