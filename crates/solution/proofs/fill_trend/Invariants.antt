-- `solution::fill_trend` meets its contract: test by test, then row after row.
use Prim.Native.Nat.{◌-◌, ◌≤◌}
use mathlib.Core.Path.{◌≡◌}
use lib.ListN.{length}
use Rattle.area.specs.Area.{written}
use Rattle.system_theory.specs.Slopes.{slope}
use Rattle.solution.proofs.fill_trend.Given as goal

abbrev pub invariant-loop-j : goal.invariant-loop-j
invariant-loop-j l =
    (l.j ≤ l.p) × (length l.trend ≡ length l.initial.trend) × (l.trend ≡ written 0 l.j (slope l.size l.work l.values) l.initial.trend)

abbrev pub decreases-loop-j : goal.decreases-loop-j
decreases-loop-j l = l.p - l.j
