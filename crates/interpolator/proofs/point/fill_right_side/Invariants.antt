-- `interpolator::point::fill_right_side` meets its contract: after i turns b is what i stores write.
use Prim.Native.Nat.{◌≤◌, ◌-◌}
use mathlib.Core.Path.{◌≡◌}
use lib.ListN.{length}
use Rattle.area.specs.Area.{written}
use Rattle.interpolator.specs.Lent.{query_lent}
use Rattle.interpolator_theory.specs.Assembly.{column}
use Rattle.interpolator.proofs.point.fill_right_side.Given as goal

abbrev pub invariant-loop-i : goal.invariant-loop-i
invariant-loop-i l =
    (l.i ≤ l.known.size) × (length l.b ≡ length l.initial.b) × (l.b ≡ written 0 l.i (column (query_lent l.known.interpolator l.known.query) l.known.query.targets.now l.t) l.initial.b)

abbrev pub decreases-loop-i : goal.decreases-loop-i
decreases-loop-i l = l.known.size - l.i
