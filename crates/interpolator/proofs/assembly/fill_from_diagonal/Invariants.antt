-- `interpolator::assembly::fill_from_diagonal` meets its contract: at column j the area is what the stores from the diagonal on wrote.
use Prim.Native.Nat.{◌+◌, ◌*◌, ◌-◌, ◌≤◌}
use mathlib.Core.Path.{◌≡◌}
use lib.ListN.{length}
use Rattle.area.specs.Area.{written}
use Rattle.interpolator.specs.Lent.{query_lent}
use Rattle.interpolator_theory.specs.Assembly.{entry}
use Rattle.interpolator.proofs.assembly.fill_from_diagonal.Given as goal

abbrev pub invariant-loop-j : goal.invariant-loop-j
invariant-loop-j l =
    (l.i ≤ l.j) × (l.j ≤ l.known.size) × (l.row ≡ l.i * (2 * l.known.size)) × (length l.work ≡ length l.initial.work)
    × (l.work ≡ written (l.i * (2 * l.known.size) + l.i) (l.j - l.i) (λ c. entry (query_lent l.known.interpolator l.known.query) l.i (l.i + c)) l.initial.work)

abbrev pub decreases-loop-j : goal.decreases-loop-j
decreases-loop-j l = l.known.size - l.j
