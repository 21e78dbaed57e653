-- `interpolator::assembly::build_covariance_matrix` meets its contract: after i turns the area holds the first i rows from the diagonal on.
use Prim.Native.Nat.{◌-◌, ◌≤◌}
use mathlib.Core.Path.{◌≡◌}
use lib.ListN.{length}
use Rattle.elimination.proofs.Upper.{upper}
use Rattle.interpolator.specs.Lent.{query_lent}
use Rattle.interpolator_theory.specs.Assembly.{entry}
use Rattle.interpolator.proofs.assembly.build_covariance_matrix.Given as goal

abbrev pub invariant-loop-i : goal.invariant-loop-i
invariant-loop-i l =
    (l.i ≤ l.known.size) × (length l.work ≡ length l.initial.work) × (l.work ≡ upper l.known.size (entry (query_lent l.known.interpolator l.known.query)) l.i l.initial.work)

abbrev pub decreases-loop-i : goal.decreases-loop-i
decreases-loop-i l = l.known.size - l.i
