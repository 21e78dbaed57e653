-- `audit::audit_columns` meets its contract. The invariant: the verdict is that of the rows from row j + 1 on, since those before it are met.
use Prim.Native.Nat.{◌≤◌}
use mathlib.Core.Path.{◌≡◌}
use lib.ListN.{length}
use Rattle.audit.specs.Audit.{column_met, column_verdict_given}
use Rattle.audit.specs.Lists.{weighed_in}
use Rattle.audit.proofs.Listed.{missed_from}
use Rattle.audit.proofs.audit_columns.Given as goal

abbrev pub invariant-loop-j : goal.invariant-loop-j
invariant-loop-j l =
    let w = weighed_in l.weights l.drift l.f0 l.tolerance in
    (l.j ≤ length l.f0) × (l.j-end ≡ length l.f0) × (column_verdict_given l.finite_drift w ≡ missed_from (length l.f0) (column_met w) l.j)
