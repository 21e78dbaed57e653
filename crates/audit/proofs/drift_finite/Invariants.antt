-- `audit::drift_finite` meets its contract. The invariants: the rows above row i are finite, and row i as far as column j; `at` is the entry's place.
-- The measures are the rows and the columns that are left.
use Prim.Native.Nat.{◌+◌, ◌-◌, ◌*◌, ◌≤◌, ◌<◌}
use mathlib.Core.Path.{◌≡◌}
use mathlib.Core.Bool.{true}
use lib.ListN.{length}
use Rattle.audit.specs.Audit.{drift_finite}
use Rattle.audit.specs.Lists.{entry_in}
use Rattle.audit.proofs.Scan.{row_finite}
use Rattle.audit.proofs.drift_finite.Given as goal

abbrev pub invariant-loop-j : goal.invariant-loop-j
invariant-loop-j l =
    (l.i < l.wells) × (l.j ≤ l.columns) × (l.at ≡ l.i * l.columns + l.j) × (l.at ≤ length l.drift) × (l.good ≡ true)
    × (drift_finite l.i l.columns (entry_in l.drift l.columns) ≡ true) × (row_finite l.drift l.columns l.i l.j ≡ true)

abbrev pub decreases-loop-j : goal.decreases-loop-j
decreases-loop-j l = l.columns - l.j

abbrev pub invariant-wells : goal.invariant-wells
invariant-wells l =
    (l.i ≤ l.wells) × (l.at ≡ l.i * l.columns) × (l.at ≤ length l.drift) × (l.good ≡ true) × (drift_finite l.i l.columns (entry_in l.drift l.columns) ≡ true)

abbrev pub decreases-wells : goal.decreases-wells
decreases-wells l = l.wells - l.i
