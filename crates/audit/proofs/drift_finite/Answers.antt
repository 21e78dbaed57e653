-- `audit::drift_finite` meets its contract. The invariants: the rows above row i are finite, and row i as far as column j; `at` is the entry's place.
-- The measures are the rows and the columns that are left.
use Rattle.std.proofs.Common.{◌≡◌, true, refl, arith}
use Rattle.audit.specs.Lists.{number_in, entry_in}
use lib.Ieee.Scale.{finite}
use Rattle.audit.proofs.Scan.{none_yet, one_more, row_finite, no_rows, one_row, bad_entry, no_columns, finite_inside}
use Rattle.audit.proofs.drift_finite.Goals as goal

-- return true; // there is no entry to look at
pub returns-then-columns-eq0 : goal.returns-then-columns-eq0
returns-then-columns-eq0 c = grind (arith, no_columns)

-- 'wells: for i in 0..wells
pub wells-init : goal.wells-init
wells-init c = (omega arith, omega arith, omega arith, refl, no_rows _ _)

-- for j in 0..columns
pub loop-j-init : goal.loop-j-init
loop-j-init c = (omega arith, omega arith, omega arith, omega arith, c.wells.invariant.3, c.wells.invariant.4, none_yet _)

pub loop-j-preserved : goal.loop-j-preserved
loop-j-preserved c =
    let v = c.loop-j.invariant in
    let looked : finite (number_in c.args.drift.now c.loop-j.at) ≡ true = cc in
    let good : finite (entry_in c.args.drift.now c.args.columns c.wells.i c.loop-j.j) ≡ true = cc in
    let inside = finite_inside c.args.drift.now c.loop-j.at looked in
    (omega arith, omega arith, omega arith, omega arith, v.4, v.5, one_more _ _ v.6 good)

pub wells-preserved : goal.wells-preserved
wells-preserved c =
    let a = c.args in
    let v = c.loop-j.invariant in
    let end : c.loop-j.j ≡ a.columns = omega arith in
    let row : row_finite a.drift.now a.columns c.wells.i a.columns ≡ true = cc in
    (omega arith, omega arith, omega arith, v.4, one_row a.drift.now a.columns c.wells.i v.5 row)

pub returns-then-not-finite_at : goal.returns-then-not-finite_at
returns-then-not-finite_at c = grind (arith, bad_entry)
