-- `audit::audit_columns` meets its contract, by what each test that came before leaves of the verdict, and row by row.
use Rattle.std.proofs.Common.{◌≡◌, length, refl, arith, rules}
use Rattle.audit.proofs.Listed.{given, row_missed, row_passed, rows_end, column_row}
use Rattle.audit.proofs.audit_columns.Goals as goal

pub returns-then-not-all_finite : goal.returns-then-not-all_finite
returns-then-not-all_finite c = grind (rules, given)

pub returns-then-not-finite_drift : goal.returns-then-not-finite_drift
returns-then-not-finite_drift c = grind (rules, given)

pub returns-then-not-all_finite-2 : goal.returns-then-not-all_finite-2
returns-then-not-all_finite-2 c = grind (rules, given)

pub loop-j-init : goal.loop-j-init
loop-j-init c = (omega arith, refl, grind (rules, given))

pub returns-then-not-row_met : goal.returns-then-not-row_met
returns-then-not-row_met c = grind (arith, row_missed, column_row)

pub loop-j-preserved : goal.loop-j-preserved
loop-j-preserved c = (omega arith, refl, grind (arith, row_passed, column_row))

pub returns : goal.returns
returns c =
    let all : c.loop-j.j ≡ length c.args.f0.now = omega arith in
    grind (arith, rows_end)
