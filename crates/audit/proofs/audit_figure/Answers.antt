-- `audit::audit_figure` meets its contract, by what each test that came before leaves of the verdict.
use Rattle.std.proofs.Common.{rules}
use Rattle.audit.proofs.Listed.{joined}
use Rattle.audit.proofs.audit_figure.Goals as goal

pub returns-then-not-is_finite : goal.returns-then-not-is_finite
returns-then-not-is_finite c = search (rules, joined)

pub returns-then-number-ne0 : goal.returns-then-number-ne0
returns-then-number-ne0 c = grind (rules, joined)

pub returns-then-row_met : goal.returns-then-row_met
returns-then-row_met c = grind (rules, joined)

pub returns : goal.returns
returns c = grind (rules, joined)
