-- `survey_checks::refusals::survey_refusal` meets its contract: what holds of every survey of so many wells with these codes holds of this one.
use Rattle.std.proofs.Common.{rules, ◌≡◌, sym, refl}
use Rattle.survey.specs.Lent.{survey_lent}
use Rattle.survey_checks.proofs.Parts.{by_limit, by_numbers, by_variogram}
use Rattle.survey_checks.proofs.refusals.survey_refusal.Goals as goal

pub returns-in_err-limit_refusal : goal.returns-in_err-limit_refusal
returns-in_err-limit_refusal c =
    let limit = c.in_err-limit_refusal.ensures (survey_lent c.args.survey.now) (sym c.wells.ensures) refl in
    search (rules, by_limit, limit)

pub returns-in_err-number_refusal : goal.returns-in_err-number_refusal
returns-in_err-number_refusal c =
    let limit = c.in_ok-limit_refusal.ensures (survey_lent c.args.survey.now) (sym c.wells.ensures) refl in
    search (rules, by_numbers, limit)

pub returns : goal.returns
returns c =
    let limit = c.in_ok-limit_refusal.ensures (survey_lent c.args.survey.now) (sym c.wells.ensures) refl in
    search (rules, by_variogram, limit)
