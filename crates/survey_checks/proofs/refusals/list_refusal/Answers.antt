-- `survey_checks::refusals::list_refusal` meets its contract: what holds of every survey with these codes holds of this one.
use Rattle.std.proofs.Common.{rules, ◌≡◌, ◌∙◌, ap, sym, refl, false}
use Rattle.std.proofs.lemmas.Result.{err_from_is_err_and}
use Rattle.error.specs.Numbers.{number_of, judged}
use Rattle.error.specs.Tests.{first_of}
use Rattle.survey.specs.Lent.{survey_lent}
use Rattle.survey.specs.Refusals.{wrong_coords, odd_nodes}
use Rattle.survey_checks.proofs.Parts.{by_codes}
use Rattle.survey_checks.proofs.refusals.list_refusal.Goals as goal

pub returns-in_err-basis_refusal : goal.returns-in_err-basis_refusal
returns-in_err-basis_refusal c =
    let codes = c.in_err-basis_refusal.ensures (survey_lent c.args.survey.now) (sym c.wells-2.ensures) refl (sym c.external_columns-k.ensures) refl refl in
    let handed = err_from_is_err_and c.from_residual.result c.from_residual.ensures.1 in
    let coords : wrong_coords (survey_lent c.args.survey.now) ≡ false = search rules in
    let nodes : odd_nodes (survey_lent c.args.survey.now) ≡ false = search rules in
    ap judged handed.1 ∙ ap number_of handed.2 ∙ by_codes (survey_lent c.args.survey.now) c.args.m _ coords nodes codes

pub returns-then-not-is_product : goal.returns-then-not-is_product
unfolding first_of
returns-then-not-is_product c =
    let codes = c.in_ok-basis_refusal.ensures (survey_lent c.args.survey.now) (sym c.wells-2.ensures) refl (sym c.external_columns-k.ensures) refl refl in
    search (rules, codes)

pub returns : goal.returns
unfolding first_of
returns c =
    let codes = c.in_ok-basis_refusal.ensures (survey_lent c.args.survey.now) (sym c.wells-2.ensures) refl (sym c.external_columns-k.ensures) refl refl in
    search (rules, codes)
