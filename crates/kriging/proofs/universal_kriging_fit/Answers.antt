-- `kriging::universal_kriging_fit` meets its contract: turned away by its rules, or fitted; all that it says follows from the equation.
use Rattle.std.proofs.Common.{◌≡◌, ap, ◌∙◌}
use Rattle.std.proofs.lemmas.Result.{err_from_is_err_and}
use lib.Dec.{lit≤}
use Rattle.error.specs.Numbers.{number_of}
use Rattle.survey.specs.declared.Limits.{Limits}
use Rattle.survey.specs.Limits.{library}
use Rattle.survey.specs.Lent.{survey_lent}
use Rattle.kriging_theory.specs.Refusals.{refusal}
use Rattle.kriging_theory.proofs.Promise.{promised}
use Rattle.kriging.specs.Lent.{areas_lent}
use Rattle.kriging.proofs.Fitting.{refused_there}
use Rattle.kriging.proofs.universal_kriging_fit.Goals as goal

pub returns-in_err-fit_refusal-clause-promise : goal.returns-in_err-fit_refusal-clause-promise
returns-in_err-fit_refusal-clause-promise c =
    let s = survey_lent c.args.survey.now in
    let a = areas_lent c.args.areas.now in
    let r = c.in_err-fit_refusal.field-0.0 in
    let said : number_of r ≡ refusal library s a = c.in_err-fit_refusal.ensures ∙ ap (λ (l : Limits). refusal l s a) c.library.ensures in
    let p = err_from_is_err_and c.from_residual.result c.from_residual.ensures.1 in
    rw (p.1, p.2) (promised library (lit≤ tt) s a (refused_there s a r said))

pub returns-in_err-fit_refusal-clause-shown : goal.returns-in_err-fit_refusal-clause-shown
returns-in_err-fit_refusal-clause-shown c =
    let s = survey_lent c.args.survey.now in
    let a = areas_lent c.args.areas.now in
    let r = c.in_err-fit_refusal.field-0.0 in
    let said : number_of r ≡ refusal library s a = c.in_err-fit_refusal.ensures ∙ ap (λ (l : Limits). refusal l s a) c.library.ensures in
    let p = err_from_is_err_and c.from_residual.result c.from_residual.ensures.1 in
    let all = promised library (lit≤ tt) s a (refused_there s a r said) in
    rw (p.1, p.2) (all.equation, all.ruled, all.stopped, all.accepted, all.kept, all.kriged, all.bounded)

pub returns-clause-promise : goal.returns-clause-promise
returns-clause-promise c =
    promised library (lit≤ tt) (survey_lent c.args.survey.now) (areas_lent c.args.areas.now) c.fit_taken.ensures.fitted

pub returns-clause-shown : goal.returns-clause-shown
returns-clause-shown c =
    let all = promised library (lit≤ tt) (survey_lent c.args.survey.now) (areas_lent c.args.areas.now) c.fit_taken.ensures.fitted in
    (all.equation, all.ruled, all.stopped, all.accepted, all.kept, all.kriged, all.bounded)
