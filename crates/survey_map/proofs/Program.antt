-- A fit by the limits of the program: what they turn away, and the library's fit of the rest.
use mathlib.Core.Path.{◌≡◌, ap, sym, ◌∙◌}
use Rattle.error.specs.declared.Refusal.{Refusal}
use Rattle.error.specs.Numbers.{number_of}
use Rattle.error.specs.Outcome.{Outcome, outcome}
use Rattle.survey.specs.declared.Limits.{Limits}
use Rattle.survey.specs.Limits.{library, program}
use Rattle.survey.specs.Survey.{Survey}
use Rattle.survey.specs.Refusals.{survey_refusal}
use Rattle.survey.proofs.Accepted.{few_wells}
use Rattle.kriging_theory.specs.Areas.{Areas}
use Rattle.kriging_theory.specs.Fit.{fitted}
use Rattle.kriging_theory.proofs.Limits.{survey_turned_away, up_to_48}

module _ {limits : Limits} (is : limits ≡ program) (s : Survey) (a : Areas) where
  judged_so : survey_refusal limits s ≡ survey_refusal program s
  judged_so = ap (λ (l : Limits). survey_refusal l s) is

  pub by_limits : (r : Refusal) → number_of r ≡ survey_refusal limits s → outcome (number_of r) a ≡ fitted program s a
  by_limits r e = survey_turned_away program s a r (e ∙ judged_so)

  pub by_library : {o : Outcome Areas} → 0 ≡ survey_refusal limits s → o ≡ fitted library s a → o ≡ fitted program s a
  by_library e h = h ∙ sym (up_to_48 s a (few_wells program s (sym (e ∙ judged_so))))
