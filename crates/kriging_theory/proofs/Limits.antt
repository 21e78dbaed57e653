-- The limits of the library and those of the program: 9 by either, a survey that they turn away, and that both give one fit up to 48 wells.
use Prim.Native.Nat.{◌≤◌, ◌<◌}
use native.Mathlib.Omega.{arith}
use mathlib.Core.Path.{◌≡◌, refl, ap, sym, ◌∙◌}
use mathlib.Core.Logic.{◌⊎◌}
use mathlib.Core.Bool.{Bool}
use mathlib.Core.List.{[], ◌∷◌, ◌++◌}
use Rattle.error.specs.declared.Refusal.{Refusal}
use Rattle.error.specs.Numbers.{number_of}
use Rattle.error.specs.Outcome.{outcome}
use Rattle.error.specs.Tests.{test, first_of}
use Rattle.error.specs.Rules.{Condition}
use Rattle.error.proofs.First.{other, first_given, numbers}
use Rattle.error.proofs.Tells.{refute, below}
use Rattle.elimination.specs.Call.{work_tests}
use Rattle.elimination.proofs.Call.{refused_there}
use Rattle.survey.specs.declared.Limits.{Limits}
use Rattle.survey.specs.Limits.{library, program}
use Rattle.survey.specs.Survey.{Survey, wells, node_count, columns, size}
use Rattle.survey.specs.Refusals.{too_many, list_tests, number_tests, variogram_tests, survey_tests, survey_refusal}
use Rattle.kriging_theory.specs.Areas.{Areas}
use Rattle.kriging_theory.specs.Rules.{rules}
use Rattle.kriging_theory.specs.Refusals.{answer_tests, tests, refusal}
use Rattle.kriging_theory.specs.Fit.{fit_call, fitted}

-- ---- 9, by its figures
-- "n > 48, p > 12 or m > 100", with "n > 96 in place of n > 48 in the library calls"
pub too_many_in_the_library : (s : Survey) (a : Areas) → Condition (rules library s a) 9 ≡ ((96 < wells s) ⊎ (12 < columns s) ⊎ (100 < node_count s))
too_many_in_the_library s a = refl

-- "`wellmap` gives 9 above 48"
pub too_many_in_the_program : (s : Survey) (a : Areas) → Condition (rules program s a) 9 ≡ ((48 < wells s) ⊎ (12 < columns s) ⊎ (100 < node_count s))
too_many_in_the_program s a = refl

-- ---- what turns the survey away turns its fit away, whatever areas are lent
module _ (limits : Limits) (s : Survey) (a : Areas) where
  pub survey_turned_away : (r : Refusal) → number_of r ≡ survey_refusal limits s → outcome (number_of r) a ≡ fitted limits s a
  unfolding fitted refusal tests survey_refusal
  survey_turned_away r e =
      let ts = survey_tests limits s (node_count s) s.node_external in
      let us = work_tests (size s) a.work ++ answer_tests s a in
      refused_there (fit_call limits s a) r (e ∙ sym (first_given ts us (λ z. numbers r (e ∙ z))))

-- ---- up to 48 wells the two do not differ, accepted or refused
module _ (s : Survey) (a : Areas) (few : wells s ≤ program.wells) where
  same_nine : too_many program s (node_count s) ≡ too_many library s (node_count s)
  same_nine =
      let in_program = refute (below program.wells (wells s)) (λ l. omega arith) in
      let in_library = refute (below library.wells (wells s)) (λ l. omega arith) in
      other _ in_program ∙ sym (other _ in_library)

  same_refusal : refusal program s a ≡ refusal library s a
  unfolding refusal tests survey_tests
  same_refusal =
      let lists = list_tests s (node_count s) s.node_external in
      let later = number_tests s s.node_external ++ variogram_tests s.options.variogram in
      let areas = work_tests (size s) a.work ++ answer_tests s a in
      ap (λ (b : Bool). first_of ((lists ++ ((test 9 b ∷ []) ++ later)) ++ areas)) same_nine

  pub up_to_48 : fitted program s a ≡ fitted library s a
  unfolding fitted
  up_to_48 = rw same_refusal
