-- A fit's tests, part after part: the first that turns it away gives the number of the whole.
use Rattle.std.proofs.Common.{arith, ℕ, ◌+◌, ◌*◌, ◌^◌, ◌<◌, ◌≡◌, ◌∙◌, ◌++◌, refl, sym, ap, Bool, true, false, [], length, ltb}
use Rattle.error.specs.declared.Refusal.{Refusal}
use Rattle.error.specs.declared.Refusal.TheVariants.{WorkArea, AnswerArea}
use Rattle.error.specs.Numbers.{number_of}
use Rattle.error.specs.Tests.{first_of}
use Rattle.error.specs.Short.{too_short}
use Rattle.error.proofs.First.{here, past, none, turned_away, first_later}
use Rattle.elimination.specs.Call.{work_tests}
use Rattle.survey.specs.declared.Limits.{Limits}
use Rattle.survey.specs.Survey.{Survey, wells, node_count, columns, columns_held, size}
use Rattle.survey.specs.Refusals.{survey_tests, survey_refusal}
use Rattle.survey.proofs.Accepted.{survey_first, counted_exactly}
use Rattle.kriging_theory.specs.Areas.{Areas, answer_areas}
use Rattle.kriging_theory.specs.Refusals.{answer_tests, tests, refusal}

whole : (limits : Limits) (s : Survey) (a : Areas)
    → refusal limits s a ≡ first_of (survey_tests limits s (node_count s) s.node_external ++ (work_tests (size s) a.work ++ answer_tests s a))
unfolding refusal tests
whole limits s a = refl

past_survey : (limits : Limits) (s : Survey) (a : Areas) → 0 ≡ survey_refusal limits s
    → refusal limits s a ≡ first_of (work_tests (size s) a.work ++ answer_tests s a)
unfolding survey_tests
past_survey limits s a e =
    whole limits s a ∙ first_later (survey_tests limits s (node_count s) s.node_external) _ tt (sym (e ∙ survey_first limits s))

pub by_survey : (limits : Limits) (s : Survey) (a : Areas) (r : Refusal) → number_of r ≡ survey_refusal limits s → number_of r ≡ refusal limits s a
by_survey limits s a r e = turned_away r (survey_tests limits s (node_count s) s.node_external) _ (e ∙ survey_first limits s) ∙ sym (whole limits s a)

-- past the survey's refusals: n wells, and p columns as they are counted, which are all of them
module _ (limits : Limits) (s : Survey) (a : Areas) (told : 0 ≡ survey_refusal limits s) (few : wells s < 2 ^ 60)
    (n p : ℕ) (all : n ≡ wells s) (held : p ≡ columns_held s.bases) where
  exactly : columns s ≡ p
  exactly = sym (held ∙ counted_exactly limits s (sym told) few)

  -- w says whether the work area is too short
  module _ (w : Bool) (work : w ≡ ltb (length a.work) (2 * (n + p) * (n + p))) where
    work_is : w ≡ ltb (length a.work) (2 * size s * size s)
    work_is = let whole_size : n + p ≡ size s = omega (arith, exactly) in work ∙ ap (λ (k : ℕ). ltb (length a.work) (2 * k * k)) whole_size

    pub by_work : w ≡ true → number_of WorkArea ≡ refusal limits s a
    by_work h = sym (past_survey limits s a told ∙ here 17 (answer_tests s a) (sym work_is ∙ h))

    -- it is not, and b says whether an answer area is
    module _ (long : w ≡ false) (b : Bool) (answers : columns s ≡ p → b ≡ too_short (answer_areas s a)) where
      past_work : refusal limits s a ≡ first_of (answer_tests s a)
      past_work = past_survey limits s a told ∙ past 17 (answer_tests s a) (sym work_is ∙ long)

      pub by_answer : b ≡ true → number_of AnswerArea ≡ refusal limits s a
      by_answer h = sym (past_work ∙ here 18 [] (sym (answers exactly) ∙ h))

      pub by_none : b ≡ false → 0 ≡ refusal limits s a
      by_none h = sym (past_work ∙ past 18 [] (sym (answers exactly) ∙ h) ∙ none)
