-- No area of the program is too short, whatever it reads: 17 and 18 never show.
use Prim.Native.Nat.{ℕ, zero, suc, ◌*◌, ◌≤◌, ◌<◌}
use native.Mathlib.Nat.{mul-le-mul}
use native.Mathlib.Omega.{arith}
use mathlib.Core.Path.{◌≡◌, sym}
use mathlib.Core.Logic.{◌≢◌, inl, inr}
use mathlib.Core.Bool.{Bool, true, false, cond}
use mathlib.Core.List.{List}
use lib.ListN.{length}
use Rattle.error.specs.Rules.{First, rules_before}
use Rattle.error.specs.Short.{TooShort}
use Rattle.error.proofs.Rules.{ruled_exactly, no_condition}
use Rattle.error.proofs.Short.{none_short}
use Rattle.survey.specs.Limits.{program, program_size}
use Rattle.survey.specs.Rules.{TooMany}
use Rattle.survey.specs.Survey.{Survey, wells, node_count, columns, size}
use Rattle.kriging_theory.specs.Areas.{Areas, answer_areas}
use Rattle.kriging_theory.specs.Rules.{rules}
use Rattle.kriging_theory.specs.Refusals.{refusal}
use Rattle.kriging_theory.specs.Fit.{fitted}
use Rattle.kriging_theory.proofs.Endings.{told, fit_ends, first_in_a_fit}
use Rattle.survey_file_theory.specs.File.{newest_version}
use Rattle.survey_file_theory.specs.Refusals.{malformed}
use Rattle.survey_file_theory.specs.Reader.{survey_in}
use Rattle.survey_file_theory.proofs.Reader.{eighteen_exactly}
use Rattle.report.specs.Listing.{refused_text}
use Rattle.report.proofs.Apart.{refusals_apart, listing_apart}
use Rattle.survey_map.specs.Areas.{own_lists, own_areas}
use Rattle.survey_map.specs.Text.{fit_text, survey_text, file_text, AmpleForFit, AmpleForFile}
use Rattle.survey_map.proofs.Own.{lists_fit, own_work, own_predicted, own_variance, own_verdicts, own_weights, own_multipliers, own_trend}

module _ (s : Survey) where
  -- a number that is given: its condition holds, and no rule before its own applies
  pub first : (k : ℕ) → k ≢ 0 → k ≢ 19 → (fitted program s own_areas).number ≡ k → First (rules program s own_areas) k
  unfolding refusal
  first k z n e =
      let r = ((fit_ends program s own_areas).refused k z n).0 e in
      (first_in_a_fit program s own_areas k).0 ((ruled_exactly (told program s own_areas) k).1 r, z)

  -- past 9 the counts are those of the areas
  work_fits : wells s ≤ program.wells → columns s ≤ program.columns → ¬ (length own_areas.work < 2 * size s * size s)
  work_fits n p l =
      let most : size s ≤ program_size = omega arith in
      let square = mul-le-mul most most in
      omega (arith, own_work)

  answer_fits : wells s ≤ program.wells → columns s ≤ program.columns → node_count s ≤ program.nodes → ¬ TooShort (answer_areas s own_areas)
  answer_fits n p m =
      let product = mul-le-mul n m in
      none_short (answer_areas s own_areas) (
        omega (arith, own_predicted),
        (
          omega (arith, own_variance),
          (
            omega (arith, own_verdicts),
            (omega (arith, own_weights), (omega (arith, own_multipliers), (omega (arith, own_trend), tt))),
          ),
        ),
      )

  at_most : {k most : ℕ} → ¬ (most < k) → k ≤ most
  at_most h = omega arith

  never_17 : (fitted program s own_areas).number ≢ 17
  never_17 e =
      let l = first 17 (λ x. omega arith) (λ x. omega arith) e in
      let few : ¬ TooMany program s (node_count s) = no_condition (rules_before 17 (rules program s own_areas)) l.none_before 9 in
      work_fits (at_most (λ x. few (inl x))) (at_most (λ x. few (inr (inl x)))) l.applies

  never_18 : (fitted program s own_areas).number ≢ 18
  never_18 e =
      let l = first 18 (λ x. omega arith) (λ x. omega arith) e in
      let few : ¬ TooMany program s (node_count s) = no_condition (rules_before 18 (rules program s own_areas)) l.none_before 9 in
      answer_fits (at_most (λ x. few (inl x))) (at_most (λ x. few (inr (inl x)))) (at_most (λ x. few (inr (inr x)))) l.applies

  -- so that neither is printed
  pub apart : (k : ℕ) → (fitted program s own_areas).number ≢ k → survey_text s ≢ refused_text k
  unfolding survey_text
  apart k n = let o = fitted program s own_areas in go o.number o.areas n
    where
      go : (j : ℕ) (a : Areas) → j ≢ k → fit_text j s a ≢ refused_text k
      go zero a d e = listing_apart _ _ _ _ _ k e
      go (suc j) a d e = d (refusals_apart (suc j) k e)

  pub ample_for_fit : AmpleForFit s
  ample_for_fit = record { work = never_17; answer = never_18; never_17 = apart 17 never_17; never_18 = apart 18 never_18 }

module _ (bytes : List ℕ) where
  pub file_apart : (k : ℕ) → k ≢ 16 → survey_text (survey_in bytes) ≢ refused_text k → file_text bytes ≢ refused_text k
  unfolding file_text
  file_apart k n d = go (malformed newest_version bytes)
    where
      go : (b : Bool) → cond b (refused_text 16) (survey_text (survey_in bytes)) ≢ refused_text k
      go true e = n (sym (refusals_apart 16 k e))
      go false e = d e

  pub ample_for_file : AmpleForFile bytes
  ample_for_file =
      let s = ample_for_fit (survey_in bytes) in
      record {
        lists = λ e. let x = (eighteen_exactly newest_version bytes own_lists).0 e in x.1 (lists_fit bytes x.0);
        never_17 = file_apart 17 (λ x. omega arith) s.never_17;
        never_18 = file_apart 18 (λ x. omega arith) s.never_18;
      }
