-- The text of a fit by how it ended, and that of a file by how it was read.
use Prim.Native.Nat.{ℕ, zero, suc}
use mathlib.Core.Path.{◌≡◌, refl, ap, sym, ◌∙◌}
use mathlib.Core.Logic.{◌≢◌, inl, inr}
use mathlib.Core.Bool.{Bool, cond}
use mathlib.Core.List.{List}
use Rattle.std.specs.Prelude.{Result, Ok, Err, length, ◌≤◌}
use Rattle.error.specs.declared.Refusal.{Refusal}
use Rattle.error.specs.Numbers.{number_of}
use Rattle.error.specs.Outcome.{Outcome, outcome, ended}
use Rattle.error.specs.Rules.{Ruled}
use Rattle.error.proofs.First.{numbers}
use Rattle.error.proofs.Tells.{affirm, refute}
use Rattle.survey.specs.Limits.{program}
use Rattle.survey.specs.Survey.{Survey}
use Rattle.kriging_theory.specs.Areas.{Areas}
use Rattle.kriging_theory.specs.Fit.{fitted}
use Rattle.survey_file_theory.specs.File.{newest_version}
use Rattle.survey_file_theory.specs.Rules.{WellFormed, reader_rules, Malformed}
use Rattle.survey_file_theory.specs.Areas.{Areas as File}
use Rattle.survey_file_theory.specs.Reader.{survey_in, outcome_of, Ends}
use Rattle.survey_file_theory.proofs.Told.{malformed_told}
use Rattle.survey_file_theory.proofs.WellFormed.{well_formed_exactly, room_exactly}
use Rattle.report.specs.Listing.{refused_text, longest}
use Rattle.report.specs.Printed.{Outcome as Printing, printed}
use Rattle.survey_map.specs.Areas.{own_lists, own_areas}
use Rattle.survey_map.specs.Text.{fit_text, survey_text, file_text}
use Rattle.survey_map.proofs.Own.{lists_fit}

-- ---- a fit
module _ (s : Survey) (a : Areas) where
  pub done_text : outcome 0 a ≡ fitted program s own_areas → fit_text 0 s a ≡ survey_text s
  unfolding survey_text
  done_text e = ap (λ (o : Outcome Areas). fit_text o.number s o.areas) e

  module _ {e : Result (Unit {0}) Refusal} (ending : ended e a ≡ fitted program s own_areas) where
    pub fit_done : e ≡ Ok tt → outcome 0 a ≡ fitted program s own_areas
    fit_done is = ap (λ (x : Result (Unit {0}) Refusal). ended x a) (sym is) ∙ ending

    refusal_text : {r : Refusal} → e ≡ Err r → refused_text (number_of r) ≡ survey_text s
    unfolding survey_text
    refusal_text {r} is =
        go (number_of r) (numbers r)
        ∙ ap (λ (o : Outcome Areas). fit_text o.number s o.areas) (ap (λ (x : Result (Unit {0}) Refusal). ended x a) (sym is) ∙ ending)
      where
        go : (k : ℕ) → k ≢ 0 → refused_text k ≡ fit_text k s a
        go zero n = absurd (n refl)
        go (suc k) n = refl

    pub refusal_printed : {r : Refusal} {o : Printing} (area : List ℕ) → e ≡ Err r → o ≡ printed (refused_text (number_of r)) area
        → o ≡ printed (survey_text s) area
    refusal_printed area is h = rw (← refusal_text is) h

    pub refusal_longest : {r : Refusal} → e ≡ Err r → length (refused_text (number_of r)) ≤ longest → length (survey_text s) ≤ longest
    refusal_longest is h = rw (← refusal_text is) h

-- what `print_fit` is proved by
pub ruleset endings = (fit_done, refusal_printed, refusal_longest)

-- ---- a file
module _ (bytes : List ℕ) where
  pub read_text : WellFormed newest_version bytes → survey_text (survey_in bytes) ≡ file_text bytes
  unfolding file_text
  read_text w =
      sym (ap (λ (b : Bool). cond b (refused_text 16) (survey_text (survey_in bytes)))
      (refute (malformed_told newest_version bytes) ((well_formed_exactly newest_version bytes).0 w)))

  pub malformed_text : Malformed newest_version bytes → refused_text 16 ≡ file_text bytes
  unfolding file_text
  malformed_text m =
      sym (ap (λ (b : Bool). cond b (refused_text 16) (survey_text (survey_in bytes))) (affirm (malformed_told newest_version bytes) m))

  -- what the reader turns away with the program's areas it turns away by 16
  by_sixteen : (r : Refusal) → Ruled (reader_rules newest_version bytes own_lists) (number_of r) → refused_text (number_of r) ≡ file_text bytes
  by_sixteen r (inl x) = ap refused_text x.1 ∙ malformed_text x.0
  by_sixteen r (inr (m, inl x)) = absurd ((room_exactly bytes own_lists).0 (lists_fit bytes ((well_formed_exactly newest_version bytes).1 m)) x.0)
  by_sixteen r (inr (m, inr x)) = absurd (numbers r x.1)

  pub unread_text : (r : Refusal) (after : File) → Ends newest_version bytes own_lists (outcome_of (Err r) after)
      → refused_text (number_of r) ≡ file_text bytes
  unread_text r after ends = by_sixteen r ((ends.ruled (number_of r)).0 refl)
