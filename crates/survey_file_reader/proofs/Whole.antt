-- The call's parts put together: what its judgement tells of the file and the areas, and what it comes to, refused or not.
use Prim.Native.Nat.{ℕ, zero, suc, ◌+◌, ◌≤◌}
use native.Mathlib.Omega.{arith}
use mathlib.Core.Path.{◌≡◌, ap, sym, subst, ◌∙◌}
use mathlib.Core.Bool.{Bool, false}
use mathlib.Core.List.{List}
use mathlib.Core.Option.{none, some}
use lib.Dec.{T}
use lib.ListN.{length}
use Rattle.std.specs.Prelude.{Result, Err}
use Rattle.error.specs.Numbers.{number_of}
use Rattle.error.specs.declared.Refusal.{Refusal}
use Rattle.error.proofs.First.{numbers}
use Rattle.survey_file_theory.specs.declared.Header.{Header}
use Rattle.survey_file_theory.specs.File.{trailer_length}
use Rattle.survey_file_theory.specs.Areas.{Areas, filled_with}
use Rattle.survey_file_theory.specs.Trailer.{wells_in, nodes_in, bases_in}
use Rattle.survey_file_theory.specs.Rules.{WellFormed, ListsFit}
use Rattle.survey_file_theory.specs.Refusals.{malformed, reader_refusal}
use Rattle.survey_file_theory.specs.Reader.{survey_in, header_of, Outcome, outcome_of, call_where, reader, Ends}
use Rattle.survey_file_theory.proofs.Told.{malformed_told}
use Rattle.survey_file_theory.proofs.WellFormed.{well_formed_exactly, codes_before}
use Rattle.survey_file_theory.proofs.Reader.{read_exactly, reader_ends}

module _ (newest : ℕ) (bytes : List ℕ) where
  -- past 16 there is room for the trailer and the codes before it
  pub codes_inside : malformed newest bytes ≡ false → trailer_length + bases_in bytes ≤ length bytes
  codes_inside e =
      let w = (well_formed_exactly newest bytes).1 (λ m. subst (λ (b : Bool). T b) e ((malformed_told newest bytes).back m)) in
      omega (arith, w.least, codes_before newest bytes w)

  -- past 18 too, the areas have room
  pub accepted : (areas : Areas) → reader_refusal newest bytes areas ≡ 0 → WellFormed newest bytes × ListsFit bytes areas
  unfolding reader call_where
  accepted areas e = (read_exactly newest bytes areas).0 (ap (λ (k : ℕ). (call_where k bytes areas).number) e)

  -- "A refusal carries only its number and writes nothing"
  pub refused_is : (areas : Areas) {h : Result Header Refusal} (r : Refusal) → h ≡ Err r → number_of r ≡ reader_refusal newest bytes areas
      → outcome_of h areas ≡ reader newest bytes areas
  unfolding reader call_where
  refused_is areas r is e = ap (λ (h : Result Header Refusal). outcome_of h areas) is ∙ go (reader_refusal newest bytes areas) e
    where
      go : (n : ℕ) → number_of r ≡ n → outcome_of (Err r) areas ≡ call_where n bytes areas
      go zero f = absurd (numbers r f)
      go (suc k) f = ap (λ (n : ℕ). record { number = n; header = none; areas = areas }) f

  pub done_is : (areas : Areas) {after : Areas} {h : Header} → reader_refusal newest bytes areas ≡ 0
      → h ≡ header_of (wells_in bytes) (nodes_in bytes) (bases_in bytes) (survey_in bytes) → after ≡ filled_with (survey_in bytes) areas
      → (record { number = 0; header = some h; areas = after }) ≡ reader newest bytes areas
  unfolding reader call_where
  done_is areas e f g =
      (λ i. record { number = 0; header = some (f i); areas = g i })
      ∙ sym (ap (λ (k : ℕ). call_where k bytes areas) e)

  -- what equals the definition has all that holds of it
  pub has_ends : (areas : Areas) {o : Outcome} → o ≡ reader newest bytes areas → Ends newest bytes areas o
  has_ends areas e = subst (Ends newest bytes areas) (sym e) (reader_ends newest bytes areas)
