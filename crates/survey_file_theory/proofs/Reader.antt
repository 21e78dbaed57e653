-- How the reader's call ends: each number exactly when, in areas that hold the lists or are as they were.
use Prim.Native.Nat.{ℕ, zero, suc}
use native.Mathlib.Omega.{arith}
use mathlib.Core.Path.{◌≡◌, refl, ap, sym, ◌∙◌, subst}
use mathlib.Core.Logic.{◌↔◌, ◌≢◌, inl, inr}
use mathlib.Core.List.{List}
use mathlib.Core.Option.{none, some}
use Rattle.error.specs.Rules.{Ruled}
use Rattle.error.proofs.Rules.{ruled_exactly, none_exactly}
use Rattle.survey.specs.Survey.{Survey}
use Rattle.survey_file_theory.specs.Areas.{Areas, filled_with}
use Rattle.survey_file_theory.specs.Trailer.{wells_in, nodes_in, bases_in}
use Rattle.survey_file_theory.specs.Rules.{WellFormed, ListsFit, reader_rules}
use Rattle.survey_file_theory.specs.Refusals.{reader_refusal}
use Rattle.survey_file_theory.specs.Reader.{survey_in, read_bytes, header_of, call_where, reader, Reads, Ends}
use Rattle.survey_file_theory.proofs.Told.{reader_told}
use Rattle.survey_file_theory.proofs.WellFormed.{well_formed_exactly, malformed_exactly, room_exactly, short_exactly}
use Rattle.survey_file_theory.proofs.WellFormed.{reads, read_well_formed, refused_exactly}
use Rattle.survey_file_theory.proofs.Lengths.{lengths, filled}

module _ (newest : ℕ) (bytes : List ℕ) (areas : Areas) where
  -- ---- the number
  number_is : (reader newest bytes areas).number ≡ reader_refusal newest bytes areas
  unfolding reader call_where
  number_is = go (reader_refusal newest bytes areas)
    where
      go : (k : ℕ) → (call_where k bytes areas).number ≡ k
      go zero = refl
      go (suc k) = refl

  pub reader_ruled : (k : ℕ) → ((reader newest bytes areas).number ≡ k) ↔ Ruled (reader_rules newest bytes areas) k
  unfolding reader_refusal
  reader_ruled k =
      let r = ruled_exactly (reader_told newest bytes areas) k in
      (λ e. r.0 (sym number_is ∙ e), λ x. number_is ∙ r.1 x)

  pub read_exactly : ((reader newest bytes areas).number ≡ 0) ↔ (WellFormed newest bytes × ListsFit bytes areas)
  unfolding reader_refusal
  read_exactly =
      let n = none_exactly (reader_told newest bytes areas) tt in
      let w = well_formed_exactly newest bytes in
      let r = room_exactly bytes areas in (
        λ e. let x = n.0 (sym number_is ∙ e) in (w.1 x.0, r.1 x.1.0),
        λ x. number_is ∙ n.1 (w.0 x.0, (r.0 x.1, tt)),
      )

  pub sixteen_exactly : ((reader newest bytes areas).number ≡ 16) ↔ (¬ WellFormed newest bytes)
  sixteen_exactly = (λ e. there ((reader_ruled 16).0 e), λ n. (reader_ruled 16).1 (inl ((malformed_exactly newest bytes).1 n, refl)))
    where
      there : Ruled (reader_rules newest bytes areas) 16 → ¬ WellFormed newest bytes
      there (inl x) = (malformed_exactly newest bytes).0 x.0
      there (inr (m, inl x)) = absurd (let e = x.1 in omega arith)
      there (inr (m, inr x)) = absurd (let e = x.1 in omega arith)

  pub eighteen_exactly : ((reader newest bytes areas).number ≡ 18) ↔ (WellFormed newest bytes × (¬ ListsFit bytes areas))
  eighteen_exactly = (
    λ e. there ((reader_ruled 18).0 e),
    λ x. (reader_ruled 18).1 (inr ((well_formed_exactly newest bytes).0 x.0, inl ((short_exactly bytes areas).1 x.1, refl))),
  )
    where
      there : Ruled (reader_rules newest bytes areas) 18 → WellFormed newest bytes × (¬ ListsFit bytes areas)
      there (inl x) = absurd (let e = x.1 in omega arith)
      there (inr (m, inl x)) = ((well_formed_exactly newest bytes).1 m, (short_exactly bytes areas).0 x.0)
      there (inr (m, inr x)) = absurd (let e = x.1 in omega arith)

  -- what `read_bytes` refuses is what the call refuses by 16
  pub none_is_sixteen : (read_bytes newest bytes ≡ none) ↔ ((reader newest bytes areas).number ≡ 16)
  none_is_sixteen = (
    λ e. sixteen_exactly.1 ((refused_exactly newest bytes).0 e),
    λ e. (refused_exactly newest bytes).1 (sixteen_exactly.0 e),
  )

  -- ---- what the call leaves
  pub reader_reads : WellFormed newest bytes → ListsFit bytes areas → reader newest bytes areas ≡ call_where 0 bytes areas
  unfolding reader
  reader_reads w r = ap (λ (k : ℕ). call_where k bytes areas) (sym number_is ∙ read_exactly.1 (w, r))

  -- the answer is of what `read_bytes` reads
  pub reader_survey : (s : Survey) → read_bytes newest bytes ≡ some s → ListsFit bytes areas
      → reader newest bytes areas
      ≡ record { number = 0; header = some (header_of (wells_in bytes) (nodes_in bytes) (bases_in bytes) s); areas = filled_with s areas }
  unfolding call_where
  reader_survey s e r =
      let w = read_well_formed newest bytes s e in
      let f = reads newest bytes w in
      let is : survey_in bytes ≡ s = cc in
      reader_reads w r
      ∙ λ i. record { number = 0; header = some (header_of (wells_in bytes) (nodes_in bytes) (bases_in bytes) (is i)); areas = filled_with (is i) areas }

  -- "A refusal .. writes nothing"
  pub reader_untouched : (reader newest bytes areas).number ≢ 0 → ((reader newest bytes areas).header ≡ none) × ((reader newest bytes areas).areas ≡ areas)
  unfolding reader call_where
  reader_untouched n = go (reader_refusal newest bytes areas) n
    where
      go : (k : ℕ) → (call_where k bytes areas).number ≢ 0 → ((call_where k bytes areas).header ≡ none) × ((call_where k bytes areas).areas ≡ areas)
      go zero h = absurd (h refl)
      go (suc k) h = (refl, refl)

  done : WellFormed newest bytes → ListsFit bytes areas → Reads bytes areas (call_where 0 bytes areas)
  unfolding call_where
  done w r =
      let l = lengths newest bytes w in
      record { header = refl; lengths = l; filled = filled bytes (survey_in bytes) areas l r }

  pub reader_ends : Ends newest bytes areas (reader newest bytes areas)
  reader_ends =
      record {
        ruled = reader_ruled;
        accepted = read_exactly;
        refused = reader_untouched;
        reads = λ e. let x = read_exactly.0 e in subst (Reads bytes areas) (sym (reader_reads x.0 x.1)) (done x.0 x.1);
      }
