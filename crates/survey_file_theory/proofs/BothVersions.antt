-- Paper 02, slip 7, word by word: what old and new readers take of what old and new writers write, and the version by its place in the file.
use Prim.Native.Nat.{ℕ, zero, suc, ◌+◌, ◌-◌, ◌≤◌, ◌<◌}
use native.Mathlib.Omega.{arith}
use mathlib.Core.Path.{◌≡◌, refl, ap, sym, ◌∙◌}
use mathlib.Core.Logic.{◌≢◌, ◌⊎◌, inl, inr}
use mathlib.Core.Bool.{Bool, true, false, not, ◌||◌}
use mathlib.Core.List.{List, [], ◌∷◌, ◌++◌}
use mathlib.Core.Option.{none, some}
use lib.Dec.{eqb, ltb}
use lib.ListN.{length, get_or, take, length-append}
use lib.Seq.{drop_at, get_or-drop}
use Rattle.area.specs.Area.{copied}
use Rattle.error.specs.Tests.{Test, test, first_of}
use Rattle.error.specs.Short.{too_short}
use Rattle.error.proofs.Tells.{refute, below}
use Rattle.ieee.specs.Bytes.{little_endian}
use Rattle.survey.specs.Survey.{Survey, wells, node_count}
use Rattle.survey.specs.Refusals.{wrong_coords, odd_nodes, wrong_external, wrong_node_external}
use Rattle.survey.specs.Rules.{WrongCoords, OddNodes, WrongExternal, WrongNodeExternal}
use Rattle.survey_file_theory.specs.File.{longest_file, greatest_count, most_wells, old_version, newest_version, version_taken, version_for}
use Rattle.survey_file_theory.specs.File.{model_number, body, trailer, file_of, writer_file}
use Rattle.survey_file_theory.specs.Areas.{Areas, list_areas}
use Rattle.survey_file_theory.specs.Trailer.{length_in, wells_in, model_in, version_in, zero_in, last_zero_in}
use Rattle.survey_file_theory.specs.Rules.{VersionTaken, WellFormed, SomeNumberNotFinite, OtherSpot}
use Rattle.survey_file_theory.specs.Refusals.{malformed, reader_refusal, some_number_not_finite, other_spot, writer_refusal}
use Rattle.survey_file_theory.specs.Reader.{read_bytes, reader}
use Rattle.survey_file_theory.specs.Reader as Reader
use Rattle.survey_file_theory.specs.Writer.{Outcome, call_where, writer}
use Rattle.survey_file_theory.proofs.Told.{malformed_told}
use Rattle.survey_file_theory.proofs.WellFormed.{well_formed_exactly, reads, refuses}
use Rattle.survey_file_theory.proofs.Version.{stays_1, above_48}
use Rattle.survey_file_theory.proofs.ReadBack.{length-trailer, trailer_version}
use Rattle.survey_file_theory.proofs.Reader.{sixteen_exactly}
use Rattle.survey_file_theory.proofs.Writer.{writer_ruled}
use Rattle.survey_file_theory.proofs.RoundTrip.{wrote_file, wrote_few}

-- ---- by figures
-- "version 1 at any n as before; a version 2 file must have n from 49 to 96": versions 0 and 3 are none
pub versions_taken : (version_taken newest_version 1 0 ≡ true)
    × (version_taken newest_version 1 48 ≡ true)
    × (version_taken newest_version 1 97 ≡ true)
    × (version_taken newest_version 1 65535 ≡ true)
    × (version_taken newest_version 2 0 ≡ false)
    × (version_taken newest_version 2 48 ≡ false)
    × (version_taken newest_version 2 49 ≡ true)
    × (version_taken newest_version 2 96 ≡ true)
    × (version_taken newest_version 2 97 ≡ false)
    × (version_taken newest_version 0 49 ≡ false)
    × (version_taken newest_version 3 49 ≡ false)
versions_taken = (refl, refl, refl, refl, refl, refl, refl, refl, refl, refl, refl)

-- "A survey above 48 wells is written with version 2"
pub versions_written : (version_for newest_version 0 ≡ 1)
    × (version_for newest_version 48 ≡ 1)
    × (version_for newest_version 49 ≡ 2)
    × (version_for newest_version 96 ≡ 2)
versions_written = (refl, refl, refl, refl)

-- ---- "a version 2 file must have n from 49 to 96, else 16", and so "another .. version"
pub version_2_outside : (bytes : List ℕ) (areas : Areas) → version_in bytes ≡ 2 → (wells_in bytes ≤ 48) ⊎ (97 ≤ wells_in bytes)
    → (reader newest_version bytes areas).number ≡ 16
version_2_outside bytes areas e h = (sixteen_exactly newest_version bytes areas).1 (λ w. never w.version_taken_lem h)
  where
    never : VersionTaken newest_version (version_in bytes) (wells_in bytes) → (wells_in bytes ≤ 48) ⊎ (97 ≤ wells_in bytes) → ⊥
    never (inl v) few = omega arith
    never (inr (v, (least, most))) (inl few) = omega arith
    never (inr (v, (least, most))) (inr many) = omega arith

pub other_version : (bytes : List ℕ) (areas : Areas) → version_in bytes ≢ 1 → version_in bytes ≢ 2 → (reader newest_version bytes areas).number ≡ 16
other_version bytes areas d e = (sixteen_exactly newest_version bytes areas).1 (λ w. never w.version_taken_lem)
  where
    never : VersionTaken newest_version (version_in bytes) (wells_in bytes) → ⊥
    never (inl v) = d v
    never (inr (v, _)) = e v

-- ---- "An old reader refuses version 2 by 16"
-- what an old reader refuses by 16, in full: it knows one version and looks at no n
pub old_malformed : (bytes : List ℕ)
    → malformed old_version bytes
    ≡ (ltb (length bytes) 14
    || (ltb 65536 (length bytes)
    || (not (eqb (length bytes) (length_in bytes))
    || (ltb (model_in bytes) 1
    || (ltb 4 (model_in bytes) || (not (eqb (version_in bytes) 1) || (not (eqb (zero_in bytes) 0) || not (eqb (last_zero_in bytes) 0))))))))
old_malformed bytes = refl

not_old : (bytes : List ℕ) → version_in bytes ≡ 2 → ¬ WellFormed old_version bytes
not_old bytes e w = let v = w.version_taken_lem in omega arith

pub old_reader : (bytes : List ℕ) → version_in bytes ≡ 2 → read_bytes old_version bytes ≡ none
old_reader bytes e = refuses old_version bytes (not_old bytes e)

pub old_reader_16 : (bytes : List ℕ) (areas : Areas) → version_in bytes ≡ 2 → (reader old_version bytes areas).number ≡ 16
old_reader_16 bytes areas e = (sixteen_exactly old_version bytes areas).1 (not_old bytes e)

-- ---- "version 1 at any n as before": what an old reader took is read as it was
still_well_formed : (bytes : List ℕ) → WellFormed old_version bytes → WellFormed newest_version bytes
still_well_formed bytes w =
    record {
      least = w.least;
      most = w.most;
      meet = w.meet;
      model_least = w.model_least;
      model_most = w.model_most;
      version_taken_lem = inl w.version_taken_lem;
      zero_byte = w.zero_byte;
      last_zero_byte = w.last_zero_byte;
    }

pub old_files : (bytes : List ℕ) → WellFormed old_version bytes → read_bytes newest_version bytes ≡ read_bytes old_version bytes
old_files bytes w = reads newest_version bytes (still_well_formed bytes w) ∙ sym (reads old_version bytes w)

well_read : (newest : ℕ) (bytes : List ℕ) → WellFormed newest bytes → malformed newest bytes ≡ false
well_read newest bytes w = refute (malformed_told newest bytes) ((well_formed_exactly newest bytes).0 w)

-- the whole call, with its areas
pub old_files_call : (bytes : List ℕ) (areas : Areas) → WellFormed old_version bytes → reader newest_version bytes areas ≡ reader old_version bytes areas
unfolding reader reader_refusal
old_files_call bytes areas w =
    ap (λ (b : Bool). Reader.call_where (first_of (test 16 b ∷ test 18 (too_short (list_areas bytes areas)) ∷ [])) bytes areas)
    (well_read newest_version bytes (still_well_formed bytes w) ∙ sym (well_read old_version bytes w))

-- ---- the version of what is written, by its place: the third byte from the end
module _ (newest : ℕ) (s : Survey) where
  length-written : length (writer_file newest s) ≡ length (body s) + 14
  unfolding writer_file file_of
  length-written =
      let t = length-trailer newest 0 s in
      let a = length-append (body s) (trailer newest 0 s) in
      omega arith

  version_written : version_in (writer_file newest s) ≡ version_for newest (wells s)
  unfolding writer_file file_of
  version_written =
      let l = length-written in
      ap (λ (t : List ℕ). get_or t 11 0) (drop_at (body s) (trailer newest 0 s) (length (writer_file newest s) - 14) (omega arith))
      ∙ trailer_version newest 0 s

  third_from_end : get_or (writer_file newest s) (length (writer_file newest s) - 3) 0 ≡ version_for newest (wells s)
  third_from_end =
      let l = length-written in
      let at : length (writer_file newest s) - 14 + 11 ≡ length (writer_file newest s) - 3 = omega arith in
      sym (ap (λ (k : ℕ). get_or (writer_file newest s) k 0) at)
      ∙ sym (get_or-drop (length (writer_file newest s) - 14) (writer_file newest s) 11 0)
      ∙ version_written

pub byte_1 : (s : Survey) → wells s ≤ 48 → get_or (writer_file newest_version s) (length (writer_file newest_version s) - 3) 0 ≡ 1
byte_1 s h = third_from_end newest_version s ∙ stays_1 (wells s) h

pub byte_2 : (s : Survey) → 49 ≤ wells s → get_or (writer_file newest_version s) (length (writer_file newest_version s) - 3) 0 ≡ 2
byte_2 s h = third_from_end newest_version s ∙ above_48 (wells s) (omega arith)

-- ---- "others stay version 1": up to 48 wells the file is the old writer's, byte by byte
pub up_to_48 : (s : Survey) → wells s ≤ 48 → writer_file newest_version s ≡ writer_file old_version s
unfolding writer_file file_of trailer
up_to_48 s h =
    let counts = little_endian 4 0 ++ little_endian 2 (wells s) ++ little_endian 2 (node_count s) ++ little_endian 2 (length s.bases) in
    ap (λ (v : ℕ). body s ++ (counts ++ (model_number s.options.variogram.model ∷ v ∷ 0 ∷ 0 ∷ []))) (stays_1 (wells s) h)

-- and the call is the old writer's, refused or not
abbrev ends_with : ℕ → List ℕ → List ℕ → Outcome
ends_with zero file area = record { number = 0; count = some (length file); area = copied 0 file area }
ends_with (suc k) file area = record { number = suc k; count = none; area = area }

ends_with_lem : (k newest : ℕ) (s : Survey) (area : List ℕ) → call_where k newest s area ≡ ends_with k (writer_file newest s) area
unfolding call_where
ends_with_lem zero newest s area = refl
ends_with_lem (suc k) newest s area = refl

-- the writer's tests by the file, and by whether the wells are too many
abbrev tests_of : Survey → List ℕ → Bool → List ℕ → List Test
tests_of s file many area =
    test 1 (wrong_coords s)
    ∷ test 2 (odd_nodes s)
    ∷ test 6 (wrong_external s)
    ∷ test 8 (wrong_node_external s (node_count s) s.node_external)
    ∷ test 11 (some_number_not_finite s)
    ∷ test 22 (other_spot s)
    ∷ test 16 (ltb longest_file (length file) || (many || (ltb greatest_count (node_count s) || ltb greatest_count (length s.bases))))
    ∷ test 18 (ltb (length area) (length file))
    ∷ []

by_file : (newest : ℕ) (s : Survey) (area : List ℕ) → let file = writer_file newest s in
    writer newest s area ≡ ends_with (first_of (tests_of s file (ltb (most_wells newest) (wells s)) area)) file area
unfolding writer writer_refusal
by_file newest s area = ends_with_lem (writer_refusal newest s area) newest s area

pub old_writer : (s : Survey) (area : List ℕ) → wells s ≤ 48 → writer newest_version s area ≡ writer old_version s area
old_writer s area h =
    let file = up_to_48 s h in
    let many : ltb 96 (wells s) ≡ false = refute (below 96 (wells s)) (λ l. omega arith) in
    let more : ltb 65535 (wells s) ≡ false = refute (below 65535 (wells s)) (λ l. omega arith) in
    by_file newest_version s area
    ∙ (λ i. ends_with (first_of (tests_of s (file i) ((many ∙ sym more) i) area)) (file i) area)
    ∙ sym (by_file old_version s area)

-- ---- "The writer refuses n > 96 by 16", whatever the area is, if none of 1, 2, 6, 8, 11 and 22 applies
pub above_96 : (s : Survey) (area : List ℕ) → ¬ WrongCoords s → ¬ OddNodes s → ¬ WrongExternal s
    → ¬ WrongNodeExternal s (node_count s) s.node_external → ¬ SomeNumberNotFinite s → ¬ OtherSpot s
    → 96 < wells s → (writer newest_version s area).number ≡ 16
above_96 s area a b c d e f h =
    (writer_ruled newest_version s area 16).1 (inr (a, inr (b, inr (c, inr (d, inr (e, inr (f, inl (inr (inl h), refl))))))))

-- ---- what the new writer wrote of 49 wells and more
module _ (s : Survey) (area : List ℕ) (count : ℕ) (said : (writer newest_version s area).count ≡ some count) where
  -- "The writer refuses n > 96"
  pub written_96 : wells s ≤ 96
  written_96 = wrote_few newest_version s area count said

  pub written_for_old : 49 ≤ wells s → (areas : Areas) → (reader old_version (take count (writer newest_version s area).area) areas).number ≡ 16
  written_for_old h areas =
      old_reader_16 (take count (writer newest_version s area).area) areas
      (ap version_in (wrote_file newest_version s area count said) ∙ version_written newest_version s ∙ above_48 (wells s) (omega arith))
