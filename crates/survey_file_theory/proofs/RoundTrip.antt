-- "what it wrote reads back bit for bit": the bytes that the writer says it wrote are read as the survey.
use Prim.Native.Nat.{ℕ, zero, suc, ◌*◌, ◌<◌, ◌≤◌}
use native.Mathlib.Nat.{zero-mul}
use native.Mathlib.Omega.{arith}
use mathlib.Core.Path.{◌≡◌, refl, ap, sym, ◌∙◌}
use mathlib.Core.Logic.{◌⊎◌, inl, inr}
use mathlib.Core.Bool.{cond}
use mathlib.Core.List.{List, []}
use mathlib.Core.Option.{Option, some}
use lib.Dec.{eqb, eqb-suc-zero}
use lib.ListN.{length, take, drop}
use lib.Seq.{take-append_seam, drop-append_seam}
use lib.Ieee.{Float}
use Rattle.variogram.proofs.Spot.{is_epsilon}
use Rattle.survey.specs.Survey.{Survey, wells, node_count, externals}
use Rattle.survey_file_theory.specs.Contents.{without_ignored, EachF64, Filable}
use Rattle.survey_file_theory.specs.File.{file_of, writer_file}
use Rattle.survey_file_theory.specs.Areas.{Areas, filled_with, Holds}
use Rattle.survey_file_theory.specs.Rules.{WellFormed, ListsFit, most_written, Writable}
use Rattle.survey_file_theory.specs.Refusals.{writer_refusal}
use Rattle.survey_file_theory.specs.Reader.{survey_in, read_bytes, header_of, reader, answer_of}
use Rattle.survey_file_theory.specs.Reader as Reader
use Rattle.survey_file_theory.specs.Writer.{call_where, writer, Writes}
use Rattle.survey_file_theory.proofs.Version.{two_bytes}
use Rattle.survey_file_theory.proofs.ReadBack.{Counts, file_well_formed, file_counts, file_survey, file_reads}
use Rattle.survey_file_theory.proofs.Reader.{reader_reads}
use Rattle.survey_file_theory.proofs.Writer.{written_exactly, writer_ends}

-- ---- a survey that the writer takes has a file
-- node externals count only where there are external columns
node_externals_lem : (k m : ℕ) (xs : List Float) → (0 < k → length xs ≡ k * m) → length (cond (eqb k 0) [] xs) ≡ k * m
node_externals_lem zero m xs h = sym (zero-mul m)
node_externals_lem (suc k) m xs h = rw (eqb-suc-zero k) (h (omega arith))

filable : (newest : ℕ) (s : Survey) (area : List ℕ) → EachF64 s → Writable newest s area → Filable s
filable newest s area fit w =
    record {
      fit = fit.numbers;
      lists = record {
        coords = w.coords;
        external = w.external;
        nodes = let e = w.nodes in omega arith;
        node_external = node_externals_lem (externals s) (node_count s) s.node_external w.node_external;
      };
      spot = is_epsilon s.options.variogram.same_spot fit.spot w.spot;
      few_wells = omega (arith, w.few_wells, two_bytes newest);
      few_nodes = w.few_nodes;
      few_bases = w.few_bases;
    }

-- what the writer leaves, where it says how many bytes it wrote
record Wrote (newest : ℕ) (s : Survey) (area : List ℕ) (count : ℕ) : Type 0 where
  can : Writable newest s area
  bytes : take count (writer newest s area).area ≡ writer_file newest s
  rest : drop count (writer newest s area).area ≡ drop count area

module _ (newest : ℕ) (s : Survey) (area : List ℕ) (count : ℕ) (said : (writer newest s area).count ≡ some count) where
  counted : ((writer newest s area).number ≡ 0) × (length (writer_file newest s) ≡ count)
  unfolding writer call_where
  counted = go (writer_refusal newest s area) said
    where
      go : (k : ℕ) → (call_where k newest s area).count ≡ some count → ((call_where k newest s area).number ≡ 0) × (length (writer_file newest s) ≡ count)
      go zero x = (refl, cc)
      go (suc k) x = let z : ◌≡◌ {A = ℕ} 0 1 = cc in absurd (omega arith)

  wrote : Wrote newest s area count
  wrote =
      let file = writer_file newest s in
      let c = counted in
      let is : Writes newest s area (writer newest s area) = (writer_ends newest s area).writes c.0 in
      record {
        can = (written_exactly newest s area).0 c.0;
        bytes =
            ap (λ (n : ℕ). take n (writer newest s area).area) (sym c.1)
            ∙ ap (λ (b : List ℕ). take (length file) b) is.file
            ∙ take-append_seam file (drop (length file) area);
        rest =
            ap (λ (n : ℕ). drop n (writer newest s area).area) (sym c.1)
            ∙ ap (λ (b : List ℕ). drop (length file) b) is.file
            ∙ drop-append_seam file (drop (length file) area)
            ∙ ap (λ (n : ℕ). drop n area) c.1;
      }

  -- so many bytes of the area are the file, which has no more wells than are written
  pub wrote_file : take count (writer newest s area).area ≡ writer_file newest s
  wrote_file = wrote.bytes

  pub wrote_few : wells s ≤ most_written newest
  wrote_few = wrote.can.few_wells

  -- what lies past the file is untouched
  pub past_untouched : drop count (writer newest s area).area ≡ drop count area
  past_untouched = wrote.rest

  -- Node externals that are ignored, k = 0, are not written. Every other number comes back with its bits, -0 with its sign, and so do model and codes.
  pub round_trip : EachF64 s → read_bytes newest (take count (writer newest s area).area) ≡ some (without_ignored s)
  unfolding writer_file
  round_trip fit =
      let w = wrote in
      ap (read_bytes newest) w.bytes ∙ file_reads newest [] s (filable newest s area fit w.can) w.can.size w.can.few_wells

-- so the survey itself, where nothing is ignored
same_externals : (k : ℕ) (xs : List Float) → (0 < k) ⊎ (xs ≡ []) → cond (eqb k 0) [] xs ≡ xs
same_externals zero xs (inl p) = absurd (omega arith)
same_externals zero xs (inr e) = sym e
same_externals (suc k) xs h = rw (eqb-suc-zero k)

nothing_ignored : (s : Survey) → (0 < externals s) ⊎ (s.node_external ≡ []) → without_ignored s ≡ s
nothing_ignored s h = λ i.
    record {
      values = s.values;
      coords = s.coords;
      bases = s.bases;
      external = s.external;
      nodes = s.nodes;
      node_external = same_externals (externals s) s.node_external h i;
      options = s.options;
      tolerance = s.tolerance;
    }

pub round_trip_whole : (newest : ℕ) (s : Survey) (area : List ℕ) (count : ℕ) → (writer newest s area).count ≡ some count → EachF64 s
    → (0 < externals s) ⊎ (s.node_external ≡ []) → read_bytes newest (take count (writer newest s area).area) ≡ some s
round_trip_whole newest s area count e fit h = round_trip newest s area count e fit ∙ ap {B = Option Survey} some (nothing_ignored s h)

-- ---- and through the reader's call, with areas that have room for the lists
reading_back : (newest : ℕ) (s : Survey) (bytes : List ℕ) (areas : Areas) → WellFormed newest bytes → Counts s bytes
    → survey_in bytes ≡ without_ignored s → Holds s areas → reader newest bytes areas ≡ answer_of s areas
unfolding Reader.call_where
reading_back newest s bytes areas w c e h =
    let room : ListsFit bytes areas =
    record {
      values = rw c.wells h.values;
      coords = rw c.wells h.coords;
      bases = rw c.bases h.bases;
      external = rw (c.wells, c.externals) h.external;
      nodes = rw c.nodes h.nodes;
      node_external = rw (c.nodes, c.externals) h.node_external;
    } in
    reader_reads newest bytes areas w room
    ∙ λ i. record { number = 0; header = some (header_of (c.wells i) (c.nodes i) (c.bases i) (e i)); areas = filled_with (e i) areas }

pub round_trip_call : (newest : ℕ) (s : Survey) (area : List ℕ) (count : ℕ) → (writer newest s area).count ≡ some count → EachF64 s
    → (areas : Areas) → Holds s areas → reader newest (take count (writer newest s area).area) areas ≡ answer_of s areas
unfolding writer_file
round_trip_call newest s area count e fit areas h =
    let w = wrote newest s area count e in
    let f = filable newest s area fit w.can in
    let most = w.can.size in
    let well = file_well_formed newest [] s f most w.can.few_wells in
    ap (λ (b : List ℕ). reader newest b areas) w.bytes
    ∙ reading_back newest s (file_of newest [] s) areas well (file_counts newest [] s f most) (file_survey newest [] s f most) h
