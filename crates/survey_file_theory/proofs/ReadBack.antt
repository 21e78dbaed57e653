-- A file that is laid out as the paper says, after any note, reads as the survey that was laid out.
use Prim.Native.Nat.{ℕ, ◌+◌, ◌-◌, ◌*◌, ◌≤◌, ◌<◌}
use native.Mathlib.Omega.{arith}
use mathlib.Core.Path.{◌≡◌, refl, ap, sym, ◌∙◌, subst}
use mathlib.Core.List.{List, [], ◌∷◌, ◌++◌, append_assoc}
use mathlib.Core.Option.{Option, some}
use lib.Dec.{T, lit≤, ltb, lt→ltb}
use lib.ListN.{length, get_or, take, drop, length-append}
use lib.Seq.{take_at, drop_at}
use lib.Ieee.{Float}
use lib.Ieee.Fits.{and_i}
use Rattle.area.specs.Area.{part}
use Rattle.ieee.specs.Bytes.{little_endian, number_in, f64_bytes, f64s_in, all_bytes}
use Rattle.ieee.proofs.Bytes.{number_little, length-f64_bytes, f64s_back, bytes_append, bytes_little, bytes_f64}
use Rattle.variogram.specs.declared.VariogramModel.{VariogramModel}
use Rattle.variogram.specs.declared.VariogramModel.TheVariants.{Spherical, Exponential, Gaussian, Linear}
use Rattle.survey.specs.Survey.{Survey, wells, node_count, externals, external_count}
use Rattle.survey_file_theory.specs.Contents.{numbers, number_count, without_ignored, Lists, Filable}
use Rattle.survey_file_theory.specs.File.{model_number, version_for, body, trailer, file_of, file_length}
use Rattle.survey_file_theory.specs.Trailer.{trailer_in, start_in, wells_in, nodes_in, bases_in, codes_in, externals_in, model_in, version_in}
use Rattle.survey_file_theory.specs.Rules.{WellFormed, most_written}
use Rattle.survey_file_theory.specs.Reader.{model_of, survey_from, survey_in, read_bytes}
use Rattle.survey_file_theory.proofs.Lists.{length-numbers, survey_back}
use Rattle.survey_file_theory.proofs.WellFormed.{reads}
use Rattle.survey_file_theory.proofs.Version.{written_taken, version_byte}

-- ---- the trailer, field by field
module _ (newest start : ℕ) (s : Survey) where
  pub length-trailer : length (trailer newest start s) ≡ 14
  unfolding trailer
  length-trailer = refl

  trailer_start : start < 256 * 256 * 256 * 256 → number_in (part 0 4 (trailer newest start s)) ≡ start
  unfolding trailer
  trailer_start h = number_little 4 start h

  trailer_wells : wells s < 65536 → number_in (part 4 2 (trailer newest start s)) ≡ wells s
  unfolding trailer
  trailer_wells h = number_little 2 (wells s) h

  trailer_nodes : node_count s < 65536 → number_in (part 6 2 (trailer newest start s)) ≡ node_count s
  unfolding trailer
  trailer_nodes h = number_little 2 (node_count s) h

  trailer_bases : length s.bases < 65536 → number_in (part 8 2 (trailer newest start s)) ≡ length s.bases
  unfolding trailer
  trailer_bases h = number_little 2 (length s.bases) h

  trailer_model : get_or (trailer newest start s) 10 0 ≡ model_number s.options.variogram.model
  unfolding trailer
  trailer_model = refl

  pub trailer_version : get_or (trailer newest start s) 11 0 ≡ version_for newest (wells s)
  unfolding trailer
  trailer_version = refl

  trailer_zero : get_or (trailer newest start s) 12 0 ≡ 0
  unfolding trailer
  trailer_zero = refl

  trailer_last : get_or (trailer newest start s) 13 0 ≡ 0
  unfolding trailer
  trailer_last = refl

-- ---- the model by its number
model_least : (m : VariogramModel) → 1 ≤ model_number m
model_least Spherical = lit≤ tt
model_least Exponential = lit≤ tt
model_least Gaussian = lit≤ tt
model_least Linear = lit≤ tt

model_most : (m : VariogramModel) → model_number m ≤ 4
model_most Spherical = lit≤ tt
model_most Exponential = lit≤ tt
model_most Gaussian = lit≤ tt
model_most Linear = lit≤ tt

model_back : (m : VariogramModel) → model_of (model_number m) ≡ m
model_back Spherical = refl
model_back Exponential = refl
model_back Gaussian = refl
model_back Linear = refl

-- ---- the parts of a file
-- the note, the numbers, the codes and the trailer
abbrev parts : ℕ → List ℕ → Survey → List ℕ
parts newest note s = note ++ (f64_bytes (numbers s) ++ (s.bases ++ trailer newest (length note) s))

file_parts : (newest : ℕ) (note : List ℕ) (s : Survey) → file_of newest note s ≡ parts newest note s
unfolding file_of body
file_parts newest note s = simp append_assoc

length-parts : (newest : ℕ) (note : List ℕ) (s : Survey) → length (parts newest note s) ≡ length note + 8 * length (numbers s) + length s.bases + 14
length-parts newest note s =
    let t = length-trailer newest (length note) s in
    let x = length-f64_bytes (numbers s) in
    let all : length (parts newest note s) ≡ length note + (length (f64_bytes (numbers s)) + (length s.bases + length (trailer newest (length note) s))) =
    simp length-append in
    omega arith

-- a file is as long as its note, its numbers and its codes make it
pub length-file : (newest : ℕ) (note : List ℕ) (s : Survey) → length (file_of newest note s) ≡ length note + 8 * length (numbers s) + length s.bases + 14
length-file newest note s = ap length (file_parts newest note s) ∙ length-parts newest note s

-- and the numbers are as many as the counts say
pub file_length_lem : (newest : ℕ) (note : List ℕ) (s : Survey) → Lists s
    → length (file_of newest note s) ≡ file_length (length note) (wells s) (node_count s) (externals s) (length s.bases)
file_length_lem newest note s l = length-file newest note s ∙ ap (λ (n : ℕ). length note + 8 * n + length s.bases + 14) (length-numbers s l)

-- and all of it is bytes, if the note and the codes are
trailer_bytes : (newest start : ℕ) (s : Survey) → T (all_bytes (trailer newest start s))
unfolding trailer
trailer_bytes newest start s =
    let v = version_for newest (wells s) in
    let first = little_endian 4 start in
    let n = little_endian 2 (wells s) in
    let m = little_endian 2 (node_count s) in
    let c = little_endian 2 (length s.bases) in
    let three = bytes_append (first ++ n) m (bytes_append first n (bytes_little 4 start) (bytes_little 2 (wells s))) (bytes_little 2 (node_count s)) in
    bytes_append (first ++ n ++ m ++ c) (model_number s.options.variogram.model ∷ v ∷ 0 ∷ 0 ∷ [])
    (bytes_append (first ++ n ++ m) c three (bytes_little 2 (length s.bases)))
    (model_byte s.options.variogram.model)
  where
    version_there : T (all_bytes (version_for newest (wells s) ∷ 0 ∷ 0 ∷ []))
    version_there =
        let v = version_for newest (wells s) in
        and_i (ltb v 256) (all_bytes (0 ∷ 0 ∷ [])) (lt→ltb v 256 (version_byte newest (wells s))) tt

    model_byte : (m : VariogramModel) → T (all_bytes (model_number m ∷ version_for newest (wells s) ∷ 0 ∷ 0 ∷ []))
    model_byte Spherical = version_there
    model_byte Exponential = version_there
    model_byte Gaussian = version_there
    model_byte Linear = version_there

pub file_bytes : (newest : ℕ) (note : List ℕ) (s : Survey) → T (all_bytes note) → T (all_bytes s.bases) → T (all_bytes (file_of newest note s))
file_bytes newest note s p q =
    let rest = s.bases ++ trailer newest (length note) s in
    subst (λ (b : List ℕ). T (all_bytes b)) (sym (file_parts newest note s))
    (bytes_append note (f64_bytes (numbers s) ++ rest) p
    (bytes_append (f64_bytes (numbers s)) rest (bytes_f64 (numbers s)) (bytes_append s.bases _ q (trailer_bytes newest (length note) s))))

-- bytes that are a file's parts
module _ (newest : ℕ) (note : List ℕ) (s : Survey) (f : Filable s) (bytes : List ℕ) (is : bytes ≡ parts newest note s) (most : length bytes ≤ 65536) where
  length-bytes : length bytes ≡ length note + 8 * length (numbers s) + length s.bases + 14
  length-bytes = ap length is ∙ length-parts newest note s

  -- what stands before the trailer, and before the codes
  before_trailer : length (note ++ (f64_bytes (numbers s) ++ s.bases)) ≡ length bytes - 14
  before_trailer =
      let x = length-f64_bytes (numbers s) in
      let all : length (note ++ (f64_bytes (numbers s) ++ s.bases)) ≡ length note + (length (f64_bytes (numbers s)) + length s.bases) =
      simp length-append in
      let b = length-bytes in
      omega arith

  before_codes : length (note ++ f64_bytes (numbers s)) ≡ length bytes - 14 - length s.bases
  before_codes =
      let x = length-f64_bytes (numbers s) in
      let all = length-append note (f64_bytes (numbers s)) in
      let b = length-bytes in
      omega arith

  trailer_there : trailer_in bytes ≡ trailer newest (length note) s
  trailer_there =
      ap (λ (b : List ℕ). drop (length bytes - 14) b) (is ∙ simp append_assoc)
      ∙ drop_at (note ++ (f64_bytes (numbers s) ++ s.bases)) (trailer newest (length note) s) (length bytes - 14) before_trailer

  start_there : start_in bytes ≡ length note
  start_there =
      let b = length-bytes in
      ap (λ (t : List ℕ). number_in (part 0 4 t)) trailer_there ∙ trailer_start newest (length note) s (omega arith)

  wells_there : wells_in bytes ≡ wells s
  wells_there = ap (λ (t : List ℕ). number_in (part 4 2 t)) trailer_there ∙ trailer_wells newest (length note) s (let x = f.few_wells in omega arith)

  nodes_there : nodes_in bytes ≡ node_count s
  nodes_there = ap (λ (t : List ℕ). number_in (part 6 2 t)) trailer_there ∙ trailer_nodes newest (length note) s (let x = f.few_nodes in omega arith)

  bases_there : bases_in bytes ≡ length s.bases
  bases_there = ap (λ (t : List ℕ). number_in (part 8 2 t)) trailer_there ∙ trailer_bases newest (length note) s (let x = f.few_bases in omega arith)

  model_there : model_in bytes ≡ model_number s.options.variogram.model
  model_there = ap (λ (t : List ℕ). get_or t 10 0) trailer_there ∙ trailer_model newest (length note) s

  codes_there : codes_in bytes ≡ s.bases
  codes_there =
      let c = length s.bases in
      let t = trailer newest (length note) s in
      ap (λ (k : ℕ). take k (drop (length bytes - 14 - k) bytes)) bases_there
      ∙ ap (λ (b : List ℕ). take c (drop (length bytes - 14 - c) b)) (is ∙ sym (append_assoc note (f64_bytes (numbers s)) (s.bases ++ t)))
      ∙ ap (λ (b : List ℕ). take c b) (drop_at (note ++ f64_bytes (numbers s)) (s.bases ++ t) (length bytes - 14 - c) before_codes)
      ∙ take_at s.bases t c refl

  externals_there : externals_in bytes ≡ externals s
  externals_there = ap external_count codes_there

  numbers_there : f64s_in (number_count (wells s) (node_count s) (externals s)) (drop (length note) bytes) ≡ numbers s
  numbers_there =
      let rest = s.bases ++ trailer newest (length note) s in
      ap (λ (b : List ℕ). f64s_in (number_count (wells s) (node_count s) (externals s)) b)
      (ap (λ (b : List ℕ). drop (length note) b) is ∙ drop_at note (f64_bytes (numbers s) ++ rest) (length note) refl)
      ∙ ap (λ (k : ℕ). f64s_in k (f64_bytes (numbers s) ++ rest)) (sym (length-numbers s f.lists))
      ∙ f64s_back (numbers s) rest f.fit

  version_there : version_in bytes ≡ version_for newest (wells s)
  version_there = ap (λ (t : List ℕ). get_or t 11 0) trailer_there ∙ trailer_version newest (length note) s

  laid_out : wells s ≤ most_written newest → WellFormed newest bytes
  laid_out few =
      let b = length-bytes in
      let l = length-numbers s f.lists in
      record {
        least = omega arith;
        most = most;
        meet = rw (start_there, wells_there, nodes_there, externals_there, bases_there) (omega arith);
        model_least = rw model_there (model_least s.options.variogram.model);
        model_most = rw model_there (model_most s.options.variogram.model);
        version_taken_lem = rw (version_there, wells_there) (written_taken newest (wells s) few);
        zero_byte = ap (λ (t : List ℕ). get_or t 12 0) trailer_there ∙ trailer_zero newest (length note) s;
        last_zero_byte = ap (λ (t : List ℕ). get_or t 13 0) trailer_there ∙ trailer_last newest (length note) s;
      }

  survey_there : survey_in bytes ≡ without_ignored s
  unfolding survey_in
  survey_there =
      let n = wells s in
      let m = node_count s in
      let k = externals s in
      let model = s.options.variogram.model in
      let xs = f64s_in (number_count n m k) (drop (length note) bytes) in
      let fields : survey_in bytes ≡ survey_from (model_of (model_number model)) n m k xs s.bases = λ i.
      survey_from (model_of (model_there i)) (wells_there i) (nodes_there i) (externals_there i)
      (f64s_in (number_count (wells_there i) (nodes_there i) (externals_there i)) (drop (start_there i) bytes))
      (codes_there i) in
      fields
      ∙ ap (λ (xs : List Float). survey_from (model_of (model_number model)) n m k xs s.bases) numbers_there
      ∙ ap (λ (x : VariogramModel). survey_from x n m k (numbers s) s.bases) (model_back model)
      ∙ survey_back s f.lists f.spot

-- ---- a file reads as its survey, whatever its note is
-- the counts in bytes are those of a survey
pub record Counts (s : Survey) (bytes : List ℕ) : Type 0 where
  pub wells : wells_in bytes ≡ wells s
  pub nodes : nodes_in bytes ≡ node_count s
  pub externals : externals_in bytes ≡ externals s
  pub bases : bases_in bytes ≡ length s.bases

module _ (newest : ℕ) (note : List ℕ) (s : Survey) (f : Filable s) (most : length (file_of newest note s) ≤ 65536) where
  pub file_counts : Counts s (file_of newest note s)
  file_counts =
      record {
        wells = wells_there newest note s f (file_of newest note s) (file_parts newest note s) most;
        nodes = nodes_there newest note s f (file_of newest note s) (file_parts newest note s) most;
        externals = externals_there newest note s f (file_of newest note s) (file_parts newest note s) most;
        bases = bases_there newest note s f (file_of newest note s) (file_parts newest note s) most;
      }

  pub file_well_formed : wells s ≤ most_written newest → WellFormed newest (file_of newest note s)
  file_well_formed = laid_out newest note s f (file_of newest note s) (file_parts newest note s) most

  pub file_survey : survey_in (file_of newest note s) ≡ without_ignored s
  file_survey = survey_there newest note s f (file_of newest note s) (file_parts newest note s) most

  pub file_reads : wells s ≤ most_written newest → read_bytes newest (file_of newest note s) ≡ some (without_ignored s)
  file_reads few = reads newest (file_of newest note s) (file_well_formed few) ∙ ap {B = Option Survey} some file_survey
