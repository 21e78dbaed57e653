-- The reader of the survey file: what it takes out of bytes, and its areas at exit. It judges nothing but the layout.
use Rattle.std.specs.Prelude.{ℕ, zero, suc, ◌+◌, ◌*◌, ◌≡◌, ◌≢◌, ◌↔◌, Bool, true, false, List, ◌++◌, length, get_or, drop, Float, Result, Ok, Err}
use Rattle.std.proofs.Math.Option.{Option, none, some}
use Rattle.std.specs.Float.{nan}
use Rattle.area.specs.Area.{part}
use Rattle.error.specs.declared.Refusal.{Refusal}
use Rattle.error.specs.Numbers.{number_of}
use Rattle.error.specs.Rules.{Ruled}
use Rattle.ieee.specs.Bytes.{number_in, f64s_in}
use Rattle.variogram.specs.Model.{variogram}
use Rattle.variogram.specs.declared.VariogramModel.{VariogramModel}
use Rattle.variogram.specs.declared.VariogramModel.TheVariants.{Spherical, Exponential, Gaussian, Linear}
use Rattle.survey.specs.Survey.{Survey, wells, node_count}
use Rattle.survey_file_theory.specs.declared.Header.{Header}
use Rattle.survey_file_theory.specs.Contents.{number_count, without_ignored}
use Rattle.survey_file_theory.specs.Areas.{Areas, filled_with}
use Rattle.survey_file_theory.specs.Trailer.{start_in, wells_in, nodes_in, bases_in, externals_in, model_in, codes_in}
use Rattle.survey_file_theory.specs.Rules.{WellFormed, ListsFit, reader_rules}
use Rattle.survey_file_theory.specs.Refusals.{malformed, reader_refusal}

-- ---- what bytes say that are not malformed
-- "in the enum's order"; another number, which is refused, would be the last
abbrev pub model_of : ℕ → VariogramModel
model_of zero = Linear
model_of (suc zero) = Spherical
model_of (suc (suc zero)) = Exponential
model_of (suc (suc (suc zero))) = Gaussian
model_of (suc (suc (suc (suc number)))) = Linear

-- "the body from byte S": the numbers of n wells, m nodes and k external columns, and the codes. "Survey files don't carry" the same-spot distance "and
-- take 2^-52", which is what `variogram` has
abbrev pub survey_from : VariogramModel → ℕ → ℕ → ℕ → List Float → List ℕ → Survey
survey_from model n m k xs codes =
    record {
      values = part 5 n xs;
      coords = part (5 + n) (2 * n) xs;
      bases = codes;
      external = part (5 + n + 2 * n) (k * n) xs;
      nodes = part (5 + n + 2 * n + k * n) (2 * m) xs;
      node_external = part (5 + n + 2 * n + k * n + 2 * m) (k * m) xs;
      options = record { variogram = variogram model (get_or xs 0 nan) (get_or xs 1 nan) (get_or xs 2 nan); regularization = get_or xs 3 nan };
      tolerance = get_or xs 4 nan;
    }

-- "A free note, then the body from byte S": the survey of bytes by their own account
unfoldable pub survey_in : List ℕ → Survey
unfolding number_in f64s_in
survey_in bytes =
    survey_from (model_of (model_in bytes)) (wells_in bytes) (nodes_in bytes) (externals_in bytes)
    (f64s_in (number_count (wells_in bytes) (nodes_in bytes) (externals_in bytes)) (drop (start_in bytes) bytes))
    (codes_in bytes)

-- the survey that bytes are, or none where they are malformed
abbrev pub unless_malformed : Bool → List ℕ → Option Survey
unless_malformed true bytes = none
unless_malformed false bytes = some (survey_in bytes)

-- what bytes say to a reader that knows the versions up to the newest
unfoldable pub read_bytes : ℕ → List ℕ → Option Survey
unfolding survey_in
read_bytes newest bytes = unless_malformed (malformed newest bytes) bytes

-- how many wells, nodes and bases there are, and what a survey has besides its lists
abbrev pub header_of : ℕ → ℕ → ℕ → Survey → Header
header_of n m c s = record { wells = n; nodes = m; bases = c; options = s.options; tolerance = s.tolerance }

-- ---- the call
-- how it ends: the answer's number (0, or the refusal's), its values if there are any, and the areas at exit
pub record Outcome : Type 0 where
  pub number : ℕ
  pub header : Option Header
  pub areas : Areas

-- the number and the values of each answer: "A refusal carries only its number"
abbrev pub outcome_of : Result Header Refusal → Areas → Outcome
outcome_of (Ok header) areas = record { number = 0; header = some header; areas = areas }
outcome_of (Err refusal) areas = record { number = number_of refusal; header = none; areas = areas }

-- the call by its refusal: "A refusal carries only its number and writes nothing"; else each area has its list
unfoldable pub call_where : ℕ → List ℕ → Areas → Outcome
unfolding survey_in
call_where zero bytes areas =
    let s = survey_in bytes in
    record { number = 0; header = some (header_of (wells_in bytes) (nodes_in bytes) (bases_in bytes) s); areas = filled_with s areas }
call_where (suc k) bytes areas = record { number = suc k; header = none; areas = areas }

-- the whole call, of a reader that knows the versions up to the newest
unfoldable pub reader : ℕ → List ℕ → Areas → Outcome
unfolding call_where reader_refusal
reader newest bytes areas = call_where (reader_refusal newest bytes areas) bytes areas

-- what it answers where it reads a survey: node externals that are ignored are not there
abbrev pub answer_of : Survey → Areas → Outcome
answer_of s areas =
    record {
      number = 0;
      header = some (header_of (wells s) (node_count s) (length s.bases) (without_ignored s));
      areas = filled_with (without_ignored s) areas;
    }

-- ---- how it ends, as the paper says it
-- the lists of what is read have the lengths that the trailer states
pub record ListLengths (bytes : List ℕ) (s : Survey) : Type 0 where
  pub values : length s.values ≡ wells_in bytes
  pub coords : length s.coords ≡ 2 * wells_in bytes
  pub bases : length s.bases ≡ bases_in bytes
  pub external : length s.external ≡ externals_in bytes * wells_in bytes
  pub nodes : length s.nodes ≡ 2 * nodes_in bytes
  pub node_external : length s.node_external ≡ externals_in bytes * nodes_in bytes

-- each area has its list, "and all past the named lengths is untouched"
pub record Filled (bytes : List ℕ) (s : Survey) (before after : Areas) : Type 0 where
  pub values : after.values ≡ s.values ++ drop (wells_in bytes) before.values
  pub coords : after.coords ≡ s.coords ++ drop (2 * wells_in bytes) before.coords
  pub bases : after.bases ≡ s.bases ++ drop (bases_in bytes) before.bases
  pub external : after.external ≡ s.external ++ drop (externals_in bytes * wells_in bytes) before.external
  pub nodes : after.nodes ≡ s.nodes ++ drop (2 * nodes_in bytes) before.nodes
  pub node_external : after.node_external ≡ s.node_external ++ drop (externals_in bytes * nodes_in bytes) before.node_external

-- an accepted call: what it answers, and what its areas hold
pub record Reads (bytes : List ℕ) (areas : Areas) (o : Outcome) : Type 0 where
  pub header : o.header ≡ some (header_of (wells_in bytes) (nodes_in bytes) (bases_in bytes) (survey_in bytes))
  pub lengths : ListLengths bytes (survey_in bytes)
  pub filled : Filled bytes (survey_in bytes) areas o.areas

-- a call ended as o: each number exactly when, and what its areas hold then
pub record Ends (newest : ℕ) (bytes : List ℕ) (areas : Areas) (o : Outcome) : Type 0 where
  -- the number is that of the first rule that applies, 0 where none does
  pub ruled : (k : ℕ) → (o.number ≡ k) ↔ Ruled (reader_rules newest bytes areas) k
  pub accepted : (o.number ≡ 0) ↔ (WellFormed newest bytes × ListsFit bytes areas)
  -- "A refusal carries only its number and writes nothing"
  pub refused : o.number ≢ 0 → (o.header ≡ none) × (o.areas ≡ areas)
  pub reads : o.number ≡ 0 → Reads bytes areas o
