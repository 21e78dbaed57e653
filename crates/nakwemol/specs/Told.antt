-- How an exported call ends that tells something beside its number and its areas: it goes to a place that the caller lends.
use Rattle.std.specs.Prelude.{ℕ, zero, suc, List, [], ◌∷◌, Float}
use Rattle.std.proofs.Math.Option.{Option, none, some}
use Rattle.semivariogram_theory.specs.Call as Bins
use Rattle.survey_file_theory.specs.declared.Header.{Header}
use Rattle.survey_file_theory.specs.Areas as File
use Rattle.survey_file_theory.specs.File.{model_number}
use Rattle.survey_file_theory.specs.Reader as Reader
use Rattle.survey_file_theory.specs.Writer as Writer

-- the answer's number, what the place holds at exit, and the areas at exit
pub record Ending (P A : Type 0) : Type 0 where
  pub number : ℕ
  pub told : P
  pub areas : A

abbrev pub ending : {P A : Type 0} → ℕ → P → A → Ending P A
ending number told areas = record { number = number; told = told; areas = areas }

-- ---- the semivariogram
-- "how many is returned"; "A refusal carries only its number and writes nothing"
abbrev pub kept_where : ℕ → ℕ → ℕ → ℕ
kept_where zero kept place = kept
kept_where (suc k) kept place = place

abbrev pub bins_told : Bins.Outcome → ℕ → Ending ℕ Bins.Areas
bins_told e place = ending e.number (kept_where e.number e.kept place) e.areas

-- ---- the file's writer
-- how many bytes were written, if any were
abbrev pub length_where : Option ℕ → ℕ → ℕ
length_where none place = place
length_where (some count) place = count

abbrev pub length_told : Writer.Outcome → ℕ → Ending ℕ (List ℕ)
length_told e place = ending e.number (length_where e.count place) e.area

-- ---- the file's reader
-- the areas of a call, list by list
abbrev pub lists_of : List Float → List Float → List ℕ → List Float → List Float → List Float → File.Areas
lists_of values coords bases external nodes node_external =
    record { values = values; coords = coords; bases = bases; external = external; nodes = nodes; node_external = node_external }

-- what a file says besides its lists: "n, m, code count", "nugget, sill, range, r, t" and "model 1 to 4"
pub record Heading : Type 0 where
  pub counts : List ℕ
  pub numbers : List Float
  pub model : ℕ

abbrev pub heading_of : List ℕ → List Float → ℕ → Heading
heading_of counts numbers model = record { counts = counts; numbers = numbers; model = model }

abbrev pub heading : Header → Heading
heading h =
    let v = h.options.variogram in
    heading_of
    (h.wells ∷ h.nodes ∷ h.bases ∷ [])
    (v.nugget ∷ v.sill ∷ v.range ∷ h.options.regularization ∷ h.tolerance ∷ [])
    (model_number v.model)

-- told where the file is read
abbrev pub heading_where : Option Header → Heading → Heading
heading_where none places = places
heading_where (some header) places = heading header

abbrev pub heading_told : Reader.Outcome → Heading → Ending Heading File.Areas
heading_told e places = ending e.number (heading_where e.header places) e.areas
