-- The areas that the program has of its own: for a file's lists, and for a fit.
use Rattle.std.specs.Prelude.{ℕ, ◌*◌, ◌≤◌, length, take, replicate}
use Rattle.ieee.specs.Floats.{zero_float}
use Rattle.survey.specs.Limits.{program, program_size}
use Rattle.survey.specs.Survey.{Survey, survey_of, external_count}
use Rattle.kriging_theory.specs.Areas as fit
use Rattle.survey_file_theory.specs.Areas as file
use Rattle.survey_file_theory.specs.declared.Header.{Header}

-- the most numbers of a file's list: 65,536 bytes have room for 8,190 before the trailer, five of them are in no list, and nodes are an even count
abbrev pub most_numbers : ℕ
most_numbers = 8184

-- the most codes of a file: its 65,536 bytes but for five numbers and the trailer
abbrev pub most_codes : ℕ
most_codes = 65482

-- zeros, as long as the lists of a file can be
unfoldable pub own_lists : file.Areas
own_lists =
    let numbers = replicate most_numbers zero_float in
    record {
      values = numbers;
      coords = numbers;
      bases = replicate most_codes 0;
      external = numbers;
      nodes = numbers;
      node_external = numbers;
    }

-- the most that a fit of the program needs: "n > 48, p > 12 or m > 100" is refused
abbrev pub most_nodes : ℕ
most_nodes = program.nodes

abbrev pub most_columns : ℕ
most_columns = program.columns

-- "2·s·s numbers", where s = n + p
abbrev pub most_work : ℕ
most_work = 2 * program_size * program_size

-- "n·m weights"
abbrev pub most_weights : ℕ
most_weights = program.wells * program.nodes

-- zeros, as long as a fit can need
unfoldable pub own_areas : fit.Areas
own_areas =
    fit.areas_of (replicate most_work zero_float) (replicate most_nodes zero_float) (replicate most_nodes zero_float) (replicate most_nodes 0)
    (replicate most_weights zero_float) (replicate most_columns zero_float) (replicate most_columns zero_float)

-- ---- a survey in the areas that the reader filled
-- "k the count of code 4"
abbrev pub externals_held : Header → file.Areas → ℕ
externals_held h a = external_count (take h.bases a.bases)

-- the areas are long enough for what the header says
pub record Holding (h : Header) (a : file.Areas) : Type 0 where
  pub values : h.wells ≤ length a.values
  pub coords : 2 * h.wells ≤ length a.coords
  pub bases : h.bases ≤ length a.bases
  pub external : externals_held h a * h.wells ≤ length a.external
  pub nodes : 2 * h.nodes ≤ length a.nodes
  pub node_external : externals_held h a * h.nodes ≤ length a.node_external

-- each list in the first places of its area, the rest in the header
abbrev pub survey_held : Header → file.Areas → Survey
survey_held h a =
    survey_of (take h.wells a.values) (take (2 * h.wells) a.coords) (take h.bases a.bases)
    (take (externals_held h a * h.wells) a.external)
    h.options
    (take (2 * h.nodes) a.nodes)
    (take (externals_held h a * h.nodes) a.node_external)
    h.tolerance
