-- The areas that the reader's caller lends, one for each list, and what a survey leaves in them.
use Rattle.std.specs.Prelude.{ℕ, ◌*◌, ◌≤◌, List, [], ◌∷◌, length, Float}
use Rattle.std.specs.Float.{nan}
use Rattle.area.specs.Area.{copied}
use Rattle.error.specs.Short.{Lent, lent}
use Rattle.survey.specs.Survey.{Survey, wells, node_count, externals}
use Rattle.survey_file_theory.specs.Trailer.{wells_in, nodes_in, bases_in, externals_in}

pub record Areas : Type 0 where
  pub values : List Float
  pub coords : List Float
  pub bases : List ℕ
  pub external : List Float
  pub nodes : List Float
  pub node_external : List Float

-- each area after its list of a survey is written to it from the first place on
abbrev pub filled_with : Survey → Areas → Areas
filled_with s areas =
    record {
      values = copied nan s.values areas.values;
      coords = copied nan s.coords areas.coords;
      bases = copied 0 s.bases areas.bases;
      external = copied nan s.external areas.external;
      nodes = copied nan s.nodes areas.nodes;
      node_external = copied nan s.node_external areas.node_external;
    }

-- 18: "an answer area too short: .. for the file's reader, each list's length"
abbrev pub list_areas : List ℕ → Areas → List Lent
list_areas bytes areas =
    lent areas.values (wells_in bytes)
    ∷ lent areas.coords (2 * wells_in bytes)
    ∷ lent areas.bases (bases_in bytes)
    ∷ lent areas.external (externals_in bytes * wells_in bytes)
    ∷ lent areas.nodes (2 * nodes_in bytes)
    ∷ lent areas.node_external (externals_in bytes * nodes_in bytes)
    ∷ []

-- areas that have room for a survey's lists
pub record Holds (s : Survey) (areas : Areas) : Type 0 where
  pub values : wells s ≤ length areas.values
  pub coords : 2 * wells s ≤ length areas.coords
  pub bases : length s.bases ≤ length areas.bases
  pub external : externals s * wells s ≤ length areas.external
  pub nodes : 2 * node_count s ≤ length areas.nodes
  pub node_external : externals s * node_count s ≤ length areas.node_external
