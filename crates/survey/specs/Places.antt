-- Where each number of a survey stands, by a case written out from the paper: three wells and two nodes, two external columns, every number another one.
use Rattle.std.specs.Prelude.{ℕ, ◌≡◌, false, [], ◌∷◌, pos, Float}
use Rattle.std.specs.Float.{fin}
use Rattle.survey.specs.Options.{default_options}
use Rattle.survey.specs.Survey.{Survey, wells, node_count, columns, externals, size}
use Rattle.survey.specs.Survey.{well_x, well_y, well_external, node_x, node_y, node_external_at, value_at}

-- the number k as a float
abbrev pub x : ℕ → Float
x k = fin false k (pos 0)

abbrev pub case : Survey
case = record {
  values = x 1 ∷ x 2 ∷ x 3 ∷ [];
  coords = x 11 ∷ x 12 ∷ x 21 ∷ x 22 ∷ x 31 ∷ x 32 ∷ [];
  bases = 4 ∷ 2 ∷ 1 ∷ 4 ∷ 3 ∷ [];
  external = x 41 ∷ x 42 ∷ x 43 ∷ x 51 ∷ x 52 ∷ x 53 ∷ [];
  nodes = x 61 ∷ x 62 ∷ x 71 ∷ x 72 ∷ [];
  node_external = x 81 ∷ x 82 ∷ x 91 ∷ x 92 ∷ [];
  options = default_options;
  tolerance = x 0;
}

pub record Places : Type 0 where
  -- "n well values"; "The m nodes are 2m numbers"
  pub three_wells_lem : wells case ≡ 3
  pub two_nodes : node_count case ≡ 2
  -- "giving 1, 3, 6, 1 columns; p is their sum, k the count of code 4"; "Size s = n + p"
  pub twelve_columns : columns case ≡ 12
  pub two_externals_lem : externals case ≡ 2
  pub fifteen_rows : size case ≡ 15
  -- the value of a well, and "coordinates x, y in turn", of wells and of nodes
  pub well_value : value_at case 2 ≡ x 3
  pub well_x_lem : well_x case 1 ≡ x 21
  pub well_y_lem : well_y case 1 ≡ x 22
  pub node_x_lem : node_x case 1 ≡ x 71
  pub node_y_lem : node_y case 1 ≡ x 72
  -- "External values are k·n numbers, column after column": the third well's in the first column, and the first well's in the second
  pub first_column : well_external case 2 0 ≡ x 43
  pub second_column : well_external case 0 1 ≡ x 51
  -- "node externals k·m, node after node": the first node's in the second column, and the second node's in the first
  pub first_node : node_external_at case 0 1 ≡ x 82
  pub second_node : node_external_at case 1 0 ≡ x 91
