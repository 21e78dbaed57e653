-- What a survey file holds of a survey: its numbers in their order, and how many they are. Lists of any length, any numbers, any codes.
use Rattle.std.specs.Prelude.{ℕ, ◌+◌, ◌*◌, ◌≤◌, ◌≡◌, cond, List, [], ◌∷◌, ◌++◌, T, eqb, length, Float}
use Rattle.std.specs.Float.{binary64}
use Rattle.std.specs.Float.Ieee.{fits}
use Rattle.ieee.specs.Floats.{epsilon}
use Rattle.ieee.specs.Bytes.{all_fit}
use Rattle.survey.specs.Survey.{Survey, wells, node_count, externals}

-- "node externals k·m, node after node, ignored if k = 0"
abbrev pub node_externals : Survey → List Float
node_externals s = cond (eqb (externals s) 0) [] s.node_external

-- "nugget, sill, range, r, t, values, coordinates, externals, nodes, node externals"
unfoldable pub numbers : Survey → List Float
numbers s =
    s.options.variogram.nugget
    ∷ s.options.variogram.sill
    ∷ s.options.variogram.range
    ∷ s.options.regularization
    ∷ s.tolerance
    ∷ (s.values ++ (s.coords ++ (s.external ++ (s.nodes ++ node_externals s))))

-- how many these are for n wells, m nodes and k external columns
abbrev pub number_count : ℕ → ℕ → ℕ → ℕ
number_count n m k = 5 + n + 2 * n + k * n + 2 * m + k * m

-- a survey without what is ignored
abbrev pub without_ignored : Survey → Survey
without_ignored s =
    record {
      values = s.values;
      coords = s.coords;
      bases = s.bases;
      external = s.external;
      nodes = s.nodes;
      node_external = node_externals s;
      options = s.options;
      tolerance = s.tolerance;
    }

-- the lists are as long as the counts say
pub record Lists (s : Survey) : Type 0 where
  pub coords : length s.coords ≡ 2 * wells s
  pub external : length s.external ≡ externals s * wells s
  pub nodes : length s.nodes ≡ 2 * node_count s
  pub node_external : length (node_externals s) ≡ externals s * node_count s

-- every number of a survey is an f64, the same-spot distance too
pub record EachF64 (s : Survey) : Type 0 where
  pub numbers : T (all_fit (numbers s))
  pub spot : T (fits binary64 s.options.variogram.same_spot)

-- what a survey must be to have a file: f64 in lists of the lengths that its counts say, "2^-52" as the same-spot distance, and counts of two bytes
pub record Filable (s : Survey) : Type 0 where
  pub fit : T (all_fit (numbers s))
  pub lists : Lists s
  pub spot : s.options.variogram.same_spot ≡ epsilon
  pub few_wells : wells s ≤ 65535
  pub few_nodes : node_count s ≤ 65535
  pub few_bases : length s.bases ≤ 65535
