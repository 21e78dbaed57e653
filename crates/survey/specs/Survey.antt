-- A survey: paper 01, "Lists". Every function here speaks of lists of any length.
use Rattle.std.specs.Prelude.{ℕ, ◌+◌, ◌*◌, ◌/◌, ◌^◌, min, cond, List, [], ◌∷◌, eqb, length, get_or, Float}
use Rattle.std.specs.Float.{nan}
use Rattle.survey.specs.declared.UniversalKrigingOptions.{UniversalKrigingOptions}

-- The lists and the numbers of one survey: the values of the wells, their coordinates, the codes of the drift bases, the wells' external values,
-- the options with the variogram and r, the nodes and their external values, and the tolerance t. Every call takes them in this order
pub record Survey : Type 0 where
  pub values : List Float
  pub coords : List Float
  pub bases : List ℕ
  pub external : List Float
  pub options : UniversalKrigingOptions
  pub nodes : List Float
  pub node_external : List Float
  pub tolerance : Float

-- the survey with these lists and numbers
abbrev pub survey_of : List Float → List Float → List ℕ → List Float → UniversalKrigingOptions → List Float → List Float → Float → Survey
survey_of values coords bases external options nodes node_external tolerance = record {
  values = values;
  coords = coords;
  bases = bases;
  external = external;
  options = options;
  nodes = nodes;
  node_external = node_external;
  tolerance = tolerance;
}

-- ---- counts

-- "n well values"
abbrev pub wells : Survey → ℕ
wells s = length s.values

-- "The m nodes are 2m numbers"
abbrev pub node_count : Survey → ℕ
node_count s = length s.nodes / 2

-- "basis codes 1 Constant, 2 Linear, 3 Quadratic, 4 External, giving 1, 3, 6, 1 columns"
abbrev pub code_columns : ℕ → ℕ
code_columns c = cond (eqb c 1) 1 (cond (eqb c 2) 3 (cond (eqb c 3) 6 (cond (eqb c 4) 1 0)))

-- "p is their sum"
abbrev pub column_sum : List ℕ → ℕ
column_sum [] = 0
column_sum (c ∷ cs) = code_columns c + column_sum cs

abbrev pub columns : Survey → ℕ
columns s = column_sum s.bases

-- p as a machine word holds it. The codes are a list of any length, so p may pass every word: it is counted up to 2^60, which is more than the wells of any
-- list in memory, so that "n < p" reads the same; and no smaller p is changed.
abbrev pub columns_held : List ℕ → ℕ
columns_held bases = min (column_sum bases) (2 ^ 60)

-- "k the count of code 4"
abbrev pub external_count : List ℕ → ℕ
external_count [] = 0
external_count (c ∷ cs) = cond (eqb c 4) 1 0 + external_count cs

abbrev pub externals : Survey → ℕ
externals s = external_count s.bases

-- "Size s = n + p."
abbrev pub size : Survey → ℕ
size s = wells s + columns s

-- ---- places

-- "coordinates x, y in turn": of place i of a list
abbrev pub x_of : List Float → ℕ → Float
x_of ps i = get_or ps (2 * i) nan

abbrev pub y_of : List Float → ℕ → Float
y_of ps i = get_or ps (2 * i + 1) nan

-- of well i
abbrev pub well_x : Survey → ℕ → Float
well_x s i = x_of s.coords i

abbrev pub well_y : Survey → ℕ → Float
well_y s i = y_of s.coords i

-- of node q
abbrev pub node_x : Survey → ℕ → Float
node_x s q = x_of s.nodes q

abbrev pub node_y : Survey → ℕ → Float
node_y s q = y_of s.nodes q

-- "External values are k·n numbers, column after column": column c at well i
abbrev pub well_external : Survey → ℕ → ℕ → Float
well_external s i c = get_or s.external (c * wells s + i) nan

-- "node externals k·m, node after node": column c at node q
abbrev pub node_external_at : Survey → ℕ → ℕ → Float
node_external_at s q c = get_or s.node_external (q * externals s + c) nan

-- the value of well i
abbrev pub value_at : Survey → ℕ → Float
value_at s i = get_or s.values i nan
