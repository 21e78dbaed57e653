-- The matrix, z, the variance and the verdict of rows 1 to p read of the values only how many there are.
use Prim.Native.Nat.{ℕ, ◌+◌, ◌*◌}
use mathlib.Core.Path.{◌≡◌, ap, ap₂, ◌∙◌}
use mathlib.Core.List.{List}
use lib.ListN.{length, get_or}
use lib.Ieee.{Float, nan}
use Rattle.survey.specs.Survey.{Survey, wells, columns, well_x, well_y, node_x, node_y}
use Rattle.audit.specs.Audit.{column_verdict}
use Rattle.kriging_theory.specs.Drift.{drift_row, drift, node_row}
use Rattle.kriging_theory.specs.Assembly.{between, joined, entry}
use Rattle.kriging_theory.specs.Node.{gamma_to, right_hand_of, right_hand, z_of, variance_of, Solution, solution_of}
use Rattle.kriging_theory.specs.Alike.{SameButValues}

-- t with s's values
abbrev with_values : Survey → List Float → Survey
with_values t values = record {
  values = values;
  coords = t.coords;
  bases = t.bases;
  external = t.external;
  nodes = t.nodes;
  node_external = t.node_external;
  options = t.options;
  tolerance = t.tolerance;
}

renamed : {s t : Survey} → SameButValues s t → s ≡ with_values t s.values
renamed {s} {t} h = λ i. record {
  values = s.values;
  coords = h.coords i;
  bases = h.bases i;
  external = h.external i;
  nodes = h.nodes i;
  node_external = h.node_external i;
  options = h.options i;
  tolerance = h.tolerance i;
}

-- what is told of a survey by the number of its values, n, and its F, D
abbrev drift_by : Survey → ℕ → ℕ → ℕ → Float
drift_by t n i j = get_or (drift_row t.bases (well_x t i) (well_y t i) (λ c. get_or t.external (c * n + i) nan) 0) j nan

abbrev entry_by : Survey → ℕ → ℕ → ℕ → (ℕ → ℕ → Float) → Float
entry_by t i j n D = joined n (between t.options t.coords) D i j

abbrev right_by : Survey → ℕ → ℕ → List Float
right_by t q n = right_hand_of n (gamma_to t.options.variogram t.coords (node_x t q) (node_y t q)) (node_row t q)

abbrev solution_by : Survey → List Float → ℕ → ℕ → (ℕ → ℕ → Float) → Solution
solution_by t work q n D =
    let b = right_by t q n in
    let z = z_of (n + columns t) work b in
    record {
      z = z;
      variance = variance_of (n + columns t) z b;
      drift_verdict = column_verdict (record {
        n = n;
        p = columns t;
        weight = λ i. get_or z i nan;
        drift = D;
        node_drift = λ j. get_or (node_row t q) j nan;
        tolerance = t.tolerance;
      });
    }

module _ (t : Survey) (values : List Float) (same : length values ≡ wells t) where
  -- F reads it in the place of an external value
  drift_values : drift (with_values t values) ≡ drift t
  drift_values = ap (drift_by t) same

  entry_values : (i j : ℕ) → entry (with_values t values) i j ≡ entry t i j
  unfolding entry
  entry_values i j = ap₂ (entry_by t i j) same drift_values

  solution_values : (work : List Float) (q : ℕ) → solution_of (with_values t values) work q ≡ solution_of t work q
  unfolding solution_of right_hand
  solution_values work q = ap₂ (solution_by t work q) same drift_values

-- the matrix
pub assembly_without_values : (s t : Survey) → SameButValues s t → (i j : ℕ) → entry s i j ≡ entry t i j
assembly_without_values s t h i j = ap (λ (u : Survey). entry u i j) (renamed h) ∙ entry_values t s.values h.wells i j

-- z, the variance and the verdict of rows 1 to p
pub solution_without_values : (s t : Survey) → SameButValues s t → (work : List Float) (q : ℕ) → solution_of s work q ≡ solution_of t work q
solution_without_values s t h work q = ap (λ (u : Survey). solution_of u work q) (renamed h) ∙ solution_values t s.values h.wells work q
