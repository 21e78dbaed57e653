-- Node by node: what a node gets depends on the node and its external values alone, whatever the other nodes are.
use Prim.Native.Nat.{ℕ, ◌+◌, ◌<◌, ◌≤◌}
use native.Mathlib.Nat.{zero-add}
use native.Mathlib.Omega.{arith}
use mathlib.Core.Path.{◌≡◌, refl, ap, ap₂, ◌∙◌, subst}
use mathlib.Core.Bool.{Bool, true, false, cond}
use mathlib.Core.List.{List, [], ◌∷◌, ◌++◌}
use lib.Dec.{eqb}
use lib.Ieee.{Float}
use Rattle.area.specs.Area.{table}
use Rattle.variogram.specs.Model.{semivariance}
use Rattle.variogram.specs.Distance.{distance2d}
use Rattle.survey.specs.Survey.{Survey, wells, size, external_count, well_x, well_y, node_x, node_y, node_external_at}
use Rattle.kriging_theory.specs.Drift.{block, drift_row, node_row}
use Rattle.kriging_theory.specs.Assembly.{entry}
use Rattle.kriging_theory.specs.Node.{right_hand, solution_of, node_with, node_of}
use Rattle.kriging_theory.specs.Alike.{SameWells, SameNode}

-- ---- a drift row reads the external columns that its codes take, and no other
block_same : (c : ℕ) (x y e f : Float) → (eqb c 4 ≡ true → e ≡ f) → block c x y e ≡ block c x y f
block_same c x y e f h = by (eqb c 4) refl
  where
    by : (b : Bool) → eqb c 4 ≡ b → block c x y e ≡ block c x y f
    by true g = ap (block c x y) (h g)
    by false g = rw g

pub row_same : (cs : List ℕ) (x y : Float) (e f : ℕ → Float) (used : ℕ) → ((c : ℕ) → used ≤ c → c < used + external_count cs → e c ≡ f c)
    → drift_row cs x y e used ≡ drift_row cs x y f used
row_same [] x y e f used h = refl
row_same (c ∷ cs) x y e f used h =
    ap₂ (λ (xs ys : List Float). xs ++ ys)
    (block_same c x y (e used) (f used) (λ g. h used (omega arith) (rw g (omega arith))))
    (row_same cs x y e f (used + cond (eqb c 4) 1 0) (λ k l b. h k (omega arith) (omega arith)))

-- ---- the same survey with other nodes
abbrev with_nodes : Survey → List Float → List Float → Survey
with_nodes t nodes node_external = record {
  values = t.values;
  coords = t.coords;
  bases = t.bases;
  external = t.external;
  nodes = nodes;
  node_external = node_external;
  options = t.options;
  tolerance = t.tolerance;
}

-- a survey that has t's wells is t with its own nodes
pub renamed : {s t : Survey} → SameWells s t → s ≡ with_nodes t s.nodes s.node_external
renamed {s} {t} h = λ i. record {
  values = h.values i;
  coords = h.coords i;
  bases = h.bases i;
  external = h.external i;
  nodes = s.nodes;
  node_external = s.node_external;
  options = h.options i;
  tolerance = h.tolerance i;
}

module _ (t : Survey) (nodes node_external : List Float) (q r : ℕ) (h : SameNode (with_nodes t nodes node_external) t q r) where
  node_row_same : node_row (with_nodes t nodes node_external) q ≡ node_row t r
  node_row_same =
      ap₂ (λ (x y : Float). drift_row t.bases x y (node_external_at (with_nodes t nodes node_external) q) 0) h.x h.y
      ∙ row_same t.bases (node_x t r) (node_y t r) _ _ 0 (λ c l b. h.external c (rw zero-add at b))

  right_same : right_hand (with_nodes t nodes node_external) q ≡ right_hand t r
  unfolding right_hand
  right_same =
      ap₂ (λ (xs ys : List Float). xs ++ ys)
      (ap₂ (λ (x y : Float). table (wells t) (λ i. semivariance t.options.variogram (distance2d (well_x t i) (well_y t i) x y))) h.x h.y)
      node_row_same

  node_same : (work : List Float) → node_of (with_nodes t nodes node_external) work q ≡ node_of t work r
  unfolding node_of node_with solution_of
  node_same work = rw (right_same, node_row_same)

-- what a node gets depends on the node and its external values alone
pub node_alone : (s t : Survey) (q r : ℕ) → SameWells s t → SameNode s t q r → (work : List Float) → node_of s work q ≡ node_of t work r
node_alone s t q r w h work =
    ap (λ (u : Survey). node_of u work q) (renamed w)
    ∙ node_same t s.nodes s.node_external q r (subst (λ (u : Survey). SameNode u t q r) (renamed w) h) work

-- two nodes of one list that are alike get the same
pub node_again : (s : Survey) (q r : ℕ) → SameNode s s q r → (work : List Float) → node_of s work q ≡ node_of s work r
node_again s q r h work =
    node_alone s s q r (record { values = refl; coords = refl; bases = refl; external = refl; options = refl; tolerance = refl }) h work

-- ---- nor do the matrix and its size depend on the nodes
pub size_same : (s t : Survey) → SameWells s t → size s ≡ size t
size_same s t w = ap size (renamed w)

pub entry_same : (s t : Survey) → SameWells s t → (i j : ℕ) → entry s i j ≡ entry t i j
unfolding entry
entry_same s t w i j = ap (λ (u : Survey). entry u i j) (renamed w)
