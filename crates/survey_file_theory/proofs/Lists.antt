-- The lists of a survey in the row of its numbers: how many these are, and that each list is cut out again at its place.
use Prim.Native.Nat.{ℕ, ◌+◌, ◌*◌}
use native.Mathlib.Omega.{arith}
use mathlib.Core.Path.{◌≡◌, refl, ap, sym, ◌∙◌}
use mathlib.Core.List.{List, [], ◌∷◌, ◌++◌, append_assoc}
use lib.ListN.{length, take, length-append}
use lib.Seq.{take_at, drop_at, take_all}
use lib.Ieee.{Float}
use Rattle.area.specs.Area.{part}
use Rattle.ieee.specs.Floats.{epsilon}
use Rattle.variogram.specs.Model.{with_same_spot}
use Rattle.survey.specs.Survey.{Survey, wells, node_count, externals}
use Rattle.survey_file_theory.specs.Contents.{node_externals, numbers, number_count, without_ignored, Lists}
use Rattle.survey_file_theory.specs.Reader.{survey_from}

-- a list between two others
part_between : (ps qs rs : List Float) (from count : ℕ) → length ps ≡ from → length qs ≡ count → part from count (ps ++ (qs ++ rs)) ≡ qs
part_between ps qs rs from count e f = ap (λ (l : List Float). take count l) (drop_at ps (qs ++ rs) from e) ∙ take_at qs rs count f

-- a list after another
part_after : (ps qs : List Float) (from count : ℕ) → length ps ≡ from → length qs ≡ count → part from count (ps ++ qs) ≡ qs
part_after ps qs from count e f = ap (λ (l : List Float). take count l) (drop_at ps qs from e) ∙ take_all count qs (omega arith)

-- the five numbers that are no list, and then others
abbrev after_five : Survey → List Float → List Float
after_five s xs =
    s.options.variogram.nugget
    ∷ s.options.variogram.sill
    ∷ s.options.variogram.range
    ∷ s.options.regularization
    ∷ s.tolerance
    ∷ xs

-- where the coordinates, the externals, the nodes and the node externals begin
abbrev coords_from : Survey → ℕ
coords_from s = 5 + wells s

abbrev external_from : Survey → ℕ
external_from s = coords_from s + 2 * wells s

abbrev nodes_from : Survey → ℕ
nodes_from s = external_from s + externals s * wells s

abbrev node_external_from : Survey → ℕ
node_external_from s = nodes_from s + 2 * node_count s

module _ (s : Survey) (l : Lists s) where
  pub length-numbers : length (numbers s) ≡ number_count (wells s) (node_count s) (externals s)
  unfolding numbers
  length-numbers =
      let v = s.values in
      let c = s.coords in
      let e = s.external in
      let n = s.nodes in
      let x = node_externals s in
      let all : length (v ++ (c ++ (e ++ (n ++ x)))) ≡ length v + (length c + (length e + (length n + length x))) = simp length-append in
      omega arith

  -- how many numbers stand before the externals, the nodes and the node externals
  before_external : length (after_five s (s.values ++ s.coords)) ≡ external_from s
  before_external = let a = length-append s.values s.coords in omega arith

  before_nodes : length (after_five s (s.values ++ (s.coords ++ s.external))) ≡ nodes_from s
  before_nodes =
      let a = length-append s.values (s.coords ++ s.external) in
      let b = length-append s.coords s.external in
      omega arith

  before_last : length (after_five s (s.values ++ (s.coords ++ (s.external ++ s.nodes)))) ≡ node_external_from s
  before_last =
      let a = length-append s.values (s.coords ++ (s.external ++ s.nodes)) in
      let b = length-append s.coords (s.external ++ s.nodes) in
      let c = length-append s.external s.nodes in
      omega arith

  values_back : part 5 (wells s) (numbers s) ≡ s.values
  unfolding numbers
  values_back = part_between (after_five s []) s.values (s.coords ++ (s.external ++ (s.nodes ++ node_externals s))) 5 (wells s) refl refl

  coords_back : part (coords_from s) (2 * wells s) (numbers s) ≡ s.coords
  unfolding numbers
  coords_back =
      part_between (after_five s s.values) s.coords (s.external ++ (s.nodes ++ node_externals s)) (coords_from s) (2 * wells s)
      (omega arith) l.coords

  external_back : part (external_from s) (externals s * wells s) (numbers s) ≡ s.external
  unfolding numbers
  external_back =
      ap (λ (xs : List Float). part (external_from s) (externals s * wells s) (after_five s xs)) (simp append_assoc)
      ∙ part_between (after_five s (s.values ++ s.coords)) s.external (s.nodes ++ node_externals s) (external_from s) (externals s * wells s)
      before_external l.external

  nodes_back : part (nodes_from s) (2 * node_count s) (numbers s) ≡ s.nodes
  unfolding numbers
  nodes_back =
      ap (λ (xs : List Float). part (nodes_from s) (2 * node_count s) (after_five s xs)) (simp append_assoc)
      ∙ part_between (after_five s (s.values ++ (s.coords ++ s.external))) s.nodes (node_externals s) (nodes_from s) (2 * node_count s)
      before_nodes l.nodes

  node_external_back : part (node_external_from s) (externals s * node_count s) (numbers s) ≡ node_externals s
  unfolding numbers
  node_external_back =
      ap (λ (xs : List Float). part (node_external_from s) (externals s * node_count s) (after_five s xs)) (simp append_assoc)
      ∙ part_after (after_five s (s.values ++ (s.coords ++ (s.external ++ s.nodes)))) (node_externals s)
      (node_external_from s) (externals s * node_count s) before_last l.node_external

  -- the survey again, from its numbers
  pub survey_back : s.options.variogram.same_spot ≡ epsilon →
      survey_from s.options.variogram.model (wells s) (node_count s) (externals s) (numbers s) s.bases ≡ without_ignored s
  unfolding numbers
  survey_back spot = λ i.
      record {
        values = values_back i;
        coords = coords_back i;
        bases = s.bases;
        external = external_back i;
        nodes = nodes_back i;
        node_external = node_external_back i;
        options = record { variogram = with_same_spot s.options.variogram (sym spot i); regularization = s.options.regularization };
        tolerance = s.tolerance;
      }
