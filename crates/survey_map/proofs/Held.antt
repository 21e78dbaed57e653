-- The survey that the reader read lies in the first places of the areas that it filled.
use Prim.Native.Nat.{ℕ, ◌*◌, ◌≤◌}
use native.Mathlib.Omega.{arith}
use mathlib.Core.Path.{◌≡◌, refl, ap, sym, subst, ◌∙◌}
use mathlib.Core.List.{List, ◌++◌}
use lib.ListN.{length, take, length-append}
use lib.Seq.{take_at}
use Rattle.std.specs.Prelude.{Ok}
use Rattle.survey.specs.Survey.{Survey, survey_of, external_count}
use Rattle.survey_file_theory.specs.declared.Header.{Header}
use Rattle.survey_file_theory.specs.File.{newest_version}
use Rattle.survey_file_theory.specs.Areas.{Areas}
use Rattle.survey_file_theory.specs.Trailer.{wells_in, nodes_in, bases_in, externals_in}
use Rattle.survey_file_theory.specs.Reader.{survey_in, header_of, outcome_of, ListLengths, Filled, Ends}
use Rattle.survey_map.specs.Areas.{externals_held, Holding, survey_held}
use Rattle.survey_map.specs.Text.{survey_text, file_text}
use Rattle.survey_map.proofs.Texts.{read_text}

-- a list in the first places of an area
first : {A : Type 0} (area xs rest : List A) (n : ℕ) → length xs ≡ n → area ≡ xs ++ rest → take n area ≡ xs
first area xs rest n l e = ap (take n) e ∙ take_at xs rest n l

inside : {A : Type 0} (area xs rest : List A) (n : ℕ) → length xs ≡ n → area ≡ xs ++ rest → n ≤ length area
inside area xs rest n l e = omega (arith, ap length e, length-append xs rest)

module _ (bytes : List ℕ) where
  abbrev header : Header
  header = header_of (wells_in bytes) (nodes_in bytes) (bases_in bytes) (survey_in bytes)

  module _ (before after : Areas) (l : ListLengths bytes (survey_in bytes)) (f : Filled bytes (survey_in bytes) before after) where
    codes : take (bases_in bytes) after.bases ≡ (survey_in bytes).bases
    codes = first after.bases (survey_in bytes).bases _ (bases_in bytes) l.bases f.bases

    externals : externals_held header after ≡ externals_in bytes
    unfolding survey_in
    externals = ap external_count codes

    holding : Holding header after
    holding =
        record {
          values = inside after.values (survey_in bytes).values _ (wells_in bytes) l.values f.values;
          coords = inside after.coords (survey_in bytes).coords _ (2 * wells_in bytes) l.coords f.coords;
          bases = inside after.bases (survey_in bytes).bases _ (bases_in bytes) l.bases f.bases;
          external = rw externals (inside after.external (survey_in bytes).external _ (externals_in bytes * wells_in bytes) l.external f.external);
          nodes = inside after.nodes (survey_in bytes).nodes _ (2 * nodes_in bytes) l.nodes f.nodes;
          node_external = rw externals
              (inside after.node_external (survey_in bytes).node_external _ (externals_in bytes * nodes_in bytes) l.node_external f.node_external);
        }

    held : survey_held header after ≡ survey_in bytes
    held =
        let k = externals in
        let values = first after.values (survey_in bytes).values _ (wells_in bytes) l.values f.values in
        let coords = first after.coords (survey_in bytes).coords _ (2 * wells_in bytes) l.coords f.coords in
        let external = ap (λ (k : ℕ). take (k * wells_in bytes) after.external) k
        ∙ first after.external (survey_in bytes).external _ (externals_in bytes * wells_in bytes) l.external f.external in
        let nodes = first after.nodes (survey_in bytes).nodes _ (2 * nodes_in bytes) l.nodes f.nodes in
        let node_external = ap (λ (k : ℕ). take (k * nodes_in bytes) after.node_external) k
        ∙ first after.node_external (survey_in bytes).node_external _ (externals_in bytes * nodes_in bytes) l.node_external f.node_external in
        λ i. survey_of (values i) (coords i) (codes i) (external i) (survey_in bytes).options (nodes i) (node_external i) (survey_in bytes).tolerance

-- ---- after a call that read
module _ (bytes : List ℕ) (before after : Areas) (h : Header) (e : Ends newest_version bytes before (outcome_of (Ok h) after)) where
  told : header_of (wells_in bytes) (nodes_in bytes) (bases_in bytes) (survey_in bytes) ≡ h
  told = let x = (e.reads refl).header in cc

  pub read_holding : Holding h after
  read_holding = let r = e.reads refl in subst (λ (g : Header). Holding g after) told (holding bytes before after r.lengths r.filled)

  pub read_held : survey_held h after ≡ survey_in bytes
  read_held =
      let r = e.reads refl in
      ap (λ (g : Header). survey_held g after) (sym told) ∙ held bytes before after r.lengths r.filled

  -- what is printed of it
  pub held_text : {s : Survey} → s ≡ survey_held h after → survey_text s ≡ file_text bytes
  held_text same = ap survey_text (same ∙ read_held) ∙ read_text bytes (e.accepted.0 refl).0
