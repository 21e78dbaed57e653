-- How long the lists are that are read, and what the reader's areas hold then: each its list, and past it what was there.
use Prim.Native.Nat.{ℕ, ◌+◌, ◌-◌, ◌*◌, ◌≤◌}
use native.Mathlib.Omega.{arith}
use mathlib.Core.Path.{◌≡◌, ap, ◌∙◌}
use mathlib.Core.List.{List, ◌++◌}
use lib.ListN.{length, drop, length-drop}
use lib.Seq.{length-take-le}
use lib.Ieee.{Float, nan}
use Rattle.area.specs.Area.{part, copied}
use Rattle.area.proofs.Start.{copied_is}
use Rattle.ieee.specs.Bytes.{f64s_in}
use Rattle.ieee.proofs.Bytes.{length-f64s_in}
use Rattle.survey.specs.Survey.{Survey}
use Rattle.survey_file_theory.specs.Contents.{number_count}
use Rattle.survey_file_theory.specs.Areas.{Areas, filled_with}
use Rattle.survey_file_theory.specs.Trailer.{start_in, wells_in, nodes_in, bases_in, externals_in}
use Rattle.survey_file_theory.specs.Rules.{WellFormed, ListsFit}
use Rattle.survey_file_theory.specs.Reader.{survey_in, ListLengths, Filled}
use Rattle.survey_file_theory.proofs.WellFormed.{codes_before}

length_part : (from count : ℕ) (xs : List Float) → from + count ≤ length xs → length (part from count xs) ≡ count
length_part from count xs h = let e = length-drop from xs in length-take-le count (drop from xs) (omega arith)

-- the lists of what is read have the lengths that the trailer states
pub lengths : (newest : ℕ) (bytes : List ℕ) → WellFormed newest bytes → ListLengths bytes (survey_in bytes)
unfolding survey_in
lengths newest bytes w =
    let n = wells_in bytes in
    let m = nodes_in bytes in
    let k = externals_in bytes in
    let xs = f64s_in (number_count n m k) (drop (start_in bytes) bytes) in
    let l : length xs ≡ number_count n m k = length-f64s_in (number_count n m k) (drop (start_in bytes) bytes) in
    let from = length bytes - 14 - bases_in bytes in
    let d = length-drop from bytes in
    let c = codes_before newest bytes w in
    record {
      values = length_part 5 n xs (omega arith);
      coords = length_part (5 + n) (2 * n) xs (omega arith);
      bases = length-take-le (bases_in bytes) (drop from bytes) (omega arith);
      external = length_part (5 + n + 2 * n) (k * n) xs (omega arith);
      nodes = length_part (5 + n + 2 * n + k * n) (2 * m) xs (omega arith);
      node_external = length_part (5 + n + 2 * n + k * n + 2 * m) (k * m) xs (omega arith);
    }

-- an area that a list of n elements was written to
copied_of : {A : Type 0} (d : A) (xs area : List A) (n : ℕ) → length xs ≡ n → n ≤ length area → copied d xs area ≡ xs ++ drop n area
copied_of {A} d xs area n e h = copied_is d xs area (omega arith) ∙ ap (λ (k : ℕ). xs ++ drop k area) e

pub filled : (bytes : List ℕ) (s : Survey) (areas : Areas) → ListLengths bytes s → ListsFit bytes areas → Filled bytes s areas (filled_with s areas)
filled bytes s areas l r =
    record {
      values = copied_of nan s.values areas.values (wells_in bytes) l.values r.values;
      coords = copied_of nan s.coords areas.coords (2 * wells_in bytes) l.coords r.coords;
      bases = copied_of 0 s.bases areas.bases (bases_in bytes) l.bases r.bases;
      external = copied_of nan s.external areas.external (externals_in bytes * wells_in bytes) l.external r.external;
      nodes = copied_of nan s.nodes areas.nodes (2 * nodes_in bytes) l.nodes r.nodes;
      node_external = copied_of nan s.node_external areas.node_external (externals_in bytes * nodes_in bytes) l.node_external r.node_external;
    }
