-- What a call that is not refused has to go by: the counts meet the file's length and the areas, and each list stands at its place.
use Prim.Native.Nat.{ℕ, ◌+◌, ◌-◌, ◌*◌, ◌≤◌}
use native.Mathlib.Omega.{arith}
use mathlib.Core.Path.{◌≡◌, ap, sym, ◌∙◌}
use mathlib.Core.List.{List, ◌++◌}
use lib.ListN.{length, take, drop, length-drop}
use lib.Seq.{length-take-le}
use Rattle.std.proofs.lemmas.List.{take_all, drop-drop}
use lib.Ieee.{Float, nan}
use Rattle.area.specs.Area.{part, copied}
use Rattle.area.proofs.Start.{copied_is}
use Rattle.ieee.specs.Bytes.{f64s_in}
use Rattle.survey_file_theory.specs.Contents.{number_count}
use Rattle.survey_file_theory.specs.File.{file_length}
use Rattle.survey_file_theory.specs.Areas.{Areas, filled_with}
use Rattle.survey_file_theory.specs.Rules.{WellFormed, ListsFit}
use Rattle.survey_file_theory.specs.Reader.{survey_in}
use Rattle.survey_file_reader.specs.declared.counts.Counts.{Counts}
use Rattle.survey_file_reader.specs.Counts.{CountsIn}
use Rattle.survey_file_reader.proofs.Numbers.{part_numbers}

pub record Meets (bytes : List ℕ) (areas : Areas) (k : Counts) : Type 0 where
  pub len : length bytes ≡ file_length k.start k.wells k.nodes k.externals k.bases
  pub values : k.wells ≤ length areas.values
  pub coords : 2 * k.wells ≤ length areas.coords
  pub bases : k.bases ≤ length areas.bases
  pub external : k.externals * k.wells ≤ length areas.external
  pub nodes : 2 * k.nodes ≤ length areas.nodes
  pub node_external : k.externals * k.nodes ≤ length areas.node_external

pub meets : (newest : ℕ) (bytes : List ℕ) (areas : Areas) (k : Counts) → CountsIn bytes k → WellFormed newest bytes → ListsFit bytes areas
    → Meets bytes areas k
meets newest bytes areas k e w r =
    let m = w.meet in
    record {
      len = rw (e.start, e.wells, e.nodes, e.externals, e.bases) (omega arith);
      values = rw e.wells r.values;
      coords = rw e.wells r.coords;
      bases = rw e.bases r.bases;
      external = rw (e.externals, e.wells) r.external;
      nodes = rw e.nodes r.nodes;
      node_external = rw (e.externals, e.nodes) r.node_external;
    }

-- the numbers of a file with these counts, and a list of them from its place on
abbrev pub numbers_of : List ℕ → Counts → List Float
numbers_of bytes k = f64s_in (number_count k.wells k.nodes k.externals) (drop k.start bytes)

-- the bytes from one of its numbers on, and from so many numbers later on
pub record From (bytes : List ℕ) (k : Counts) (number : ℕ) (rest : List ℕ) : Type 0 where
  pub is : rest ≡ drop (k.start + 8 * number) bytes

-- the values begin behind the five numbers that are no list
pub values_from : (bytes : List ℕ) (k : Counts) → From bytes k 5 (take (length bytes - (k.start + 40)) (drop (k.start + 40) bytes))
values_from bytes k = record { is = take_all _ (drop (k.start + 40) bytes) (omega (arith, length-drop (k.start + 40) bytes)) }

pub later : {bytes : List ℕ} {k : Counts} {from : ℕ} {rest after : List ℕ} (count : ℕ) → From bytes k from rest
    → after ≡ drop (8 * count) rest → From bytes k (from + count) after
later {bytes} {k} {from} count f e =
    let at : k.start + 8 * from + 8 * count ≡ k.start + 8 * (from + count) = omega arith in
    record {
      is =
          e
          ∙ ap (λ (l : List ℕ). drop (8 * count) l) f.is
          ∙ drop-drop (8 * count) (k.start + 8 * from) bytes
          ∙ ap (λ (n : ℕ). drop n bytes) at;
    }

-- a list of numbers from there on
pub list_is : {bytes : List ℕ} {k : Counts} {from : ℕ} {rest : List ℕ} (area : List Float) {after : List Float} (count : ℕ) → From bytes k from rest
    → from + count ≤ number_count k.wells k.nodes k.externals → after ≡ copied nan (f64s_in count rest) area
    → after ≡ copied nan (part from count (numbers_of bytes k)) area
list_is {bytes} {k} {from} area count f h e =
    e
    ∙ ap (λ (l : List Float). copied nan l area)
    (ap (λ (l : List ℕ). f64s_in count l) f.is
    ∙ sym (part_numbers bytes k.start from count (number_count k.wells k.nodes k.externals) h))

-- the codes stand behind all numbers, and end where the trailer begins
pub codes_is : {bytes : List ℕ} {k : Counts} {from : ℕ} {rest : List ℕ} (area : List ℕ) {after : List ℕ} → From bytes k from rest
    → from ≡ number_count k.wells k.nodes k.externals → length bytes ≡ file_length k.start k.wells k.nodes k.externals k.bases
    → after ≡ copied 0 (take k.bases rest) area → after ≡ copied 0 (part (length bytes - 14 - k.bases) k.bases bytes) area
codes_is {bytes} {k} {from} area f all len e =
    let at : k.start + 8 * from ≡ length bytes - 14 - k.bases = omega arith in
    e ∙ ap (λ (l : List ℕ). copied 0 (take k.bases l) area) (f.is ∙ ap (λ (n : ℕ). drop n bytes) at)

-- codes that are copied, and then what was there
pub codes_copied : (bytes area : List ℕ) (count : ℕ) {codes : List ℕ} → count ≤ length bytes → count ≤ length area → codes ≡ take count bytes
    → codes ++ drop count area ≡ copied 0 (take count bytes) area
codes_copied bytes area count h g e =
    let xs = take count bytes in
    let len : length xs ≡ count = length-take-le count bytes h in
    ap (λ (l : List ℕ). l ++ drop count area) e ∙ ap (λ (k : ℕ). xs ++ drop k area) (sym len) ∙ sym (copied_is 0 xs area (omega arith))

-- the areas with the lists of a file with these counts
abbrev filled_at : List ℕ → ℕ → ℕ → ℕ → ℕ → ℕ → Areas → Areas
filled_at bytes start n m j codes areas =
    let xs = f64s_in (number_count n m j) (drop start bytes) in
    record {
      values = copied nan (part 5 n xs) areas.values;
      coords = copied nan (part (5 + n) (2 * n) xs) areas.coords;
      bases = copied 0 (part (length bytes - 14 - codes) codes bytes) areas.bases;
      external = copied nan (part (5 + n + 2 * n) (j * n) xs) areas.external;
      nodes = copied nan (part (5 + n + 2 * n + j * n) (2 * m) xs) areas.nodes;
      node_external = copied nan (part (5 + n + 2 * n + j * n + 2 * m) (j * m) xs) areas.node_external;
    }

abbrev pub filled_by : List ℕ → Counts → Areas → Areas
filled_by bytes k areas = filled_at bytes k.start k.wells k.nodes k.externals k.bases areas

-- areas that hold these lists one by one are filled with those of the file
pub filled_is : (bytes : List ℕ) (areas : Areas) (k : Counts) → CountsIn bytes k → {after : Areas}
    → after.values ≡ (filled_by bytes k areas).values
    → after.coords ≡ (filled_by bytes k areas).coords
    → after.bases ≡ (filled_by bytes k areas).bases
    → after.external ≡ (filled_by bytes k areas).external
    → after.nodes ≡ (filled_by bytes k areas).nodes
    → after.node_external ≡ (filled_by bytes k areas).node_external
    → after ≡ filled_with (survey_in bytes) areas
unfolding survey_in
filled_is bytes areas k e v c b x n y =
    (λ i. record { values = v i; coords = c i; bases = b i; external = x i; nodes = n i; node_external = y i })
    ∙ (λ i. filled_at bytes (e.start i) (e.wells i) (e.nodes i) (e.externals i) (e.bases i) areas)
