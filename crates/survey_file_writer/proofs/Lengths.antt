-- How long a file is, in numbers and in bytes.
use Prim.Native.Nat.{ℕ, ◌+◌}
use native.Mathlib.Decide.{dec_lt}
use native.Mathlib.Omega.{arith}
use mathlib.Core.Path.{◌≡◌, ap, sym, ◌∙◌}
use mathlib.Core.Bool.{Bool, ◌||◌}
use mathlib.Core.List.{List, ◌++◌, []}
use borrow.Author.Tests.{lt-ltb, le-ltb}
use lib.Dec.{ltb}
use lib.ListN.{length, length-append}
use Rattle.error.proofs.First.{last_one}
use Rattle.survey.specs.Limits.{library}
use Rattle.survey.specs.Survey.{Survey, wells, node_count}
use Rattle.survey_file_theory.specs.Contents.{numbers, node_externals}
use Rattle.survey_file_theory.specs.File.{longest_file, greatest_count, newest_version, writer_file}
use Rattle.survey_file_theory.specs.Refusals.{too_long, short_file}
use Rattle.survey_file_theory.proofs.ReadBack.{length-file}
use Rattle.survey_file_writer.specs.Parts.{bytes_for}

-- ---- numbers
pub length-numbers : (s : Survey) → length (numbers s)
    ≡ 5 + length s.values + length s.coords + length s.external + length s.nodes + length (node_externals s)
unfolding numbers
length-numbers s =
    let v = s.values in
    let c = s.coords in
    let e = s.external in
    let n = s.nodes in
    let x = node_externals s in
    let all : length (v ++ (c ++ (e ++ (n ++ x)))) ≡ length v + (length c + (length e + (length n + length x))) = simp length-append in
    omega arith

-- ---- bytes
pub length-written : (newest : ℕ) (s : Survey) → length (writer_file newest s) ≡ bytes_for (length (numbers s)) (length s.bases)
unfolding writer_file
length-written newest s = let l = length-file newest [] s in omega arith

-- 16 by the length and the wells alone: any other count over 65,535 makes a file over 65,536 bytes
pub too_long_is : (s : Survey) → let file = writer_file newest_version s in
    (ltb longest_file (length file) || ltb library.wells (wells s)) ≡ too_long newest_version s
too_long_is s =
    let file = writer_file newest_version s in
    let l = length-written newest_version s in
    let k = length-numbers s in
    elim (dec_lt longest_file (length file)) [
      | yes p ↦ rw (lt-ltb longest_file (length file) p)
      | no n ↦
          rw (
            le-ltb longest_file (length file) (omega arith),
            le-ltb greatest_count (node_count s) (omega arith),
            le-ltb greatest_count (length s.bases) (omega arith),
          ) (sym (last_one (ltb library.wells (wells s))))
    ]

-- as the code finds them, by the count of the numbers
pub long_is : (s : Survey) {count n : ℕ} {long : Bool} → count ≡ length (numbers s) → n ≡ wells s
    → long ≡ (ltb longest_file (bytes_for count (length s.bases)) || ltb library.wells n) → long ≡ too_long newest_version s
long_is s c e h =
    h
    ∙ (λ i. ltb longest_file (bytes_for (c i) (length s.bases)) || ltb library.wells (e i))
    ∙ ap (λ (k : ℕ). ltb longest_file k || ltb library.wells (wells s)) (sym (length-written newest_version s))
    ∙ too_long_is s

pub short_is : (s : Survey) (area : List ℕ) {count : ℕ} {short : Bool} → count ≡ length (numbers s)
    → short ≡ ltb (length area) (bytes_for count (length s.bases)) → short ≡ short_file newest_version s area
short_is s area c h =
    h ∙ (λ i. ltb (length area) (bytes_for (c i) (length s.bases))) ∙ ap (ltb (length area)) (sym (length-written newest_version s))
