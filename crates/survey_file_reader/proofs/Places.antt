-- What stands in the trailer, found in the whole file, and how great the counts can be.
use Prim.Native.Nat.{ℕ, ◌+◌, ◌-◌, ◌*◌, ◌<◌, ◌≤◌}
use native.Mathlib.Nat.{mul-le-mul}
use native.Mathlib.Omega.{arith}
use mathlib.Core.Path.{◌≡◌, ap, sym, ◌∙◌}
use mathlib.Core.List.{List}
use lib.ListN.{length, get_or, take, drop, length-take}
use lib.Seq.{drop-drop, get_or-drop}
use Rattle.area.specs.Area.{part}
use Rattle.ieee.specs.Bytes.{number_in}
use Rattle.patterns.specs.Words.{number_at}
use Rattle.survey.specs.Survey.{external_count}
use Rattle.survey.proofs.Codes.{externals_at_most}
use Rattle.survey_file_theory.specs.Trailer.{trailer_in, bases_in, codes_in, externals_in}

-- a number some places into the trailer, and a byte
pub number_in_lem : (bytes : List ℕ) {at : ℕ} (j width : ℕ) → at ≡ length bytes - 14 → number_at bytes (at + j) width ≡ number_in (part j width (trailer_in bytes))
number_in_lem bytes {at} j width e =
    ap (λ (k : ℕ). number_at bytes (k + j) width) e ∙ ap (λ (l : List ℕ). number_in (take width l)) (sym (drop-drop j (length bytes - 14) bytes))

pub first_number : (bytes : List ℕ) {at : ℕ} (width : ℕ) → at ≡ length bytes - 14 → number_at bytes at width ≡ number_in (part 0 width (trailer_in bytes))
first_number bytes width e = ap (λ (k : ℕ). number_at bytes k width) e

pub byte_in : (bytes : List ℕ) (j : ℕ) → get_or bytes (length bytes - 14 + j) 0 ≡ get_or (trailer_in bytes) j 0
byte_in bytes j = sym (get_or-drop (length bytes - 14) bytes j 0)

-- codes between two places are as many as there are places from the one to the other
pub codes_are : (bytes : List ℕ) (end b c : ℕ) → b ≡ c → c ≤ end → part (end - b) (end - (end - b)) bytes ≡ part (end - c) c bytes
codes_are bytes end b c e h =
    let from : end - b ≡ end - c = omega arith in
    let count : end - (end - b) ≡ c = omega arith in
    rw (count, from)

-- k is counted among the codes before the trailer
pub externals_are : (bytes : List ℕ) {end b k : ℕ} → k ≡ external_count (part (end - b) (end - (end - b)) bytes) → end ≡ length bytes - 14
    → b ≡ bases_in bytes → 14 + bases_in bytes ≤ length bytes → k ≡ externals_in bytes
externals_are bytes {end} {b} e l f h =
    e
    ∙ ap external_count (codes_are bytes end b (bases_in bytes) f (omega arith))
    ∙ ap (λ (n : ℕ). external_count (part (n - bases_in bytes) (bases_in bytes) bytes)) l

-- there are no more of code 4 than codes
pub externals_few : (bytes : List ℕ) → externals_in bytes ≤ bases_in bytes
externals_few bytes =
    let from = length bytes - 14 - bases_in bytes in
    omega (arith, externals_at_most (codes_in bytes), length-take (bases_in bytes) (drop from bytes))

-- a product of two counts of two bytes
pub small_product : (k n : ℕ) → k < 65536 → n < 65536 → k * n < 4294967296
small_product k n h g =
    let k_most : k ≤ 65535 = omega arith in
    let n_most : n ≤ 65535 = omega arith in
    omega (arith, mul-le-mul k_most n_most)
