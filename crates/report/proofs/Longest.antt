-- No listing of an accepted fit, and no refusal, is longer than the longest.
use Prim.Native.Nat.{ℕ, zero, suc, ◌+◌, ◌≤◌, ◌<◌}
use native.Mathlib.Omega.{arith}
use mathlib.Core.Path.{◌≡◌, refl}
use mathlib.Core.List.{List}
use lib.Dec.{lit<}
use lib.ListN.{length, get_or, replicate, length-replicate}
use lib.Ieee.{Float, nan, to_bits}
use Rattle.area.specs.Area.{copied}
use Rattle.report.specs.Numerals.{ascii, digit, in_tens, decimal_text, in_sixteens, hex_text, bits_of, bits_text}
use Rattle.report.specs.Listing.{node_line, lines, node_at, listing, refused_text, longest}
use Rattle.report.specs.Printed.{outcome_of, printed}
use Rattle.std.specs.Prelude.{Ok}
use Rattle.report.proofs.Answers.{with_room}
use Rattle.report.proofs.Numerals.{decimal_length_lem}
use Rattle.report.proofs.Lengths.{word_line_length, node_line_length, lines_more, lines_before, listing_length}

-- lines that are each no longer are no longer together
lines_under : (k : ℕ) (line other : ℕ → List ℕ) → ((i : ℕ) → i < k → length (line i) ≤ length (other i)) → length (lines k line) ≤ length (lines k other)
lines_under zero line other h = omega arith
lines_under (suc k) line other h =
    let a = lines_under k line other (λ i b. h i (omega arith)) in
    let b = h k (omega arith) in
    omega (arith, lines_more k line, lines_more k other)

-- a line as long as a node's can be
widest : ℕ → List ℕ
widest i = node_line (i + 1) nan nan 255

three_digits : length (decimal_text 255) ≡ 3
unfolding digit in_tens decimal_text
three_digits = refl

-- a verdict is a byte, of three digits at most
no_wider : (figures variances : List Float) (verdicts : List ℕ) → ((i : ℕ) → get_or verdicts i 0 < 256)
    → (i : ℕ) → length (node_at figures variances verdicts i) ≤ length (widest i)
unfolding widest
no_wider figures variances verdicts bytes i =
    let v = get_or verdicts i 0 in
    let d : length (decimal_text v) ≤ 3 = decimal_length_lem 3 v (lit< tt) (let b = bytes i in omega arith) in
    omega (arith, node_line_length (i + 1) (get_or figures i nan) (get_or variances i nan) v, node_line_length (i + 1) nan nan 255, three_digits)

hundred : length (lines 100 widest) ≡ 4092
unfolding widest digit in_tens decimal_text in_sixteens hex_text bits_of bits_text to_bits
hundred = refl

pub longest_listing : (figures variances : List Float) (verdicts : List ℕ) (multipliers trend : List Float) → ((i : ℕ) → get_or verdicts i 0 < 256)
    → length verdicts ≤ 100 → length multipliers ≤ 12 → length trend ≤ 12 → length (listing figures variances verdicts multipliers trend) ≤ longest
longest_listing figures variances verdicts multipliers trend bytes m p q =
    let count = decimal_length_lem 3 (length verdicts) (lit< tt) (omega arith) in
    let wide = lines_under (length verdicts) (node_at figures variances verdicts) widest (λ i b. no_wider figures variances verdicts bytes i) in
    let all = lines_before (length verdicts) 100 widest m in
    omega (arith, hundred, listing_length figures variances verdicts multipliers trend)

-- a refusal's number is a byte
pub longest_refusal : (number : ℕ) → number < 256 → length (refused_text number) ≤ longest
unfolding refused_text
longest_refusal number b =
    let d = decimal_length_lem 3 number (lit< tt) (omega arith) in
    omega (arith, word_line_length (ascii "refused") number)

-- in the area that `text_area` gives, whatever is no longer has room
pub in_text_area : (text : List ℕ) → length text ≤ longest
    → printed text (replicate longest 0) ≡ outcome_of (Ok (length text)) (copied 0 text (replicate longest 0))
in_text_area text h = with_room text (replicate longest 0) (let l = length-replicate {A = ℕ} longest 0 in omega arith)
