-- How long lines and listings are, and that no listing of an accepted fit is longer than the longest.
use Prim.Native.Nat.{ℕ, zero, suc, ◌+◌, ◌*◌, ◌≤◌}
use native.Mathlib.Nat.{le_refl, mul-zero}
use native.Mathlib.Decide.{dec_lt}
use native.Mathlib.Omega.{arith}
use mathlib.Core.Path.{◌≡◌, sym}
use mathlib.Core.List.{List, ◌++◌}
use lib.ListN.{length, get_or, length-append}
use lib.Ieee.{Float, nan}
use Rattle.report.specs.Numerals.{ascii, decimal_text, bits_text}
use Rattle.report.specs.Listing.{spaced, word_line, count_line, node_line, bits_line, lines, node_at, coef_at, bits_at, trend_at, listing}
use Rattle.report.proofs.Numerals.{bits_length}

pub word_line_length : (word : List ℕ) (n : ℕ) → length (word_line word n) ≡ length word + length (decimal_text n) + 2
word_line_length word n =
    let d = decimal_text n in
    let a = length-append (word ++ spaced d) (ascii "\n") in
    let b = length-append word (spaced d) in
    omega arith

pub node_line_length : (number : ℕ) (figure variance : Float) (verdict : ℕ)
    → length (node_line number figure variance verdict) ≡ length (decimal_text number) + length (decimal_text verdict) + 36
node_line_length number figure variance verdict =
    let k = decimal_text number in
    let x = spaced (bits_text figure) in
    let y = spaced (bits_text variance) in
    let v = spaced (decimal_text verdict) in
    let a = length-append (k ++ x ++ y ++ v) (ascii "\n") in
    let b = length-append (k ++ x ++ y) v in
    let c = length-append (k ++ x) y in
    let d = length-append k x in
    omega (arith, bits_length figure, bits_length variance)

pub bits_line_length : (word : List ℕ) (x : Float) → length (bits_line word x) ≡ length word + 18
bits_line_length word x =
    let a = length-append (word ++ spaced (bits_text x)) (ascii "\n") in
    let b = length-append word (spaced (bits_text x)) in
    omega (arith, bits_length x)

-- ---- lines
pub lines_more : (k : ℕ) (line : ℕ → List ℕ) → length (lines (suc k) line) ≡ length (lines k line) + length (line k)
lines_more k line = length-append (lines k line) (line k)

-- the lines before the k-th are no longer than all of them
pub lines_before : (k n : ℕ) (line : ℕ → List ℕ) → k ≤ n → length (lines k line) ≤ length (lines n line)
lines_before k zero line h = let e : k ≡ 0 = omega arith in rw e (omega arith)
lines_before k (suc n) line h =
    elim (dec_lt n k) [
      | yes p ↦ let e : k ≡ suc n = omega arith in rw e (le_refl (length (lines (suc n) line)))
      | no m ↦ let b = lines_before k n line (omega arith) in omega (arith, lines_more n line)
    ]

pub bits_lines_length : (word : List ℕ) (p : ℕ) (numbers : List Float) → length (lines p (bits_at word numbers)) ≡ (length word + 18) * p
bits_lines_length word zero numbers = sym (mul-zero (length word + 18))
bits_lines_length word (suc p) numbers =
    omega (arith, lines_more p (bits_at word numbers), bits_lines_length word p numbers, bits_line_length word (get_or numbers p nan))

pub listing_length : (figures variances : List Float) (verdicts : List ℕ) (multipliers trend : List Float)
    → length (listing figures variances verdicts multipliers trend)
    ≡ length (decimal_text (length verdicts)) + 7 + length (lines (length verdicts) (node_at figures variances verdicts))
    + 22 * length multipliers
    + 23 * length trend
unfolding listing
listing_length figures variances verdicts multipliers trend =
    let m = length verdicts in
    let ns = lines m (node_at figures variances verdicts) in
    let cs = lines (length multipliers) (coef_at multipliers) in
    let ts = lines (length trend) (trend_at trend) in
    let a = length-append (count_line m ++ ns ++ cs) ts in
    let b = length-append (count_line m ++ ns) cs in
    let d = length-append (count_line m) ns in
    let coef = bits_lines_length (ascii "coef") (length multipliers) multipliers in
    let slopes = bits_lines_length (ascii "trend") (length trend) trend in
    omega (arith, word_line_length (ascii "nodes") m)
