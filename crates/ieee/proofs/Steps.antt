-- f64 by their patterns: from one pattern without a sign to the next the number rises, up to infinity.
use Rattle.std.proofs.Common.{◌≡◌, ℕ, zero, suc, ◌+◌, ◌-◌, ◌*◌, ◌/◌, ◌%◌, ◌^◌, ◌<◌, ◌≤◌, Bool, true, false, leb, sym, ap, ◌∙◌, subst, true≢false, lt_trans, mul-le-mul_right, lt_of_mul-lt-mul_right, mul-lt-mul_of_pos_right, mul_right_comm, arith, pow_pos, le-ltb, lt-ltb}
use native.Mathlib.Nat.{two-pow-succ}
use native.Mathlib.Decide.{dec_lt}
use lib.Ieee.Order.{transfer}
use borrow.Author.Tests.{lt-leb}
use lib.Ieee.{Float, nan, inf, fin, binary64, up, down, lt, of_bits, of_fields}
use lib.Ieee.Exact.{HasValue}
use lib.Ieee.Fits.{down_pos}
use Rattle.ieee.specs.Values.{fields_multiple}
use Rattle.ieee.proofs.Fields.{fields_value, field_finite}

-- ---- the value of a pattern without a sign, below infinity's, in units of 2^-1074
abbrev pub pattern_multiple : ℕ → ℕ
pattern_multiple b = fields_multiple (b / 2 ^ 52) (b % 2 ^ 52)

pub bits_multiple : (b : ℕ) → b < 2047 * 2 ^ 52 → HasValue (of_bits binary64 b) false (pattern_multiple b) (2 ^ 1074)
unfolding of_bits
bits_multiple b h =
    let sign : leb (2 ^ 63) b ≡ false = lt-leb (2 ^ 63) b (omega arith) in
    let field : b % 2 ^ 63 / 2 ^ 52 ≡ b / 2 ^ 52 = omega arith in
    let small : b / 2 ^ 52 < 2047 = omega arith in
    let is : of_fields binary64 (leb (2 ^ 63) b) (b % 2 ^ 63 / 2 ^ 52) (b % 2 ^ 52) ≡ of_fields binary64 false (b / 2 ^ 52) (b % 2 ^ 52) =
    ap (λ (s : Bool). of_fields binary64 s (b % 2 ^ 63 / 2 ^ 52) (b % 2 ^ 52)) sign
    ∙ ap (λ (n : ℕ). of_fields binary64 false n (b % 2 ^ 52)) field in
    subst (λ (x : Float). HasValue x false (pattern_multiple b) (2 ^ 1074)) (sym is)
    (fields_value false (b / 2 ^ 52) (b % 2 ^ 52) (field_finite (b / 2 ^ 52) (b % 2 ^ 52) small))

-- ---- it rises: within a binade, and from one to the next
within_binade : (e t : ℕ) → fields_multiple e t < fields_multiple e (suc t)
within_binade zero t = omega arith
within_binade (suc e) t = mul-lt-mul_of_pos_right (omega arith) (pow_pos e)

next_binade : (e : ℕ) → fields_multiple e (2 ^ 52 - 1) < fields_multiple (suc e) 0
next_binade zero = omega arith
next_binade (suc e) =
    let p : 2 ^ suc e ≡ 2 ^ e + 2 ^ e = two-pow-succ e in
    let q = pow_pos e in
    omega arith

multiple_rises : (b : ℕ) → pattern_multiple b < pattern_multiple (suc b)
multiple_rises b =
    elim (dec_lt (b % 2 ^ 52) (2 ^ 52 - 1)) [
      | yes l ↦
          let field : suc b / 2 ^ 52 ≡ b / 2 ^ 52 = omega arith in
          let fraction : suc b % 2 ^ 52 ≡ suc (b % 2 ^ 52) = omega arith in
          rw (field, fraction) (within_binade (b / 2 ^ 52) (b % 2 ^ 52))
      | no l ↦
          let field : suc b / 2 ^ 52 ≡ suc (b / 2 ^ 52) = omega arith in
          let fraction : suc b % 2 ^ 52 ≡ 0 = omega arith in
          let last : b % 2 ^ 52 ≡ 2 ^ 52 - 1 = omega arith in
          rw (field, fraction, last) (next_binade (b / 2 ^ 52))
    ]

-- ---- so does the number
crossed : (x y de dd a b c : ℕ) → 0 < de → 0 < dd → x * c ≡ a * de → y * c ≡ b * dd → a < b → x * dd < y * de
crossed x y de dd a b c E D p q h =
    let l : x * dd * c ≡ a * de * dd = mul_right_comm x dd c ∙ ap (λ (z : ℕ). z * dd) p in
    let r : y * de * c ≡ b * de * dd = mul_right_comm y de c ∙ ap (λ (z : ℕ). z * de) q ∙ mul_right_comm b dd de in
    let less : a * de * dd < b * de * dd = mul-lt-mul_of_pos_right (mul-lt-mul_of_pos_right h E) D in
    lt_of_mul-lt-mul_right c (omega arith)

pub below_of_values : (x y : Float) (a b c : ℕ) → HasValue x false a c → HasValue y false b c → a < b → lt x y ≡ true
unfolding lt
below_of_values nan y a b c hx hy l = absurd hx
below_of_values (inf s) y a b c hx hy l = absurd hx
below_of_values (fin s m e) nan a b c hx hy l = absurd hy
below_of_values (fin s m e) (inf t) a b c hx hy l = absurd hy
below_of_values (fin true m e) (fin t n d) a b c hx hy l = absurd (true≢false hx.0)
below_of_values (fin false m e) (fin true n d) a b c hx hy l = absurd (true≢false hy.0)
below_of_values (fin false m e) (fin false n d) a b c hx hy l =
    lt-ltb (m * up e * down d) (n * up d * down e) (crossed (m * up e) (n * up d) (down e) (down d) a b c (down_pos e) (down_pos d) hx.1 hy.1 l)

pub pattern_rises : (b : ℕ) → suc b < 2047 * 2 ^ 52 → lt (of_bits binary64 b) (of_bits binary64 (suc b)) ≡ true
pattern_rises b h =
    below_of_values (of_bits binary64 b) (of_bits binary64 (suc b)) (pattern_multiple b) (pattern_multiple (suc b)) (2 ^ 1074) (bits_multiple b (omega arith))
    (bits_multiple (suc b) h) (multiple_rises b)

-- ---- and so from any pattern to any later one
climb : (d a b : ℕ) → b ≡ a + suc d → pattern_multiple a < pattern_multiple b
climb zero a b e = let next : suc a ≡ b = omega arith in subst (λ (n : ℕ). pattern_multiple a < pattern_multiple n) next (multiple_rises a)
climb (suc d) a b e = let first = multiple_rises a in let rest = climb d (suc a) b (omega arith) in lt_trans first rest

pub patterns_rise : (a b : ℕ) → a < b → b < 2047 * 2 ^ 52 → lt (of_bits binary64 a) (of_bits binary64 b) ≡ true
patterns_rise a b l h =
    below_of_values (of_bits binary64 a) (of_bits binary64 b) (pattern_multiple a) (pattern_multiple b) (2 ^ 1074) (bits_multiple a (omega arith)) (bits_multiple b h)
    (climb (b - suc a) a b (omega arith))

pub not_below_of_values : (x y : Float) (a b c : ℕ) → 0 < c → HasValue x false a c → HasValue y false b c → b ≤ a → lt x y ≡ false
unfolding lt
not_below_of_values nan y a b c C hx hy l = absurd hx
not_below_of_values (inf s) y a b c C hx hy l = absurd hx
not_below_of_values (fin s m e) nan a b c C hx hy l = absurd hy
not_below_of_values (fin s m e) (inf t) a b c C hx hy l = absurd hy
not_below_of_values (fin true m e) (fin t n d) a b c C hx hy l = absurd (true≢false hx.0)
not_below_of_values (fin false m e) (fin true n d) a b c C hx hy l = absurd (true≢false hy.0)
not_below_of_values (fin false m e) (fin false n d) a b c C hx hy l =
    le-ltb (m * up e * down d) (n * up d * down e)
    (transfer (n * up d) (m * up e) (down d) (down e) b a c c C C hy.1 hx.1 (mul-le-mul_right c l))

-- a pattern is not below an earlier one, nor below itself
pub not_below_earlier : (a b : ℕ) → a ≤ b → b < 2047 * 2 ^ 52 → lt (of_bits binary64 b) (of_bits binary64 a) ≡ false
not_below_earlier a b l h =
    not_below_of_values (of_bits binary64 b) (of_bits binary64 a) (pattern_multiple b) (pattern_multiple a) (2 ^ 1074) (pow_pos 1074) (bits_multiple b h)
    (bits_multiple a (omega arith))
    (elim (dec_lt a b) [
      | yes q ↦ let r = climb (b - suc a) a b (omega arith) in omega arith
      | no q ↦ let same : a ≡ b = omega arith in rw same (omega arith)
    ])
