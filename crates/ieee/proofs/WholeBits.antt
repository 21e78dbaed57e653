-- The pattern of the whole part: below 1, where the pattern is the number's own, and between.
use Rattle.std.proofs.Common.{◌≡◌, ℕ, zero, suc, ◌+◌, ◌-◌, ◌*◌, ◌/◌, ◌%◌, ◌^◌, ◌<◌, ◌≤◌, Bool, true, false, not, T, ltb, sym, ap, ◌∙◌, subst, le_refl, lt_of_lt_of_le, mod-eq_of_lt, mul_assoc, one-mul, div-add-mod', mul-div_cancel, arith, ltb→lt, nltb→le, pow_pos, pow_mono, pow-add, shl_lt}
use native.Mathlib.Nat.{mul-div-mul_right, div-eq_of_lt, mod-le}
use lib.Pow.{pow-lt, mod-mod-pow}
use Rattle.ieee.specs.Values.{fields_multiple}
use Rattle.ieee.specs.Whole.{WholeBits}

-- ---- below 1
small : (e t : ℕ) → e < 1023 → t < 2 ^ 52 → fields_multiple e t < 2 ^ 1074
small zero t a b = lt_of_lt_of_le b (pow_mono {i = 52} {j = 1074} (omega arith))
small (suc e) t a b = lt_of_lt_of_le (shl_lt 53 e (omega arith)) (pow_mono {i = 53 + e} {j = 1074} (omega arith))

pub below_one : (bits : ℕ) → bits / 2 ^ 52 < 1023 → WholeBits bits 0
below_one bits h =
    record {
      within = omega arith;
      value = sym (ap (λ (n : ℕ). n * 2 ^ 1074) (div-eq_of_lt (small (bits / 2 ^ 52) (bits % 2 ^ 52) h (omega arith))));
    }

-- ---- a whole number already
large : (e t : ℕ) → 1075 ≤ e → fields_multiple e t ≡ fields_multiple e t / 2 ^ 1074 * 2 ^ 1074
large zero t h = absurd (omega arith)
large (suc e) t h =
    let S = 2 ^ 52 + t in
    let is : S * 2 ^ e ≡ S * 2 ^ (e - 1074) * 2 ^ 1074 =
    ap (λ (k : ℕ). S * 2 ^ k) (let x : e ≡ e - 1074 + 1074 = omega arith in x) ∙ ap (λ (n : ℕ). S * n) (pow-add 2 (e - 1074) 1074)
    ∙ sym (mul_assoc S (2 ^ (e - 1074)) (2 ^ 1074)) in
    is ∙ ap (λ (n : ℕ). n * 2 ^ 1074) (sym (mul-div_cancel (S * 2 ^ (e - 1074)) (pow_pos 1074)) ∙ ap (λ (n : ℕ). n / 2 ^ 1074) (sym is))

pub own_whole : (bits : ℕ) → 1075 ≤ bits / 2 ^ 52 → WholeBits bits bits
own_whole bits h = record { within = le_refl bits; value = large (bits / 2 ^ 52) (bits % 2 ^ 52) h }

-- ---- between: k digits of the significand are a fraction
pub power_small : (k : ℕ) → k ≤ 52 → 1 * 2 ^ k % 2 ^ 64 ≡ 2 ^ k
power_small k h = ap (λ (n : ℕ). n % 2 ^ 64) (one-mul (2 ^ k)) ∙ mod-eq_of_lt (pow-lt {i = k} {j = 64} (omega arith))

pub power_positive : (k : ℕ) → k < 64 → 0 < 1 * 2 ^ k % 2 ^ 64
power_positive k h = subst (λ (n : ℕ). 0 < n) (sym (ap (λ (n : ℕ). n % 2 ^ 64) (one-mul (2 ^ k)) ∙ mod-eq_of_lt (pow-lt {i = k} {j = 64} h))) (pow_pos k)

low_digits : (n k : ℕ) → k ≤ 52 → n % 2 ^ k ≡ n % 2 ^ 52 % 2 ^ k
low_digits n k h = sym (mod-mod-pow n (52 - k) k) ∙ ap (λ (j : ℕ). n % 2 ^ j % 2 ^ k) (let x : 52 - k + k ≡ 52 = omega arith in x)

cleared_value : (e t k : ℕ) → k + e ≡ 1074 → k ≤ 52 → t < 2 ^ 52 → (2 ^ 52 + (t - t % 2 ^ k)) * 2 ^ e ≡ (2 ^ 52 + t) * 2 ^ e / 2 ^ 1074 * 2 ^ 1074
cleared_value e t k is h b =
    let S = 2 ^ 52 + t in
    let u : S % 2 ^ k ≡ t % 2 ^ k = low_digits S k h ∙ ap (λ (n : ℕ). n % 2 ^ k) (let x : S % 2 ^ 52 ≡ t = omega arith in x) in
    let v = mod-le t (2 ^ k) in
    let w = div-add-mod' S (2 ^ k) in
    let kept : 2 ^ 52 + (t - t % 2 ^ k) ≡ S / 2 ^ k * 2 ^ k = omega arith in
    let unit : 2 ^ k * 2 ^ e ≡ 2 ^ 1074 = sym (pow-add 2 k e) ∙ ap (λ (n : ℕ). 2 ^ n) is in
    let part : S * 2 ^ e / 2 ^ 1074 ≡ S / 2 ^ k = ap (λ (n : ℕ). S * 2 ^ e / n) (sym unit) ∙ mul-div-mul_right S (2 ^ k) (pow_pos e) in
    ap (λ (n : ℕ). n * 2 ^ e) kept
    ∙ mul_assoc (S / 2 ^ k) (2 ^ k) (2 ^ e)
    ∙ ap (λ (n : ℕ). S / 2 ^ k * n) unit
    ∙ ap (λ (n : ℕ). n * 2 ^ 1074) (sym part)

cleared_fields : (f t k : ℕ) → f + k ≡ 1075 → k ≤ 52 → t < 2 ^ 52 → fields_multiple f (t - t % 2 ^ k) ≡ fields_multiple f t / 2 ^ 1074 * 2 ^ 1074
cleared_fields zero t k is h b = absurd (omega arith)
cleared_fields (suc e) t k is h b = cleared_value e t k (omega arith) h b

pub cleared : (bits k : ℕ) → bits / 2 ^ 52 + k ≡ 1075 → k ≤ 52 → WholeBits bits (bits - bits % 2 ^ k)
cleared bits k e h =
    let t = bits % 2 ^ 52 in
    let u : bits % 2 ^ k ≡ t % 2 ^ k = low_digits bits k h in
    let v = mod-le t (2 ^ k) in
    let r = bits - bits % 2 ^ k in
    let field : r / 2 ^ 52 ≡ bits / 2 ^ 52 = omega arith in
    let fraction : r % 2 ^ 52 ≡ t - t % 2 ^ k = omega arith in
    record {
      within = omega arith;
      value =
          ap (λ (n : ℕ). fields_multiple n (r % 2 ^ 52)) field
          ∙ ap (λ (n : ℕ). fields_multiple (bits / 2 ^ 52) n) fraction
          ∙ cleared_fields (bits / 2 ^ 52) t k e h (omega arith);
    }

-- ---- every pattern has one
pub whole_pattern : (bits : ℕ) → (r : ℕ) × WholeBits bits r
whole_pattern bits =
    go (ltb (bits / 2 ^ 52) 1023) (ltb (bits / 2 ^ 52) 1075) (ltb→lt (bits / 2 ^ 52) 1023) (nltb→le (bits / 2 ^ 52) 1023) (ltb→lt (bits / 2 ^ 52) 1075)
    (nltb→le (bits / 2 ^ 52) 1075)
  where
    go : (a b : Bool) → (T a → bits / 2 ^ 52 < 1023) → (T (not a) → 1023 ≤ bits / 2 ^ 52) → (T b → bits / 2 ^ 52 < 1075)
        → (T (not b) → 1075 ≤ bits / 2 ^ 52) → (r : ℕ) × WholeBits bits r
    go true b k l m n = (0, below_one bits (k tt))
    go false false k l m n = (bits, own_whole bits (n tt))
    go false true k l m n =
        let x = l tt in
        let y = m tt in
        (bits - bits % 2 ^ (1075 - bits / 2 ^ 52), cleared bits (1075 - bits / 2 ^ 52) (omega arith) (omega arith))
