-- No sum of up to 2^80 products of f64 wraps in 67 words: what is read is the exact sum, in units of 2^-2148.
use Rattle.std.proofs.Common.{◌≡◌, ℕ, zero, suc, ◌+◌, ◌-◌, ◌*◌, ◌/◌, ◌%◌, ◌^◌, ◌<◌, ◌≤◌, Bool, true, false, cond, ◌&&◌, T, eqb, ltb, leb, List, length, get_or, ℤ, pos, ◌+ℤ◌, ◌-ℤ◌, ◌*ℤ◌, neg_ℤ, nat_abs, sym, refl, ap, ◌∙◌, subst, ap₂, le_trans, le_of_eq, lt_of_le_of_lt, le_of_lt, add-le-add, mul-le-mul_right, div-lt_iff_lt-mul, add-mul, mul-le-mul, mul-lt-mul_of_pos_right, one-mul, zero-mul, mul_right_comm, arith, lit<, lit≤, ltb→lt, pow_pos, pow_mono}
use native.Mathlib.Nat.{zero-div}
use lib.IntN.{+ℤ_idr, zero-*ℤ, *ℤ-zero}
use lib.Signed.{le_z}
use lib.Ieee.{Float, nan, inf, fin, binary64, of_bits, to_bits, fits, up, down}
use lib.Ieee.Fits.{down_pos, and_r}
use lib.Ieee.Scale.{finite}
use Rattle.ieee.specs.Values.{signed, fields_multiple, sign_of, multiple}
use Rattle.ieee.proofs.RoundingSigned.{signed_abs}
use Rattle.exact.specs.Whole.{sumℤ}
use Rattle.exact.specs.Units.{units, exponent_field, fraction_field, sign_bit}
use Rattle.exact.specs.Products.{dotted, term_bound, Terms}
use Rattle.words.specs.Words.{half, modulus, residue, reading, held}
use Rattle.words.proofs.Whole.{nat_abs_*ℤ, nat_abs_+ℤ, nat_abs__ℤ}
use Rattle.exact.proofs.Sums.{sumℤ_bound}
use Rattle.exact.proofs.Units.{units_value, units_not_finite}
use Rattle.words.proofs.Words.{Words}
use Rattle.words.proofs.Held.{reading_held, held_reading}

-- ---- one number

-- every finite f64 is below 2^2098 units
multiple_lt : (x : Float) → T (fits binary64 x) → multiple x < 2 ^ 2098
unfolding fits
multiple_lt nan f = pow_pos 2098
multiple_lt (inf s) f = pow_pos 2098
multiple_lt (fin s zero e) f =
    subst (λ (n : ℕ). n < 2 ^ 2098)
    (sym (ap (λ (n : ℕ). n / down e) (ap (λ (n : ℕ). n * 2 ^ 1074) (zero-mul (up e)) ∙ zero-mul (2 ^ 1074)) ∙ zero-div (down e))) (pow_pos 2098)
multiple_lt (fin s (suc m) e) f =
    let k : suc m * up e < 2 ^ 1024 * down e =
    ltb→lt (suc m * up e) (2 ^ 1024 * down e) (and_r (eqb (suc m % 2) 1 && ltb (suc m) (2 ^ 53) && leb (down e) (2 ^ 1074))
    (ltb (suc m * up e) (2 ^ 1024 * down e)) f) in
    (div-lt_iff_lt-mul (down_pos e)).1 (
    subst (λ (n : ℕ). suc m * up e * 2 ^ 1074 < n) (mul_right_comm (2 ^ 1024) (down e) (2 ^ 1074)) (mul-lt-mul_of_pos_right k (pow_pos 1074)))

pub units_lt : (x : Float) → T (fits binary64 x) → nat_abs (units x) < 2 ^ 2098
units_lt x f =
    subst (λ (n : ℕ). n < 2 ^ 2098) (sym (ap nat_abs (units_value x f) ∙ signed_abs (sign_of x) (multiple x))) (multiple_lt x f)

-- A bound that holds with no word on the format: the fields are short.
unfoldable pub unit_bound : ℕ
unit_bound = 2 ^ 2099

fields_le : (e f : ℕ) → e ≤ 2047 → f < 2 ^ 52 → fields_multiple e f ≤ unit_bound
unfolding unit_bound
fields_le zero f h l = le_trans (le_of_lt l) (pow_mono {i = 52} {j = 2099} (lit≤ tt))
fields_le (suc e) f h l =
    let a : 2 ^ 52 + f ≤ 2 ^ 53 = omega arith in
    let b : e ≤ 2046 = omega arith in
    mul-le-mul a (pow_mono b)

pub units_le : (x : Float) → nat_abs (units x) ≤ unit_bound
unfolding units
units_le x = go (finite x)
  where
    b : ℕ
    b = to_bits binary64 x

    n : ℕ
    n = fields_multiple (exponent_field b) (fraction_field b)

    short : n ≤ unit_bound
    short = fields_le (exponent_field b) (fraction_field b) (omega arith) (omega arith)

    go : (t : Bool) → nat_abs (cond t (signed (sign_bit b) n) (pos 0)) ≤ unit_bound
    go true = subst (λ (k : ℕ). k ≤ unit_bound) (sym (signed_abs (sign_bit b) n)) short
    go false = le_trans (omega arith) short

pub term : (x y : Float) → Terms 1 (units x *ℤ units y)
unfolding unit_bound term_bound
term x y =
    record {
      within =
          le_trans (le_of_eq (nat_abs_*ℤ (units x) (units y))) (le_trans (mul-le-mul (units_le x) (units_le y)) (le_of_eq (sym (one-mul (2 ^ 4198)))));
    }

pub terms_zero : Terms 0 (pos 0)
terms_zero = record { within = omega arith }

pub terms_add : {j k : ℕ} {y z : ℤ} → Terms j y → Terms k z → Terms (j + k) (y +ℤ z)
terms_add {j} {k} {y} {z} h g =
    record { within = le_trans (nat_abs_+ℤ y z) (le_trans (add-le-add h.within g.within) (le_of_eq (sym (add-mul j k term_bound)))) }

pub terms_sub : {j k : ℕ} {y z : ℤ} → Terms j y → Terms k z → Terms (j + k) (y -ℤ z)
terms_sub {j} {k} {y} {z} h g =
    record { within = le_trans (nat_abs__ℤ y z) (le_trans (add-le-add h.within g.within) (le_of_eq (sym (add-mul j k term_bound)))) }

pub terms_abs : {k : ℕ} {z : ℤ} → Terms k z → Terms k (pos (nat_abs z))
terms_abs h = record { within = h.within }

-- the sum of k products
pub terms_sum : (k : ℕ) (x y : ℕ → Float) → Terms k (sumℤ k (λ i. units (x i) *ℤ units (y i)))
terms_sum k x y =
    record {
      within =
          sumℤ_bound k (λ i. units (x i) *ℤ units (y i)) term_bound (λ i l. subst (λ (n : ℕ). nat_abs (units (x i) *ℤ units (y i)) ≤ n) (one-mul term_bound)
          (term (x i) (y i)).within);
    }

-- ---- nothing wraps

room : 2 ^ 80 * term_bound < half
unfolding term_bound half
room = lit< tt

pub terms_fit : {k : ℕ} {z : ℤ} → k ≤ 2 ^ 80 → Terms k z → nat_abs z < half
terms_fit {k} {z} h t = lt_of_le_of_lt t.within (lt_of_le_of_lt (mul-le-mul_right term_bound h) room)

-- what is read of the words of up to 2^80 terms is their exact sum
pub exact : {k : ℕ} {z : ℤ} → k ≤ 2 ^ 80 → Terms k z → reading (held z) ≡ z
exact {z} h t = reading_held z (terms_fit h t)

pub exact_sum_lem : (k : ℕ) (x y : ℕ → Float) → k ≤ 2 ^ 80
    → reading (held (sumℤ k (λ i. units (x i) *ℤ units (y i)))) ≡ sumℤ k (λ i. units (x i) *ℤ units (y i))
exact_sum_lem k x y h = exact h (terms_sum k x y)

-- and so of a dot product
pub terms_dotted : (z f : List Float) (column width : ℕ) → Terms (length z) (dotted z f column width)
unfolding dotted
terms_dotted z f column width = terms_sum (length z) (λ i. get_or z i nan) (λ i. get_or f (column + i * width) nan)

pub exact_dotted : (z f : List Float) (column width : ℕ) → length z ≤ 2 ^ 80 → reading (held (dotted z f column width)) ≡ dotted z f column width
exact_dotted z f column width h = exact h (terms_dotted z f column width)

-- so the order that is read is the order of the sums
pub exact_order : {j k : ℕ} {y z : ℤ} → j ≤ 2 ^ 80 → Terms j y → k ≤ 2 ^ 80 → Terms k z → le_z (reading (held y)) (reading (held z)) ≡ le_z y z
exact_order h s g t = ap₂ le_z (exact h s) (exact g t)

-- and the magnitude the magnitude
pub exact_magnitude : {k : ℕ} {z : ℤ} → k ≤ 2 ^ 80 → Terms k z → reading (held (pos (nat_abs (reading (held z))))) ≡ pos (nat_abs z)
exact_magnitude {z} h t = ap (λ (y : ℤ). reading (held (pos (nat_abs y)))) (exact h t) ∙ exact h (terms_abs t)

-- ---- an operand that is not finite leaves the words as they are
module _ (ws : List ℕ) (w : Words ws) (l : length ws ≡ 67) (x y : Float) where
  nothing : units x *ℤ units y ≡ pos 0 → held (reading ws +ℤ units x *ℤ units y) ≡ ws
  nothing e = ap (λ (z : ℤ). held (reading ws +ℤ z)) e ∙ ap held (+ℤ_idr (reading ws)) ∙ held_reading ws w l

  pub left_not_finite : finite x ≡ false → held (reading ws +ℤ units x *ℤ units y) ≡ ws
  left_not_finite h = nothing (ap (λ (z : ℤ). z *ℤ units y) (units_not_finite x h) ∙ zero-*ℤ (units y))

  pub right_not_finite : finite y ≡ false → held (reading ws +ℤ units x *ℤ units y) ≡ ws
  right_not_finite h = nothing (ap (λ (z : ℤ). units x *ℤ z) (units_not_finite y h) ∙ *ℤ-zero (units x))

-- the definitions compute: the largest product twice less one unit, and back
computes : reading (held (units (of_bits binary64 0x7fef_ffff_ffff_ffff) *ℤ units (of_bits binary64 0xffef_ffff_ffff_ffff) *ℤ pos 2 -ℤ pos 1))
    ≡ neg_ℤ (pos ((2 ^ 53 - 1) ^ 2 * 2 ^ 4091 + 1))
unfolding units of_bits to_bits held residue modulus half reading
computes = refl
