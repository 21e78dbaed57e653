-- A finite f64 as a whole number of 2^-1074, by its bits and by the kit's account of its value; and the bound on it.
use Rattle.std.proofs.Common.{◌≡◌, ℕ, zero, suc, ◌+◌, ◌-◌, ◌*◌, ◌/◌, ◌^◌, ◌≤◌, Bool, true, false, not, T, ℤ, pos, neg_ℤ, nat_abs, sym, refl, ap, ◌∙◌, subst, ap₂, zero-mul, mul-one, arith, nltb→le}
use native.Mathlib.Nat.{zero-div}
use lib.Ieee.{Float, nan, inf, fin, binary64, to_bits, fits, is_nan, of_bits, neg, lt, up, down}
use lib.Ieee.Scale.{finite}
use Rattle.ieee.specs.Values.{signed, fields_multiple, multiple, value_of}
use Rattle.ieee.specs.Floats.{zero_float, one_float, abs_of}
use Rattle.ieee.proofs.RoundingSum.{neg_value}
use Rattle.ieee.proofs.Fields.{multiple_of_bits, sign_of_bits}
use Rattle.words.proofs.Whole.{nat_abs_negℤ}
use Rattle.exact.specs.Units.{units, exponent_field, fraction_field, sign_bit}

pub units_finite : (x : Float) → finite x ≡ true
    → units x ≡ signed (sign_bit (to_bits binary64 x)) (fields_multiple (exponent_field (to_bits binary64 x)) (fraction_field (to_bits binary64 x)))
unfolding units
units_finite x h = rw h

pub units_not_finite : (x : Float) → finite x ≡ false → units x ≡ pos 0
unfolding units
units_not_finite x h = rw h

pub finite_not_nan : (x : Float) → finite x ≡ true → T (not (is_nan x))
unfolding is_nan
finite_not_nan nan h = subst T (sym h) tt
finite_not_nan (inf s) h = tt
finite_not_nan (fin s m e) h = tt

-- ---- the fields, as a significand and a shift
pub field_zero : (e f : ℕ) → e ≡ 0 → fields_multiple e f ≡ f * 1
field_zero e f h = ap (λ (n : ℕ). fields_multiple n f) h ∙ sym (mul-one f)

pub field_more : (e f : ℕ) → (e ≡ 0 → ⊥) → fields_multiple e f ≡ (2 ^ 52 + f) * 2 ^ (e - 1)
field_more zero f h = absurd (h refl)
field_more (suc e) f h = let l : suc e - 1 ≡ e = omega arith in rw l

-- ---- "a whole multiple of 2^-1074": the kit's value
pub units_value : (x : Float) → T (fits binary64 x) → units x ≡ value_of x
unfolding units
units_value nan f = refl
units_value (inf true) f = refl
units_value (inf false) f = refl
units_value (fin s m e) f = ap₂ (λ (b : Bool) (n : ℕ). signed b n) (sym (sign_of_bits (fin s m e) f tt)) (sym (multiple_of_bits (fin s m e) f tt))

-- ---- some numbers
pub units_one : units one_float ≡ pos (2 ^ 1074)
unfolding units of_bits to_bits
units_one = refl

pub units_smallest : units (of_bits binary64 1) ≡ pos 1
unfolding units of_bits to_bits
units_smallest = refl

pub units_largest_below_zero : units (of_bits binary64 0xffef_ffff_ffff_ffff) ≡ neg_ℤ (pos ((2 ^ 53 - 1) * 2 ^ 2045))
unfolding units of_bits to_bits
units_largest_below_zero = refl

-- ---- minus an f64
fits_neg : (x : Float) → T (fits binary64 x) → T (fits binary64 (neg x))
unfolding fits neg
fits_neg nan f = tt
fits_neg (inf s) f = tt
fits_neg (fin s m e) f = f

pub units_neg : (x : Float) → T (fits binary64 x) → units (neg x) ≡ neg_ℤ (units x)
units_neg x f = units_value (neg x) (fits_neg x f) ∙ neg_value x ∙ ap neg_ℤ (sym (units_value x f))

-- ---- the magnitude of an f64
fits_abs : (x : Float) → T (fits binary64 x) → T (fits binary64 (abs_of x))
unfolding fits
fits_abs nan f = tt
fits_abs (inf s) f = tt
fits_abs (fin s zero e) f = f
fits_abs (fin s (suc m) e) f = f

value_abs : (x : Float) → value_of (abs_of x) ≡ pos (nat_abs (value_of x))
value_abs nan = refl
value_abs (inf true) = refl
value_abs (inf false) = refl
value_abs (fin true m e) = sym (ap pos (nat_abs_negℤ (pos (multiple (fin true m e)))))
value_abs (fin false m e) = refl

pub units_abs : (x : Float) → T (fits binary64 x) → units (abs_of x) ≡ pos (nat_abs (units x))
units_abs x f = units_value (abs_of x) (fits_abs x f) ∙ value_abs x ∙ ap (λ (z : ℤ). pos (nat_abs z)) (sym (units_value x f))

-- an f64 that is not below 0.0 is its own magnitude
value_not_below : (x : Float) → lt x zero_float ≡ false → value_of x ≡ pos (nat_abs (value_of x))
unfolding lt of_bits
value_not_below nan h = refl
value_not_below (inf true) h = refl
value_not_below (inf false) h = refl
value_not_below (fin false m e) h = refl
value_not_below (fin true m e) h =
    let l : m * up e * 1 + 0 * down e ≤ 0 = nltb→le 0 (m * up e * 1 + 0 * down e) (subst (λ (b : Bool). T (not b)) (sym h) tt) in
    let z : m * up e ≡ 0 = omega arith in
    let v : multiple (fin true m e) ≡ 0 = ap (λ (n : ℕ). n * 2 ^ 1074 / down e) z ∙ ap (λ (n : ℕ). n / down e) (zero-mul (2 ^ 1074)) ∙ zero-div (down e) in
    ap (λ (n : ℕ). neg_ℤ (pos n)) v ∙ sym (ap (λ (n : ℕ). pos (nat_abs (neg_ℤ (pos n)))) v)

pub units_not_below : (x : Float) → T (fits binary64 x) → lt x zero_float ≡ false → units x ≡ pos (nat_abs (units x))
units_not_below x f h = units_value x f ∙ value_not_below x h ∙ ap (λ (z : ℤ). pos (nat_abs z)) (sym (units_value x f))
