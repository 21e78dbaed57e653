-- The greatest whole number not above a finite f64: the whole part above zero, and below zero the whole part or 1 more in size.
use Rattle.std.proofs.Common.{◌≡◌, ℕ, zero, suc, ◌+◌, ◌*◌, ◌/◌, ◌%◌, ◌^◌, ◌<◌, Bool, true, false, not, T, leb, ℤ, pos, sym, refl, ap, ◌∙◌, subst, true≢false, zero-lt-suc, mul-pos, zero-mul, mul-one, arith, lit<, ltb→lt, lt→ltb, T_not, pow_pos, ne_eqb, leb-false}
use borrow.Author.Tests.{lt-leb}
use lib.Ieee.{Float, nan, inf, fin, binary64, fits, is_nan, nan_bits, of_bits, to_bits, of_fields, odd, round, lt, up, down}
use lib.Ieee.Bits.{of_bits-fits}
use lib.Ieee.Exact.{HasValue, odd_sign}
use lib.Ieee.Fits.{up_pos, down_pos}
use lib.Ieee.Nearest.{div_same}
use lib.Ieee.Scale.{finite, round_same}
use Rattle.ieee.specs.Floats.{zero_float, floor_of}
use Rattle.ieee.specs.Values.{multiple, sign_of, fields_multiple}
use Rattle.ieee.specs.Whole.{WholeBits}
use Rattle.ieee.proofs.Fields.{value_finite, fields_value, multiple_of_bits, sign_of_bits}
use Rattle.ieee.proofs.Own.{own_multiple, round_own}
use Rattle.ieee.proofs.Zero.{zero_exponent, round_zero}
use Rattle.ieee.proofs.RootCases.{above_passes}
use Rattle.ieee.proofs.RootCall.{field_below}
use Rattle.ieee.proofs.WholeBits.{whole_pattern}

pub finite_number : (x : Float) → T (finite x) → T (not (is_nan x))
unfolding is_nan
finite_number nan h = h
finite_number (inf s) h = tt
finite_number (fin s m e) h = tt

-- ---- what the tests of `floor` say of a finite number
pub above_sign : (x : Float) → T (finite x) → T (lt zero_float x) → sign_of x ≡ false
unfolding lt of_bits
above_sign nan h t = absurd h
above_sign (inf s) h t = absurd h
above_sign (fin true m e) h t = absurd t
above_sign (fin false m e) h t = refl

pub below_sign : (x : Float) → T (finite x) → T (lt x zero_float) → sign_of x ≡ true
unfolding lt of_bits
below_sign nan h t = absurd h
below_sign (inf s) h t = absurd h
below_sign (fin true m e) h t = refl
below_sign (fin false m e) h t = let l = ltb→lt (m * up e * 1) (0 * 1 * down e) t in let z = zero-mul (down e) in absurd (omega arith)

below_passes : (m : ℕ) (e : ℤ) → T (lt (fin true (suc m) e) zero_float)
unfolding lt of_bits
below_passes m e = let p : 0 < suc m * up e = mul-pos (zero-lt-suc m) (up_pos e) in lt→ltb 0 (suc m * up e * 1 + 0 * 1 * down e) (omega arith)

floor_of_zero : (s : Bool) → fin s 0 (pos 0) ≡ floor_of (fin s 0 (pos 0))
unfolding floor_of
floor_of_zero true = sym (round_zero true 1 (lit< tt))
floor_of_zero false = sym (round_zero false 1 (lit< tt))

pub floor_zero : (x : Float) → T (fits binary64 x) → T (finite x) → T (not (lt zero_float x)) → T (not (lt x zero_float)) → x ≡ floor_of x
floor_zero nan f h k l = absurd h
floor_zero (inf s) f h k l = absurd h
floor_zero (fin false (suc m) e) f h k l = absurd (T_not (lt zero_float (fin false (suc m) e)) k (above_passes m e))
floor_zero (fin true (suc m) e) f h k l = absurd (T_not (lt (fin true (suc m) e) zero_float) l (below_passes m e))
floor_zero (fin s zero e) f h k l = subst (λ (j : ℤ). fin s 0 j ≡ floor_of (fin s 0 j)) (sym (zero_exponent s e f)) (floor_of_zero s)

pub floor_elsewhere : (x : Float) → T (not (finite x)) → x ≡ floor_of x
unfolding floor_of
floor_elsewhere nan h = refl
floor_elsewhere (inf s) h = refl
floor_elsewhere (fin s m e) h = absurd h

-- ---- the pattern of a finite number with a clear sign
pub plain_bits : (x : Float) → T (fits binary64 x) → T (finite x) → sign_of x ≡ false → to_bits binary64 x < 2047 * 2 ^ 52
plain_bits x f h s =
    let b = to_bits binary64 x in
    let low : b < 2 ^ 63 = leb-false (2 ^ 63) b (sym (sign_of_bits x f h) ∙ s) in
    let k = field_below x f h in
    omega arith

pub plain_number : (b : ℕ) → b < 2047 * 2 ^ 52 → T (not (nan_bits binary64 b))
unfolding nan_bits
plain_number b h = rw (ne_eqb (b % 2 ^ 63 / 2 ^ 52) 2047 (λ (y : b % 2 ^ 63 / 2 ^ 52 ≡ 2047). omega arith)) tt

fields_finite : (e t : ℕ) → e < 2047 → T (finite (of_fields binary64 false e t))
unfolding of_fields
fields_finite zero t h = value_finite (odd 53 false t 0 1074) false (t * 2 ^ 0) (2 ^ 1074) (odd_sign 53 false t 0 1074)
fields_finite (suc e) t h =
    rw (ne_eqb (suc e) 2047 (λ (x : suc e ≡ 2047). let y : suc e < 2047 = h in omega arith))
    (value_finite (odd 53 false (2 ^ 52 + t) e 1074) false ((2 ^ 52 + t) * 2 ^ e) (2 ^ 1074) (odd_sign 53 false (2 ^ 52 + t) e 1074))

plain_value : (b : ℕ) → b < 2047 * 2 ^ 52 → HasValue (of_bits binary64 b) false (fields_multiple (b / 2 ^ 52) (b % 2 ^ 52)) (2 ^ 1074)
unfolding of_bits
plain_value b h =
    let sign : leb (2 ^ 63) b ≡ false = lt-leb (2 ^ 63) b (omega arith) in
    let field : b % 2 ^ 63 / 2 ^ 52 ≡ b / 2 ^ 52 = omega arith in
    rw (sign, field) (fields_value false (b / 2 ^ 52) (b % 2 ^ 52) (fields_finite (b / 2 ^ 52) (b % 2 ^ 52) (omega arith)))

-- ---- the whole part
pub record WholePart (x r : Float) : Type 0 where
  pub format : T (fits binary64 r)
  pub value : HasValue r false (multiple x / 2 ^ 1074 * 2 ^ 1074) (2 ^ 1074)

pub whole_of_bits : (x : Float) (r : ℕ) → T (fits binary64 x) → T (finite x) → sign_of x ≡ false → WholeBits (to_bits binary64 x) r
    → WholePart x (of_bits binary64 r)
whole_of_bits x r f h s d =
    let b = to_bits binary64 x in
    let p = plain_bits x f h s in
    let w = d.within in
    let field : b % 2 ^ 63 / 2 ^ 52 ≡ b / 2 ^ 52 = omega arith in
    let M : multiple x ≡ fields_multiple (b / 2 ^ 52) (b % 2 ^ 52) = multiple_of_bits x f h ∙ ap (λ (n : ℕ). fields_multiple n (b % 2 ^ 52)) field in
    let is : fields_multiple (r / 2 ^ 52) (r % 2 ^ 52) ≡ multiple x / 2 ^ 1074 * 2 ^ 1074 = d.value ∙ ap (λ (n : ℕ). n / 2 ^ 1074 * 2 ^ 1074) (sym M) in
    record { format = of_bits-fits binary64 r; value = subst (λ (n : ℕ). HasValue (of_bits binary64 r) false n (2 ^ 1074)) is (plain_value r (omega arith)) }

-- how many ones a magnitude has
pub ones_of : (s : Bool) (m : ℕ) (e : ℤ) → T (fits binary64 (fin s m e)) → multiple (fin s m e) / 2 ^ 1074 ≡ m * up e / down e
ones_of s m e f = div_same (multiple (fin s m e)) (2 ^ 1074) (m * up e) (down e) (pow_pos 1074) (down_pos e) (sym (own_multiple (fin s m e) f tt).1)

round_ones : (s : Bool) (K : ℕ) → round binary64 s (K * 2 ^ 1074) (2 ^ 1074) ≡ round binary64 s K 1
round_ones s K = round_same binary64 s (K * 2 ^ 1074) (2 ^ 1074) K 1 (pow_pos 1074) (lit< tt) (mul-one (K * 2 ^ 1074))

pub floor_plain : (x r : Float) → T (fits binary64 x) → T (finite x) → sign_of x ≡ false → WholePart x r → r ≡ floor_of x
unfolding floor_of
floor_plain nan r f h s w = absurd h
floor_plain (inf t) r f h s w = absurd h
floor_plain (fin true m e) r f h s w = absurd (true≢false s)
floor_plain (fin false m e) r f h s w =
    let K = multiple (fin false m e) / 2 ^ 1074 in
    sym (round_own r false (K * 2 ^ 1074) (2 ^ 1074) w.format (pow_pos 1074) w.value)
    ∙ round_ones false K
    ∙ ap (λ (n : ℕ). round binary64 false n 1) (ones_of false m e f)

-- so the whole part is exact
pub floor_whole : (x : Float) → T (fits binary64 x) → T (finite x) → sign_of x ≡ false → WholePart x (floor_of x)
floor_whole x f h s =
    let p = whole_pattern (to_bits binary64 x) in
    let w = whole_of_bits x p.0 f h s p.1 in
    subst (λ (r : Float). WholePart x r) (floor_plain x (of_bits binary64 p.0) f h s w) w
