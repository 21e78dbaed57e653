-- A finite f64 by its bit fields: the multiple of 2^-1074 that it is, its sign, and that these two tell it from every other f64.
use Rattle.std.proofs.Common.{◌≡◌, ℕ, zero, suc, ◌+◌, ◌*◌, ◌/◌, ◌%◌, ◌^◌, ◌<◌, Bool, true, false, cond, T, eqb, leb, ℤ, sym, refl, ap, ◌∙◌, subst, mul-one, mul-div_cancel, arith, ne_eqb}
use mathlib.Core.Bool.{false≢true}
use lib.Ieee.{Float, nan, inf, fin, binary64, fits, down, of_bits, to_bits, of_fields, odd, is_nan}
use lib.Ieee.Fits.{down_pos}
use lib.Ieee.Bits.{of_bits-to_bits}
use lib.Ieee.Exact.{HasValue, odd_sign}
use lib.Ieee.Scale.{finite}
use Rattle.ieee.specs.Values.{multiple, sign_of, fields_multiple}

-- ---- a number that is a multiples of 2^-1074 in size
pub value_multiple : (x : Float) (s : Bool) (a : ℕ) → HasValue x s a (2 ^ 1074) → multiple x ≡ a
value_multiple nan s a h = absurd h
value_multiple (inf t) s a h = absurd h
value_multiple (fin t m e) s a h = ap (λ (n : ℕ). n / down e) h.1 ∙ mul-div_cancel a (down_pos e)

pub value_sign : (x : Float) (s : Bool) (a c : ℕ) → HasValue x s a c → sign_of x ≡ s
value_sign nan s a c h = absurd h
value_sign (inf t) s a c h = absurd h
value_sign (fin t m e) s a c h = h.0

pub value_finite : (x : Float) (s : Bool) (a c : ℕ) → HasValue x s a c → T (finite x)
value_finite nan s a c h = absurd h
value_finite (inf t) s a c h = absurd h
value_finite (fin t m e) s a c h = tt

-- ---- the fields
pub fields_value : (s : Bool) (e t : ℕ) → T (finite (of_fields binary64 s e t)) → HasValue (of_fields binary64 s e t) s (fields_multiple e t) (2 ^ 1074)
unfolding of_fields
fields_value s zero t h = subst (λ (n : ℕ). HasValue (odd 53 s t 0 1074) s n (2 ^ 1074)) (mul-one t) (odd_sign 53 s t 0 1074)
fields_value s (suc e) t h = go (eqb (suc e) 2047) (eqb t 0) h
  where
    go : (a b : Bool) → T (finite (cond a (cond b (inf s) nan) (odd 53 s (2 ^ 52 + t) e 1074)))
        → HasValue (cond a (cond b (inf s) nan) (odd 53 s (2 ^ 52 + t) e 1074)) s ((2 ^ 52 + t) * 2 ^ e) (2 ^ 1074)
    go true true k = absurd k
    go true false k = absurd k
    go false b k = odd_sign 53 s (2 ^ 52 + t) e 1074

-- without a sign, and below infinity's exponent
pub field_finite : (e t : ℕ) → e < 2047 → T (finite (of_fields binary64 false e t))
unfolding of_fields
field_finite zero t h = value_finite (odd 53 false t 0 1074) false (t * 2 ^ 0) (2 ^ 1074) (odd_sign 53 false t 0 1074)
field_finite (suc e) t h =
    rw (ne_eqb (suc e) 2047 (λ (x : suc e ≡ 2047). omega arith))
    (value_finite (odd 53 false (2 ^ 52 + t) e 1074) false ((2 ^ 52 + t) * 2 ^ e) (2 ^ 1074) (odd_sign 53 false (2 ^ 52 + t) e 1074))

-- the fields of the pattern of a finite f64
pub bits_value : (x : Float) → T (fits binary64 x) → T (finite x)
    → HasValue x (leb (2 ^ 63) (to_bits binary64 x)) (fields_multiple (to_bits binary64 x % 2 ^ 63 / 2 ^ 52) (to_bits binary64 x % 2 ^ 52)) (2 ^ 1074)
unfolding of_bits
bits_value x f h =
    let b = to_bits binary64 x in
    let is : of_fields binary64 (leb (2 ^ 63) b) (b % 2 ^ 63 / 2 ^ 52) (b % 2 ^ 52) ≡ x = of_bits-to_bits binary64 x f in
    subst (λ (y : Float). HasValue y (leb (2 ^ 63) b) (fields_multiple (b % 2 ^ 63 / 2 ^ 52) (b % 2 ^ 52)) (2 ^ 1074)) is
    (fields_value (leb (2 ^ 63) b) (b % 2 ^ 63 / 2 ^ 52) (b % 2 ^ 52) (subst (λ (y : Float). T (finite y)) (sym is) h))

pub multiple_of_bits : (x : Float) → T (fits binary64 x) → T (finite x)
    → multiple x ≡ fields_multiple (to_bits binary64 x % 2 ^ 63 / 2 ^ 52) (to_bits binary64 x % 2 ^ 52)
multiple_of_bits x f h =
    let b = to_bits binary64 x in
    value_multiple x (leb (2 ^ 63) b) (fields_multiple (b % 2 ^ 63 / 2 ^ 52) (b % 2 ^ 52)) (bits_value x f h)

pub sign_of_bits : (x : Float) → T (fits binary64 x) → T (finite x) → sign_of x ≡ leb (2 ^ 63) (to_bits binary64 x)
sign_of_bits x f h =
    let b = to_bits binary64 x in
    value_sign x (leb (2 ^ 63) b) (fields_multiple (b % 2 ^ 63 / 2 ^ 52) (b % 2 ^ 52)) (2 ^ 1074) (bits_value x f h)

-- ---- two finite f64 with the same sign and the same multiple are one
pattern_same : (s : Bool) (m n : ℕ) (d e : ℤ) → multiple (fin s m d) ≡ multiple (fin s n e) → to_bits binary64 (fin s m d) ≡ to_bits binary64 (fin s n e)
unfolding to_bits
pattern_same s m n d e h = rw h

pub same_value : (x y : Float) → T (fits binary64 x) → T (fits binary64 y) → T (finite x) → T (finite y) → sign_of x ≡ sign_of y → multiple x ≡ multiple y → x ≡ y
same_value nan y f g h k s v = absurd h
same_value (inf a) y f g h k s v = absurd h
same_value (fin a m d) nan f g h k s v = absurd k
same_value (fin a m d) (inf b) f g h k s v = absurd k
same_value (fin a m d) (fin b n e) f g h k s v =
    sym (of_bits-to_bits binary64 (fin a m d) f)
    ∙ ap (λ (p : ℕ). of_bits binary64 p) (pattern_same a m n d e v ∙ ap (λ (t : Bool). to_bits binary64 (fin t n e)) s)
    ∙ of_bits-to_bits binary64 (fin b n e) g

-- ---- the one NaN
pub is_nan_lem : (x : Float) → is_nan x ≡ true → x ≡ nan
unfolding is_nan
is_nan_lem nan h = refl
is_nan_lem (inf s) h = absurd (false≢true h)
is_nan_lem (fin s m e) h = absurd (false≢true h)
