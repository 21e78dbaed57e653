-- A finite f64 by its own value: what rounding gives at that value is the f64 itself.
use Rattle.std.proofs.Common.{◌≡◌, ℕ, zero, suc, ◌+◌, ◌*◌, ◌/◌, ◌%◌, ◌^◌, ◌<◌, Bool, T, leb, sym, ap, ◌∙◌, subst, lt_of_lt_of_le, mul_right_comm, arith, pow_pos, pow_mono, shl_lt}
use native.Mathlib.Nat.{eq_of_mul-eq-mul_right}
use lib.Ieee.{Float, nan, inf, fin, binary64, fits, to_bits, round, down, up}
use lib.Ieee.Exact.{HasValue, round_exact}
use lib.Ieee.Fits.{down_pos, round-fits}
use lib.Ieee.Scale.{finite, round_same}
use Rattle.ieee.specs.Values.{multiple, sign_of, fields_multiple}
use Rattle.ieee.proofs.Fields.{value_multiple, value_sign, value_finite, bits_value, multiple_of_bits, sign_of_bits, same_value}
use Rattle.ieee.proofs.RootCall.{field_below}
use Rattle.ieee.proofs.RoundingNearest.{point}

-- ---- a finite f64 is below 2^1024
fields_under : (e t : ℕ) → e < 2047 → t < 2 ^ 52 → fields_multiple e t < 2 ^ 2098
fields_under zero t a b = lt_of_lt_of_le b (pow_mono {i = 52} {j = 2098} (omega arith))
fields_under (suc e) t a b = lt_of_lt_of_le (shl_lt 53 e (omega arith)) (pow_mono {i = 53 + e} {j = 2098} (omega arith))

pub multiple_under : (x : Float) → T (fits binary64 x) → T (finite x) → multiple x < 2 ^ 2098
multiple_under x f h =
    let b = to_bits binary64 x in
    subst (λ (n : ℕ). n < 2 ^ 2098) (sym (multiple_of_bits x f h)) (fields_under (b % 2 ^ 63 / 2 ^ 52) (b % 2 ^ 52) (field_below x f h) (omega arith))

-- ---- its multiple is its value
pub own_multiple : (x : Float) → T (fits binary64 x) → T (finite x) → HasValue x (sign_of x) (multiple x) (2 ^ 1074)
own_multiple x f h =
    let b = to_bits binary64 x in
    subst (λ (s : Bool). HasValue x s (multiple x) (2 ^ 1074)) (sym (sign_of_bits x f h))
    (subst (λ (n : ℕ). HasValue x (leb (2 ^ 63) b) n (2 ^ 1074)) (sym (multiple_of_bits x f h)) (bits_value x f h))

-- two ways to write one value: x / U and a / c
cross : (v d a c M U : ℕ) → 0 < d → v * U ≡ M * d → v * c ≡ a * d → a * U ≡ M * c
cross v d a c M U D h k =
    eq_of_mul-eq-mul_right d D (a * U) (M * c) (mul_right_comm a U d ∙ ap (λ (n : ℕ). n * U) (sym k) ∙ mul_right_comm v c U ∙ ap (λ (n : ℕ). n * c) h
    ∙ mul_right_comm M d c)

pub same_fraction : (x : Float) (s t : Bool) (a c M U : ℕ) → HasValue x s M U → HasValue x t a c → a * U ≡ M * c
same_fraction nan s t a c M U h k = absurd h
same_fraction (inf r) s t a c M U h k = absurd h
same_fraction (fin r m e) s t a c M U h k = cross (m * up e) (down e) a c M U (down_pos e) h.1 k.1

-- ---- the rounding of its value is itself
round_multiple : (x : Float) → T (fits binary64 x) → T (finite x) → round binary64 (sign_of x) (multiple x) (2 ^ 1074) ≡ x
round_multiple x f h =
    let d = point x f h in
    let s = sign_of x in
    let M = multiple x in
    let r = round binary64 s M (2 ^ 1074) in
    let v : HasValue r s M (2 ^ 1074) =
    round_exact binary64 s M (2 ^ 1074) d.0 d.1 (pow_pos 1074) d.2 (subst (λ (n : ℕ). n < 2 ^ 2098) d.3 (multiple_under x f h))
    (ap (λ (n : ℕ). n * 2 ^ 1074) d.3) in
    same_value r x (round-fits binary64 s M (2 ^ 1074)) f (value_finite r s M (2 ^ 1074) v) h (value_sign r s M (2 ^ 1074) v) (value_multiple r s M v)

pub round_own : (x : Float) (s : Bool) (a c : ℕ) → T (fits binary64 x) → 0 < c → HasValue x s a c → round binary64 s a c ≡ x
round_own x s a c f C v =
    let h = value_finite x s a c v in
    round_same binary64 s a c (multiple x) (2 ^ 1074) C (pow_pos 1074) (same_fraction x (sign_of x) s a c (multiple x) (2 ^ 1074) (own_multiple x f h) v)
    ∙ ap (λ (t : Bool). round binary64 t (multiple x) (2 ^ 1074)) (sym (value_sign x s a c v))
    ∙ round_multiple x f h
