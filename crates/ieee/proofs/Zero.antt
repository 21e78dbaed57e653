-- A float beside the constant 0.0, and what the language tells of every f64: that it fits its format.
use Rattle.std.proofs.Common.{◌≡◌, ℕ, zero, suc, ◌+◌, ◌-◌, ◌*◌, ◌^◌, ◌<◌, ◌≤◌, Bool, true, false, not, ◌||◌, T, eqb, ltb, ℤ, pos, negsuc, sym, refl, ap, ◌∙◌, subst, le_refl, zero-lt-suc, mul-pos, one-mul, zero-mul, mul-one, arith, lit<, eqb→eq, ltb→lt, nltb→le, T_not, pow_mono}
use mathlib.Core.Bool.{beq}
use lib.Arith.{le→nltb}
use lib.Ieee.{Float, nan, inf, fin, lt, eq, neg, of_bits, binary64, fits, up, down, level, round, sub}
use lib.Ieee.Fits.{up_pos, down_pos, and_l}
use lib.Ieee.Bits.{is_false}
use lib.Ieee.Scale.{round_same}
use Rattle.ieee.specs.Floats.{zero_float, abs_of}

-- a test that came out true, as the logic's tests say it
pub holds : (b : Bool) → b ≡ true → T b
holds b h = subst (λ (x : Bool). T x) (sym h) tt

-- and one that came out false
pub fails : (b : Bool) → b ≡ false → T (not b)
fails b h = subst (λ (x : Bool). T (not x)) (sym h) tt

pub zero_is : zero_float ≡ fin false 0 (pos 0)
unfolding of_bits
zero_is = refl

-- 2 to a power above 0 is not 1
even : (k : ℕ) → 2 ^ suc k ≡ 1 → ⊥
even k h = let p : 2 ≤ 2 ^ suc k = pow_mono {i = 1} {j = suc k} (zero-lt-suc k) in omega arith

-- a zero that fits is written in one way
pub zero_exponent : (s : Bool) (e : ℤ) → T (fits binary64 (fin s 0 e)) → e ≡ pos 0
unfolding fits
zero_exponent s (pos zero) h = refl
zero_exponent s (pos (suc k)) h = absurd (even k (sym (mul-one (2 ^ suc k)) ∙ eqb→eq (2 ^ suc k * 1) 1 h))
zero_exponent s (negsuc k) h = absurd (even k (sym (one-mul (2 ^ suc k)) ∙ eqb→eq (1 * 2 ^ suc k) 1 h))

-- a magnitude m * up e that is 0 has m = 0
zero_digits : (m : ℕ) (e : ℤ) → m * up e * 1 ≡ 0 → m ≡ 0
zero_digits zero e h = refl
zero_digits (suc m) e h =
    let p : 0 < suc m * up e = mul-pos (zero-lt-suc m) (up_pos e) in let q : suc m * up e ≡ 0 = sym (mul-one (suc m * up e)) ∙ h in absurd (omega arith)

pub magnitude_zero : (s : Bool) (m : ℕ) (e : ℤ) → T (eq (fin s m e) zero_float) → m ≡ 0
unfolding eq of_bits
magnitude_zero s m e h =
    zero_digits m e (eqb→eq (m * up e * 1) (0 * 1 * down e) (and_l (eqb (m * up e * 1) (0 * 1 * down e)) (beq s false || eqb (m * up e * 1) 0) h)
    ∙ zero-mul (down e))

pub eq_zero : (x : Float) → T (fits binary64 x) → T (eq x zero_float) → abs_of x ≡ fin false 0 (pos 0)
unfolding eq of_bits
eq_zero nan f h = absurd h
eq_zero (inf s) f h = absurd h
eq_zero (fin s m e) f h =
    let z : m ≡ 0 = magnitude_zero s m e h in
    let y : e ≡ pos 0 = zero_exponent s e (subst (λ (n : ℕ). T (fits binary64 (fin s n e))) z f) in
    ap (λ (n : ℕ). fin false n e) z ∙ ap (λ (k : ℤ). fin false 0 k) y

-- no float with a clear sign is below zero
pub negative : (x : Float) → T (lt x zero_float) → neg x ≡ abs_of x
unfolding lt neg of_bits
negative nan h = refl
negative (inf true) h = refl
negative (inf false) h = absurd h
negative (fin true m e) h = refl
negative (fin false m e) h =
    let l : m * up e * 1 < 0 * 1 * down e = ltb→lt (m * up e * 1) (0 * 1 * down e) h in let z : 0 * 1 * down e ≡ 0 = zero-mul (down e) in absurd (omega arith)

-- a sign that is set on a number that is neither below zero nor zero: there is none
no_such : (m : ℕ) (e : ℤ) → T (not (lt (fin true m e) zero_float)) → T (not (eq (fin true m e) zero_float)) → ⊥
unfolding eq of_bits lt
no_such m e h g =
    let b0 : 0 * 1 * down e ≡ 0 = zero-mul (down e) in
    let le : m * up e * 1 + 0 * 1 * down e ≤ 0 = nltb→le 0 (m * up e * 1 + 0 * 1 * down e) h in
    let a0 : m * up e * 1 ≡ 0 = omega arith in
    T_not (level true (m * up e * 1) false (0 * 1 * down e)) g
    (subst (λ (n : ℕ). T (level true n false (0 * 1 * down e))) (sym a0) (subst (λ (n : ℕ). T (level true 0 false n)) (sym b0) tt))

pub not_below_zero_lem : (x : Float) → T (not (lt x zero_float)) → T (not (eq x zero_float)) → abs_of x ≡ x
unfolding lt of_bits
not_below_zero_lem nan h g = refl
not_below_zero_lem (inf false) h g = refl
not_below_zero_lem (inf true) h g = absurd h
not_below_zero_lem (fin false m e) h g = refl
not_below_zero_lem (fin true m e) h g = absurd (no_such m e h g)

-- a number is not below itself, and less itself is 0
ltb_self : (a : ℕ) → ltb a a ≡ false
ltb_self a = is_false (ltb a a) (le→nltb a a (le_refl a))

sub_self_nat : (a : ℕ) → a - a ≡ 0
sub_self_nat a = omega arith

-- ---- zero over anything rounds to a zero of the sign
round_zero_one : (s : Bool) → round binary64 s 0 1 ≡ fin s 0 (pos 0)
unfolding round
round_zero_one true = refl
round_zero_one false = refl

pub round_zero : (s : Bool) (den : ℕ) → 0 < den → round binary64 s 0 den ≡ fin s 0 (pos 0)
round_zero s den D = round_same binary64 s 0 den 0 1 D (lit< tt) (sym (zero-mul den)) ∙ round_zero_one s

-- a finite number less itself is +0
pub sub_self : (s : Bool) (m : ℕ) (e : ℤ) → sub binary64 (fin s m e) (fin s m e) ≡ fin false 0 (pos 0)
unfolding sub
sub_self true m e =
    let a = m * up e * down e in
    rw (ltb_self a, sub_self_nat a) (round_zero false (down e * down e) (mul-pos (down_pos e) (down_pos e)))
sub_self false m e =
    let a = m * up e * down e in
    rw (ltb_self a, sub_self_nat a) (round_zero false (down e * down e) (mul-pos (down_pos e) (down_pos e)))
