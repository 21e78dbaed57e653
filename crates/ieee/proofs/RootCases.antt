-- The square root's cases: at zero, above zero, at infinity, and elsewhere.
use Rattle.std.proofs.Common.{◌≡◌, ℕ, zero, suc, ◌*◌, ◌<◌, Bool, true, false, not, T, ℤ, sym, refl, ap, subst, zero-lt-suc, mul-pos, zero-mul, arith, ltb→lt, lt→ltb, T_not}
use lib.Ieee.{Float, nan, inf, fin, lt, eq, div, level, of_bits, binary64, up, down}
use lib.Ieee.Fits.{up_pos}
use lib.Ieee.Positive.{positive}
use lib.Ieee.Scale.{finite}
use Rattle.ieee.specs.Floats.{zero_float}
use Rattle.ieee.specs.Values.{multiple}
use Rattle.ieee.specs.Root.{root_of, sqrt_of}
use Rattle.ieee.proofs.Zero.{magnitude_zero}

pub root_of_zero : (x : Float) → T (eq x zero_float) → x ≡ sqrt_of x
unfolding sqrt_of eq of_bits
root_of_zero nan h = absurd h
root_of_zero (inf s) h = absurd h
root_of_zero (fin s zero e) h = refl
root_of_zero (fin s (suc m) e) h = let z : suc m ≡ 0 = magnitude_zero s (suc m) e h in absurd (omega arith)

-- above zero by the test: a clear sign and a significand that is not 0
above : (m : ℕ) (e : ℤ) → T (lt zero_float (fin false m e)) → 0 < m
unfolding lt of_bits
above zero e h = let l : 0 * down e < 0 * up e * 1 = ltb→lt (0 * down e) (0 * up e * 1) h in let z : 0 * up e ≡ 0 = zero-mul (up e) in absurd (omega arith)
above (suc m) e h = zero-lt-suc m

pub positive_of : (x : Float) → T (lt zero_float x) → T (finite x) → T (positive x)
unfolding lt of_bits
positive_of nan h k = absurd k
positive_of (inf s) h k = absurd k
positive_of (fin true m e) h k = absurd h
positive_of (fin false m e) h k = lt→ltb 0 m (above m e h)

pub root_of_positive : (x : Float) → T (positive x) → root_of (multiple x) ≡ sqrt_of x
unfolding sqrt_of
root_of_positive nan h = absurd h
root_of_positive (inf s) h = absurd h
root_of_positive (fin true m e) h = absurd h
root_of_positive (fin false zero e) h = absurd h
root_of_positive (fin false (suc m) e) h = refl

pub root_of_infinity : (x : Float) → T (lt zero_float x) → T (not (finite x)) → x ≡ sqrt_of x
unfolding sqrt_of lt of_bits
root_of_infinity nan h k = refl
root_of_infinity (inf true) h k = absurd h
root_of_infinity (inf false) h k = refl
root_of_infinity (fin s m e) h k = absurd k

-- a zero passes the test for zero, and a number with a clear sign and a digit the one for above zero
zero_passes : (s : Bool) (e : ℤ) → T (eq (fin s 0 e) zero_float)
unfolding eq of_bits
zero_passes s e =
    subst (λ (n : ℕ). T (level s n false (0 * down e))) (sym (ap (λ (n : ℕ). n * 1) (zero-mul (up e))))
    (subst (λ (n : ℕ). T (level s 0 false n)) (sym (zero-mul (down e))) (go s))
  where
    go : (t : Bool) → T (level t 0 false 0)
    go true = tt
    go false = tt

pub above_passes : (m : ℕ) (e : ℤ) → T (lt zero_float (fin false (suc m) e))
unfolding lt of_bits
above_passes m e =
    let p : 0 < suc m * up e = mul-pos (zero-lt-suc m) (up_pos e) in
    let z : 0 * down e ≡ 0 = zero-mul (down e) in
    lt→ltb (0 * down e) (suc m * up e * 1) (omega arith)

pub no_root : (x : Float) → T (not (eq x zero_float)) → T (not (lt zero_float x)) → nan ≡ sqrt_of x
unfolding sqrt_of lt of_bits
no_root nan h k = refl
no_root (inf true) h k = refl
no_root (inf false) h k = absurd k
no_root (fin s zero e) h k = absurd (T_not (eq (fin s 0 e) zero_float) h (zero_passes s e))
no_root (fin true (suc m) e) h k = refl
no_root (fin false (suc m) e) h k = absurd (T_not (lt zero_float (fin false (suc m) e)) k (above_passes m e))

pub nan_is : div binary64 zero_float zero_float ≡ nan
unfolding div of_bits
nan_is = refl
