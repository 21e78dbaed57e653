-- The u of e^−u in a variogram: past 12 it is never below zero, so that what stands for e^−u there never shows in a call; and it is the source's −u, negated.
use Prim.Native.Nat.{ℕ, zero, suc, ◌+◌, ◌*◌, ◌^◌}
use native.Mathlib.Nat.{zero-mul}
use native.Mathlib.Omega.{arith}
use mathlib.Core.Path.{◌≡◌, refl, sym, ap, ◌∙◌}
use mathlib.Core.Logic.{◌⊎◌, inl, inr}
use mathlib.Core.Bool.{Bool, true, false, not, cond}
use lib.Arith.{le→nltb}
use lib.IntN.{pos}
use lib.Dec.{eqb, ltb}
use lib.Ieee.{Float, nan, inf, fin, up, down, unlike, binary64, prec, emax, low, odd, units, round, neg, mul, div, lt, of_bits}
use lib.Ieee.Fits.{round_is}
use lib.Ieee.Bits.{is_false}
use Rattle.ieee.specs.Floats.{zero_float}
use Rattle.ieee.specs.Values.{Signed, infinite, number}
use Rattle.ieee.proofs.Signs.{round_signed, square_clear}
use Rattle.variogram.specs.declared.Variogram.{Variogram}
use Rattle.variogram.specs.declared.VariogramModel.TheVariants.{Exponential}
use Rattle.variogram.specs.Model.{WrongModel, NotAboveZero, negative, not_a_number}

-- what has a clear sign is not below zero
clear : {x : Float} → Signed false x → lt x zero_float ≡ false
unfolding lt of_bits
clear infinite = refl
clear (number m e) = is_false _ (le→nltb (m * up e * 1) (0 * down e) (omega (arith, zero-mul (down e))))

by_zero : (b : Bool) (x y : Float) → lt x zero_float ≡ false → lt y zero_float ≡ false → lt (cond b x y) zero_float ≡ false
by_zero true x y p q = p
by_zero false x y p q = q

-- nor is a quotient of two such numbers, a NaN too
quotient_clear : {x y : Float} → Signed false x → Signed false y → lt (div binary64 x y) zero_float ≡ false
unfolding div lt of_bits
quotient_clear infinite infinite = refl
quotient_clear infinite (number n d) = refl
quotient_clear (number m e) infinite = clear (number 0 (pos 0))
quotient_clear (number m e) (number n d) =
    by_zero (eqb n 0) (cond (eqb m 0) nan (inf false)) (round binary64 false (m * up e * down d) (n * up d * down e))
    (by_zero (eqb m 0) nan (inf false) refl refl)
    (clear (round_signed false (m * up e * down d) (n * up d * down e)))

-- ---- Exponential: of a distance, which has a clear sign, where 12 does not refuse
above_zero : (x : Float) → ¬ NotAboveZero x → Signed false x
above_zero nan n = absurd (n not_a_number)
above_zero (inf true) n = absurd (n (negative infinite))
above_zero (inf false) n = infinite
above_zero (fin true m e) n = absurd (n (negative (number m e)))
above_zero (fin false m e) n = number m e

pub exponential_exponent : (v : Variogram) (h : Float) → v.model ≡ Exponential → ¬ WrongModel v → Signed false h
    → lt (div binary64 h v.range) zero_float ≡ false
exponential_exponent v h is n d = quotient_clear d (above_zero v.range (λ r. n record { model_is = is; range_is = r }))

-- ---- Gaussian: of every two numbers
square_is : (x : Float) → (mul binary64 x x ≡ nan) ⊎ Signed false (mul binary64 x x)
unfolding mul
square_is nan = inl refl
square_is (inf s) = inr (square_clear s (inf s) infinite)
square_is (fin s m e) = inr (square_clear s (fin s m e) (number m e))

over_nan : (x : Float) → lt (div binary64 x nan) zero_float ≡ false
unfolding div lt
over_nan nan = refl
over_nan (inf s) = refl
over_nan (fin s m e) = refl

of_nan : (y : Float) → lt (div binary64 nan y) zero_float ≡ false
unfolding div lt
of_nan y = refl

pub gaussian_exponent : (range h : Float) → lt (div binary64 (mul binary64 h h) (mul binary64 range range)) zero_float ≡ false
gaussian_exponent range h = by (square_is h) (square_is range)
  where
    x : Float
    x = mul binary64 h h

    y : Float
    y = mul binary64 range range

    by : (x ≡ nan) ⊎ Signed false x → (y ≡ nan) ⊎ Signed false y → lt (div binary64 x y) zero_float ≡ false
    by (inl e) s = rw e (of_nan y)
    by (inr r) (inl e) = rw e (over_nan x)
    by (inr r) (inr s) = quotient_clear r s

-- ---- the source's "-h / self.range" and "-(h * h) / (self.range * self.range)" are −u to the bit: a quotient rounds the same with either sign
odd_negated : (d : ℕ) (s : Bool) (q k l : ℕ) → odd d (not s) q k l ≡ neg (odd d s q k l)
unfolding odd neg
odd_negated d s zero k l = refl
odd_negated d s (suc q) k l = refl

either_negated : (b : Bool) {x y : Float} (u v : Float) → x ≡ neg u → y ≡ neg v → cond b x y ≡ neg (cond b u v)
either_negated true u v p q = p
either_negated false u v p q = q

units_negated : (s : Bool) (q k : ℕ) → units binary64 (not s) q k ≡ neg (units binary64 s q k)
unfolding units neg
units_negated s q k =
    either_negated (ltb (q * 2 ^ k) (2 ^ (low binary64 + suc (emax binary64)))) (odd (suc (prec binary64)) s q k (low binary64)) (inf s)
    (odd_negated (suc (prec binary64)) s q k (low binary64)) refl

round_negated : (s : Bool) (a c : ℕ) → round binary64 (not s) a c ≡ neg (round binary64 s a c)
round_negated s a c = round_is binary64 (not s) a c ∙ units_negated s _ _ ∙ ap neg (sym (round_is binary64 s a c))

unlike_not : (s t : Bool) → unlike (not s) t ≡ not (unlike s t)
unlike_not true true = refl
unlike_not true false = refl
unlike_not false true = refl
unlike_not false false = refl

pub quotient_negated : (x y : Float) → div binary64 (neg x) y ≡ neg (div binary64 x y)
unfolding div neg
quotient_negated nan y = refl
quotient_negated (inf s) nan = refl
quotient_negated (inf s) (inf t) = refl
quotient_negated (inf s) (fin t n d) = ap inf (unlike_not s t)
quotient_negated (fin s m e) nan = refl
quotient_negated (fin s m e) (inf t) = ap (λ (b : Bool). fin b 0 (pos 0)) (unlike_not s t)
quotient_negated (fin s m e) (fin t n d) =
    let a = m * up e * down d in
    let c = n * up d * down e in
    let b = unlike s t in
    rw (unlike_not s t)
    (either_negated (eqb n 0) (cond (eqb m 0) nan (inf b)) (round binary64 b a c) (either_negated (eqb m 0) nan (inf b) refl refl) (round_negated b a c))
