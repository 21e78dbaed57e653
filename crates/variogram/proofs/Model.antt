-- Laws of the variogram: what it is below the same-spot distance, past it by its model, and sounding F.
use Prim.Native.Nat.{ℕ, zero, suc, ◌*◌, ◌≤◌, ◌<◌}
use native.Mathlib.Nat.{mul-pos, zero-lt-suc, zero-mul}
use native.Mathlib.Omega.{arith}
use mathlib.Core.Path.{◌≡◌, refl, ap, sym, subst, fun_ext}
use mathlib.Core.Bool.{true, false, not}
use mathlib.Core.List.{List}
use mathlib.Core.Logic.{◌↔◌}
use lib.Arith.{le→nltb}
use lib.IntN.{ℤ}
use lib.Dec.{T, nltb→le}
use lib.Ieee.{Float, nan, inf, fin, up, down, binary64, add, sub, mul, div, lt, le, of_bits, round}
use lib.Ieee.Fits.{up_pos}
use Rattle.ieee.specs.Floats.{zero_float, one_float}
use Rattle.ieee.specs.Values.{infinite, number}
use Rattle.exponential.specs.Exponential.{fraction_table, exp_neg, exp_neg_by}
use Rattle.exponential.proofs.Lent.{by_table}
use Rattle.variogram.specs.declared.Variogram.{Variogram}
use Rattle.variogram.specs.declared.VariogramModel.{VariogramModel}
use Rattle.variogram.specs.declared.VariogramModel.TheVariants.{Spherical, Exponential, Gaussian, Linear}
use Rattle.variogram.specs.Model.{variogram, spheric, spherical, linear, of_model, semivariance, semivariance_with, semivariance_by, wrong_range}
use Rattle.variogram.specs.Model.{wrong_model}
use Rattle.variogram.specs.Model.{NotAboveZero, a_zero, negative, not_a_number, WrongModel}

-- the variogram of a distance below the same-spot distance is +0, whatever the model and its numbers
pub with_same_spot_lem : (exp : Float → Float) (v : Variogram) (h : Float) → lt h v.same_spot ≡ true → semivariance_with exp v h ≡ zero_float
unfolding semivariance_with
with_same_spot_lem exp v h near = rw near

pub same_spot : (v : Variogram) (h : Float) → lt h v.same_spot ≡ true → semivariance v h ≡ zero_float
unfolding semivariance
same_spot = with_same_spot_lem exp_neg

-- any other distance, a NaN too, is the model's
pub by_model_lem : (exp : Float → Float) (v : Variogram) (h : Float) (m : VariogramModel) → lt h v.same_spot ≡ false → v.model ≡ m
    → semivariance_with exp v h ≡ of_model exp m v.nugget v.sill v.range h
unfolding semivariance_with
by_model_lem exp v h m far is = rw (far, is)

-- the same by a table that is lent
pub lent_same_spot : (lent : List ℕ) (v : Variogram) (h : Float) → lt h v.same_spot ≡ true → semivariance_by lent v h ≡ zero_float
unfolding semivariance_by
lent_same_spot lent = with_same_spot_lem (exp_neg_by lent)

pub lent_model : (lent : List ℕ) (v : Variogram) (h : Float) (m : VariogramModel) → lt h v.same_spot ≡ false → v.model ≡ m
    → semivariance_by lent v h ≡ of_model (exp_neg_by lent) m v.nugget v.sill v.range h
unfolding semivariance_by
lent_model lent = by_model_lem (exp_neg_by lent)

-- by the table itself, lent, it is the variogram
pub by_own_table : (v : Variogram) (h : Float) → semivariance_by fraction_table v h ≡ semivariance v h
unfolding semivariance_by semivariance
by_own_table v h = ap (λ (exp : Float → Float). semivariance_with exp v h) (fun_ext by_table)

pub spherical_far : (nugget sill range h : Float) → le range h ≡ true → spherical nugget sill range h ≡ sill
unfolding spherical
spherical_far nugget sill range h far = rw far

pub spherical_near : (nugget sill range h : Float) → le range h ≡ false
    → spherical nugget sill range h ≡ add binary64 nugget (mul binary64 (sub binary64 sill nugget) (spheric (div binary64 h range)))
unfolding spherical
spherical_near nugget sill range h near = rw near

-- sounding F: "Spherical 0, 1, 2 at h = 1: 0.6875. Linear 1, 4, 2 at h = 2: 5."
pub sounding_f : (semivariance
    (variogram Spherical zero_float one_float (of_bits binary64 0x4000_0000_0000_0000)) one_float ≡ of_bits binary64 0x3fe6_0000_0000_0000)
    × (semivariance (variogram Linear one_float (of_bits binary64 0x4010_0000_0000_0000) (of_bits binary64 0x4000_0000_0000_0000))
    (of_bits binary64 0x4000_0000_0000_0000) ≡ of_bits binary64 0x4014_0000_0000_0000)
unfolding semivariance semivariance_with spherical linear add sub mul div lt le of_bits round
sounding_f = (refl, refl)

-- ---- 12: an Exponential variogram whose range is not above zero
-- a number without a minus that is not above zero is one
no_digits : (m : ℕ) (e : ℤ) → T (not (lt zero_float (fin false m e))) → m ≡ 0
unfolding lt of_bits
no_digits zero e h = refl
no_digits (suc m) e h =
    let some : 0 < suc m * up e = mul-pos (zero-lt-suc m) (up_pos e) in
    let none : suc m * up e * 1 ≤ 0 * down e = nltb→le (0 * down e) (suc m * up e * 1) h in
    absurd (omega (arith, zero-mul (down e)))

pub not_above : (x : Float) → T (not (lt zero_float x)) ↔ NotAboveZero x
unfolding lt of_bits
not_above x = (there x, from)
  where
    there : (x : Float) → T (not (lt zero_float x)) → NotAboveZero x
    there nan h = not_a_number
    there (inf true) h = negative infinite
    there (inf false) h = absurd h
    there (fin true m e) h = negative (number m e)
    there (fin false m e) h = subst (λ (n : ℕ). NotAboveZero (fin false n e)) (sym (no_digits m e h)) (a_zero false e)

    from : {x : Float} → NotAboveZero x → T (not (lt zero_float x))
    from (a_zero true e) = tt
    from (a_zero false e) = le→nltb (0 * down e) (0 * up e * 1) (omega (arith, zero-mul (down e), zero-mul (up e)))
    from (negative infinite) = tt
    from (negative (number m e)) = tt
    from not_a_number = tt

pub wrong_model_lem : (v : Variogram) → T (wrong_model v) ↔ WrongModel v
wrong_model_lem v = (there v.model refl, from)
  where
    there : (m : VariogramModel) → v.model ≡ m → T (wrong_range m v.range) → WrongModel v
    there Spherical is t = absurd t
    there Exponential is t = record { model_is = is; range_is = (not_above v.range).0 t }
    there Gaussian is t = absurd t
    there Linear is t = absurd t

    from : WrongModel v → T (wrong_model v)
    from w = rw w.model_is ((not_above v.range).1 w.range_is)
