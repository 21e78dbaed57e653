-- The same-spot distance: one step below it and at it, which patterns 22 takes, and that such a distance is above zero.
use Prim.Native.Nat.{ℕ, zero, suc, ◌+◌, ◌*◌, ◌/◌, ◌%◌, ◌^◌, ◌≤◌, ◌<◌}
use native.Mathlib.Nat.{mul-pos, zero-mul, zero-lt-suc}
use native.Mathlib.Omega.{arith}
use mathlib.Core.Path.{◌≡◌, refl, sym, ◌∙◌}
use mathlib.Core.Logic.{inl, inr, ◌↔◌}
use mathlib.Core.Bool.{Bool, true, false, not, ◌||◌, cond, true≢false, false≢true}
use native.Mathlib.Decide.{dec_lt}
use borrow.Author.Tests.{ltb-false, lt-ltb, lt-leb, le-leb}
use lib.Dec.{T, eqb, leb, eqb→eq}
use lib.Pow.{pow_pos}
use lib.Ieee.{Float, nan, inf, fin, binary64, fits, up, down, lt, eq, of_bits, of_fields, odd, round}
use lib.Ieee.Exact.{HasValue, odd_sign}
use lib.Ieee.Fits.{up_pos, down_pos, and_l, and_r}
use lib.Ieee.Scale.{finite}
use Rattle.ieee.specs.Floats.{zero_float, epsilon}
use Rattle.ieee.proofs.FiniteLists.{is_finite}
use Rattle.ieee.proofs.Own.{round_own}
use Rattle.ieee.proofs.Fields.{value_finite}
use Rattle.ieee.proofs.Steps.{pattern_multiple, bits_multiple, pattern_rises, patterns_rise, not_below_earlier}
use Rattle.exponential.specs.Exponential.{exp_neg}
use Rattle.variogram.specs.declared.Variogram.{Variogram}
use Rattle.variogram.specs.Model.{with_same_spot, semivariance, wrong_spot, WrongSpot}
use Rattle.variogram.specs.Spot.{OneStep, Taken}
use Rattle.variogram.proofs.Model.{same_spot, by_model_lem}

-- ---- a same-spot distance that 22 takes is above zero
pub above_zero : (x : Float) → T (finite x) → lt x epsilon ≡ false → lt zero_float x ≡ true
unfolding lt of_bits
above_zero nan f h = absurd f
above_zero (inf s) f h = absurd f
above_zero (fin true m e) f h =
    let none : m * up e * 2 ^ 52 + 1 * 1 * down e ≤ 0 = ltb-false 0 (m * up e * 2 ^ 52 + 1 * 1 * down e) h in
    absurd (omega (arith, down_pos e))
above_zero (fin false zero e) f h =
    let none : 1 * 1 * down e ≤ 0 * up e * 2 ^ 52 = ltb-false (0 * up e * 2 ^ 52) (1 * 1 * down e) h in
    absurd (omega (arith, down_pos e, zero-mul (up e)))
above_zero (fin false (suc m) e) f h =
    let some : 0 < suc m * up e = mul-pos (zero-lt-suc m) (up_pos e) in
    lt-ltb (0 * down e) (suc m * up e * 1) (omega (arith, zero-mul (down e)))

pub spot_taken : (v : Variogram) → ¬ WrongSpot v → lt zero_float v.same_spot ≡ true
spot_taken v n = above_zero v.same_spot (is_finite v.same_spot (λ x. n (inl x))) (not_true (lt v.same_spot epsilon) (λ x. n (inr x)))
  where
    not_true : (b : Bool) → ¬ (b ≡ true) → b ≡ false
    not_true true f = absurd (f refl)
    not_true false f = refl

-- ---- one step
pub one_step : (v : Variogram) (b : ℕ) → suc b < 0x7ff0_0000_0000_0000 → OneStep v b
unfolding semivariance
one_step v b h =
    let w = with_same_spot v (of_bits binary64 (suc b)) in
    record {
      below = same_spot w (of_bits binary64 b) (pattern_rises b h);
      equal = by_model_lem exp_neg w (of_bits binary64 (suc b)) v.model (not_below_earlier (suc b) (suc b) (omega arith) h) refl;
    }

-- ---- 22 by the bits: which patterns are taken
wrong : Float → Bool
wrong x = not (finite x) || lt x epsilon

-- whatever has a minus is below 2^-52, or not finite
minus_wrong : (x : Float) (a c : ℕ) → HasValue x true a c → wrong x ≡ true
unfolding wrong lt of_bits
minus_wrong nan a c h = absurd h
minus_wrong (inf s) a c h = absurd h
minus_wrong (fin false m e) a c h = absurd (false≢true h.0)
minus_wrong (fin true m e) a c h = lt-ltb 0 (m * up e * 2 ^ 52 + 1 * 1 * down e) (omega (arith, down_pos e))

not_finite_wrong : (x : Float) → finite x ≡ false → wrong x ≡ true
unfolding wrong
not_finite_wrong x h = rw h

minus_fields : (e t : ℕ) → wrong (of_fields binary64 true e t) ≡ true
unfolding of_fields
minus_fields zero t = minus_wrong (odd 53 true t 0 1074) (t * 2 ^ 0) (2 ^ 1074) (odd_sign 53 true t 0 1074)
minus_fields (suc e) t = go (eqb (suc e) 2047) (eqb t 0)
  where
    go : (a b : Bool) → wrong (cond a (cond b (inf true) nan) (odd 53 true (2 ^ 52 + t) e 1074)) ≡ true
    go true true = not_finite_wrong (inf true) refl
    go true false = not_finite_wrong nan refl
    go false b = minus_wrong (odd 53 true (2 ^ 52 + t) e 1074) ((2 ^ 52 + t) * 2 ^ e) (2 ^ 1074) (odd_sign 53 true (2 ^ 52 + t) e 1074)

top_fields : (t : ℕ) → wrong (of_fields binary64 false 2047 t) ≡ true
unfolding of_fields
top_fields t = go (eqb t 0)
  where
    go : (b : Bool) → wrong (cond b (inf false) nan) ≡ true
    go true = not_finite_wrong (inf false) refl
    go false = not_finite_wrong nan refl

-- from infinity's pattern on
high_wrong : (b : ℕ) → 2047 * 2 ^ 52 ≤ b → b < 2 ^ 64 → wrong (of_bits binary64 b) ≡ true
unfolding of_bits
high_wrong b l h =
    elim (dec_lt b (2 ^ 63)) [
      | yes q ↦
          let sign : leb (2 ^ 63) b ≡ false = lt-leb (2 ^ 63) b q in
          let field : b % 2 ^ 63 / 2 ^ 52 ≡ 2047 = omega arith in
          rw (sign, field) (top_fields (b % 2 ^ 52))
      | no q ↦
          let sign : leb (2 ^ 63) b ≡ true = le-leb (2 ^ 63) b (omega arith) in
          rw sign (minus_fields (b % 2 ^ 63 / 2 ^ 52) (b % 2 ^ 52))
    ]

-- below it
low_wrong : (b : ℕ) → b < 2047 * 2 ^ 52 → wrong (of_bits binary64 b) ≡ lt (of_bits binary64 b) epsilon
unfolding wrong
low_wrong b h = go (finite (of_bits binary64 b)) (value_finite (of_bits binary64 b) false (pattern_multiple b) (2 ^ 1074) (bits_multiple b h))
  where
    go : (f : Bool) → T f → (not f || lt (of_bits binary64 b) epsilon) ≡ lt (of_bits binary64 b) epsilon
    go true t = refl
    go false t = absurd t

-- "not finite or below 2^-52", pattern by pattern
pub taken_exactly : (v : Variogram) (b : ℕ) → b < 2 ^ 64 → (wrong_spot (with_same_spot v (of_bits binary64 b)) ≡ false) ↔ Taken b
unfolding wrong
taken_exactly v b h =
    elim (dec_lt b (2047 * 2 ^ 52)) [
      | yes low ↦
          elim (dec_lt b 0x3cb0_0000_0000_0000) [
            | yes small ↦
                let refused : wrong (of_bits binary64 b) ≡ true = low_wrong b low ∙ patterns_rise b 0x3cb0_0000_0000_0000 small (omega arith) in
                (λ e. absurd (true≢false (sym refused ∙ e)), λ t. let l = t.0 in absurd (omega arith))
            | no large ↦
                let taken : wrong (of_bits binary64 b) ≡ false = low_wrong b low ∙ not_below_earlier 0x3cb0_0000_0000_0000 b (omega arith) low in
                (λ e. (omega arith, omega arith), λ t. taken)
          ]
      | no high ↦
          let refused : wrong (of_bits binary64 b) ≡ true = high_wrong b (omega arith) h in
          (λ e. absurd (true≢false (sym refused ∙ e)), λ t. let l = t.1 in absurd (omega arith))
    ]

-- ---- the f64 that is the same number as 2^-52 is 2^-52, bit for bit
pub is_epsilon : (x : Float) → T (fits binary64 x) → T (eq x epsilon) → x ≡ epsilon
unfolding eq of_bits round
is_epsilon nan f h = absurd h
is_epsilon (inf s) f h = absurd h
is_epsilon (fin true m e) f h =
    let a : ℕ = m * up e * 2 ^ 52 in
    let same : a ≡ 1 * 1 * down e = eqb→eq a (1 * 1 * down e) (and_l (eqb a (1 * 1 * down e)) (eqb a 0) h) in
    let none : a ≡ 0 = eqb→eq a 0 (and_r (eqb a (1 * 1 * down e)) (eqb a 0) h) in
    absurd (omega (arith, down_pos e))
is_epsilon (fin false m e) f h =
    let a : ℕ = m * up e * 2 ^ 52 in
    let same : a ≡ 1 * 1 * down e = eqb→eq a (1 * 1 * down e) (and_l (eqb a (1 * 1 * down e)) true h) in
    let value : HasValue (fin false m e) false 1 (2 ^ 52) = (refl, same) in
    sym (round_own (fin false m e) false 1 (2 ^ 52) f (pow_pos 52) value)
