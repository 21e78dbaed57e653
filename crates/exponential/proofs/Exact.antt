-- e^−u lies within 2^-50 of the exact value for every finite u that is not below 0, and from 0 to 1; what it is at an infinity, a NaN and the zeros. Assumes
-- nothing.
use Rattle.std.proofs.Common.{◌≡◌, ℕ, ◌+◌, ◌-◌, ◌*◌, ◌/◌, ◌%◌, ◌^◌, ◌<◌, ◌≤◌, Bool, true, false, ◌&&◌, ◌||◌, T, eqb, ltb, pos, sym, refl, ap, ◌∙◌, subst, ap₂, true≢false, le_trans, le_of_eq, le_refl, mul-le-mul_right, mod-lt, mul_assoc, mul_comm, add-mul, add-sub_of_le, mul-pos, div-add-mod', le-div_iff_mul-le, mul_right_comm, arith, lit≤, eqb→eq, ltb→lt, pow_pos}
use native.Mathlib.Nat.{mul-sub}
use lib.Ieee.{Float, nan, inf, fin, fits, of_bits, of_int, mul, le, lt, eq, up, down}
use lib.Ieee.Fits.{down_pos}
use lib.Ieee.Scale.{finite}
use Rattle.ieee.specs.Floats.{zero_float, one_float}
use Rattle.ieee.specs.Values.{multiple}
use Rattle.series.specs.Series.{over, added, taken}
use Rattle.series.specs.Bracket.{Within}
use Rattle.series.proofs.Bounds.{Above}
use Rattle.series.proofs.Bracket.{within, none_under}
use Rattle.series.proofs.Near.{Near, under_units, above_units, above_product}
use Rattle.series.proofs.Scale.{above_scaled}
use Rattle.exponential.specs.Exponential.{cut, units, shown, by_range, exp_neg}
use Rattle.exponential.specs.Exact.{Close, EveryClose, OtherExponentials}
use Rattle.exponential.proofs.Cases.{from_cut, inside, elsewhere, below_zero}
use Rattle.exponential.proofs.Digits.{under_cut, scaled_below}
use Rattle.exponential.proofs.Units.{units_le}
use Rattle.exponential.proofs.UnitsNear.{units_near}
use Rattle.exponential.proofs.Shown.{shown_fits, shown_is}

-- ---- below 35: y units, shown as q multiples of 2^-53. With b for 2^1012, u and the result count 1 / (2^62·b), and 2^-50 is 4,096·b
module _ (a b y q : ℕ) (b-positive : 0 < b) (low : q * 2 ^ 9 ≤ y + 2 ^ 8) (high : y + 2 ^ 8 < q * 2 ^ 9 + 2 ^ 9)
    (near : Near a (2 ^ 62 * b) (2 ^ 62) y 1140) where
  less : (q * 2 ^ 9 * b - 4096 * b) * 2 ^ 62 ≤ (y - 1140) * (2 ^ 62 * b)
  less =
      let e : q * 2 ^ 9 * b - 4096 * b ≡ (q * 2 ^ 9 - 4096) * b =
      ap₂ (λ (m n : ℕ). m - n) (mul_comm (q * 2 ^ 9) b) (mul_comm 4096 b) ∙ sym (mul-sub b (q * 2 ^ 9) 4096) ∙ mul_comm b (q * 2 ^ 9 - 4096) in
      let h : q * 2 ^ 9 - 4096 ≤ y - 1140 = omega arith in
      le_trans (le_of_eq (ap (λ (n : ℕ). n * 2 ^ 62) e ∙ mul_assoc (q * 2 ^ 9 - 4096) b (2 ^ 62)
      ∙ ap (λ (n : ℕ). (q * 2 ^ 9 - 4096) * n) (mul_comm b (2 ^ 62))))
      (mul-le-mul_right (2 ^ 62 * b) h)

  more : (y + 1140) * (2 ^ 62 * b) ≤ (q * 2 ^ 9 * b + 4096 * b) * 2 ^ 62
  more =
      let h : y + 1140 ≤ q * 2 ^ 9 + 4096 = omega arith in
      le_trans (mul-le-mul_right (2 ^ 62 * b) h)
      (le_of_eq (sym (ap (λ (n : ℕ). n * 2 ^ 62) (sym (add-mul (q * 2 ^ 9) 4096 b)) ∙ mul_assoc (q * 2 ^ 9 + 4096) b (2 ^ 62)
      ∙ ap (λ (n : ℕ). (q * 2 ^ 9 + 4096) * n) (mul_comm b (2 ^ 62)))))

  within_shown : Within a (2 ^ 62 * b) (q * 2 ^ 9 * b) (2 ^ 62 * b) (4096 * b)
  within_shown =
      within a (2 ^ 62 * b) (q * 2 ^ 9 * b) (2 ^ 62 * b) (4096 * b) (mul-pos (pow_pos 62) b-positive)
      (under_units a (2 ^ 62 * b) (y - 1140) (2 ^ 62) (q * 2 ^ 9 * b - 4096 * b) (2 ^ 62 * b) (pow_pos 62) less near.under)
      (above_units a (2 ^ 62 * b) (y + 1140) (2 ^ 62) (q * 2 ^ 9 * b + 4096 * b) (2 ^ 62 * b) (pow_pos 62) more near.above)

-- ---- from 35 on: e^−35 is below 2^-50
above_35 : Above 35 1 1 (2 ^ 50)
unfolding over added taken
above_35 = record { power = 150; enough = lit≤ tt }

none_more : (a d : ℕ) → Above a d 1 1
unfolding over added taken
none_more a d = record { power = 0; enough = le_refl 1 }

from_35 : (a : ℕ) → 35 * 2 ^ 1074 ≤ a → Within a (2 ^ 1074) 0 (2 ^ 1074) (2 ^ 1024)
from_35 a h =
    let U = 2 ^ 1074 in
    let whole : Above (U * 35) (U * 1) 1 (2 ^ 50) = above_scaled U 35 1 1 (2 ^ 50) above_35 in
    let sum : U * 35 + (a - U * 35) ≡ a = add-sub_of_le (subst (λ (n : ℕ). n ≤ a) (mul_comm 35 U) h) in
    let both : Above a U 1 (2 ^ 50) = subst (λ (n : ℕ). Above n U 1 (2 ^ 50)) sum
    (above_product (U * 35) (a - U * 35) U 1 1 (2 ^ 50) 1 (pow_pos 1074) whole (none_more (a - U * 35) U)) in
    within a U 0 U (2 ^ 1024) (pow_pos 1074) (none_under a U U) (above_units a U 1 (2 ^ 50) (2 ^ 1024) U (pow_pos 50) (lit≤ tt) both)

above_cut : (u : Float) → T (finite u) → le cut u ≡ true → 35 * 2 ^ 1074 ≤ multiple u
unfolding le lt eq of_bits
above_cut nan f h = absurd f
above_cut (inf s) f h = absurd f
above_cut (fin true m e) f h = let p = down_pos e in absurd
    (none (eqb (35 * 1 * down e) (m * up e * 1)) (eqb (35 * 1 * down e) 0) h (λ t. let z = eqb→eq (35 * 1 * down e) 0 t in omega arith))
  where
    none : (p q : Bool) → (false || (p && (false || q))) ≡ true → (T q → ⊥) → ⊥
    none true true h f = f tt
    none true false h f = true≢false (sym h)
    none false q h f = true≢false (sym h)
above_cut (fin false m e) f h =
    (le-div_iff_mul-le (down_pos e)).1
    (le_trans (le_of_eq (mul_right_comm 35 (2 ^ 1074) (down e)))
    (mul-le-mul_right (2 ^ 1074)
    (go (ltb (35 * 1 * down e) (m * up e * 1)) (eqb (35 * 1 * down e) (m * up e * 1)) (ltb→lt (35 * 1 * down e) (m * up e * 1))
    (eqb→eq (35 * 1 * down e) (m * up e * 1)) h)))
  where
    go : (p q : Bool) → (T p → 35 * 1 * down e < m * up e * 1) → (T q → 35 * 1 * down e ≡ m * up e * 1) → (p || (q && true)) ≡ true → 35 * down e ≤ m * up e
    go true q f g h = let x = f tt in omega arith
    go false true f g h = let x = g tt in omega arith
    go false false f g h = absurd (true≢false (sym h))

-- ---- the theorem
last_digit : (y : ℕ) → y ≤ 2 ^ 62 → (y + 2 ^ 8) / 2 ^ 9 ≤ 2 ^ 53
last_digit y h = omega arith

truth : (b : Bool) → T b → b ≡ true
truth true t = refl
truth false t = absurd t

zero_close : (u : Float) → 35 * 2 ^ 1074 ≤ multiple u → Close u zero_float
unfolding of_bits fits
zero_close u h = record { format = tt; number = tt; sign = refl; at_most_one = lit≤ tt; within = from_35 (multiple u) h }

below_35 : (u : Float) → T (le zero_float u) → le cut u ≡ false → Close u (shown (units (multiple u / 2 ^ 1017)))
below_35 u not_below under =
    let v = multiple u in
    let w = v / 2 ^ 1017 in
    let small : w < 35 * 2 ^ 57 = scaled_below u not_below (under_cut u not_below under) in
    let y = units w in
    let y_small : y ≤ 2 ^ 62 = units_le w small in
    let q = (y + 2 ^ 8) / 2 ^ 9 in
    let value = shown_is y y_small in
    let whole : w * (32 * 2 ^ 1012) + v % 2 ^ 1017 ≡ v = div-add-mod' v (2 ^ 1017) in
    let near : Near v (2 ^ 1074) (2 ^ 62) y 1140 =
    subst (λ (a : ℕ). Near a (2 ^ 1074) (2 ^ 62) y 1140) whole (units_near w (2 ^ 1012) small (pow_pos 1012) (v % 2 ^ 1017) (mod-lt v (pow_pos 1017))) in
    let R : multiple (shown y) ≡ q * 2 ^ 9 * 2 ^ 1012 = value.its_multiple ∙ sym (mul_assoc q (2 ^ 9) (2 ^ 1012)) in
    record {
      format = shown_fits y y_small;
      number = value.is_finite;
      sign = value.its_sign;
      at_most_one = subst (λ (r : ℕ). r ≤ 2 ^ 1074) (sym value.its_multiple) (mul-le-mul_right (2 ^ 1021) (last_digit y y_small));
      within = subst (λ (r : ℕ). Within v (2 ^ 1074) r (2 ^ 1074) (2 ^ 1024)) (sym R)
          (within_shown v (2 ^ 1012) y q (pow_pos 1012) (omega arith) (omega arith) near);
    }

pub every_close : EveryClose
unfolding exp_neg
every_close u f finite-u not_below = go (le cut u) refl
  where
    go : (b : Bool) → le cut u ≡ b → Close u (by_range u (shown (units (multiple u / 2 ^ 1017))))
    go false h = subst (λ (r : Float). Close u r) (sym (inside u (shown (units (multiple u / 2 ^ 1017))) h (truth (le zero_float u) not_below)))
        (below_35 u not_below h)
    go true h = subst (λ (r : Float). Close u r) (sym (from_cut u (shown (units (multiple u / 2 ^ 1017))) h)) (zero_close u (above_cut u finite-u h))

one : shown (units 0) ≡ one_float
unfolding units shown of_bits of_int mul
one = refl

pub other_exponentials : OtherExponentials
unfolding le lt eq of_bits exp_neg
other_exponentials =
    record {
      infinity = from_cut (inf false) (shown (units 0)) refl;
      not_a_number = elsewhere nan (shown (units 0)) refl refl;
      at_zero = inside (fin false 0 (pos 0)) _ refl refl ∙ one;
      at_minus_zero = inside (fin true 0 (pos 0)) _ refl refl ∙ one;
      below_zero = λ u h. below_zero u (shown (units (multiple u / 2 ^ 1017))) h;
    }
