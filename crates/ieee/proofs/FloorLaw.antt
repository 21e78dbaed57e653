-- What `floor_of` gives is the greatest whole number not above a finite f64, over whole multiples of 2^-1074, for both signs.
use Rattle.std.proofs.Common.{◌≡◌, ℕ, ◌+◌, ◌-◌, ◌*◌, ◌/◌, ◌%◌, ◌^◌, ◌<◌, ◌≤◌, true, false, T, ℤ, sym, refl, ap, ◌∙◌, subst, inl, inr, true≢false, le_of_eq, lt_of_lt_of_le, lt_of_le_of_lt, le_of_lt, mod-lt, mul_assoc, div-lt_iff_lt-mul, add-mul, eq-zero-or-pos, eq-or-lt_of_le, mul-le-mul_left, mul-lt-mul_of_pos_right, one-mul, lt_of_not-le, div-add-mod', mul-one, mul_right_comm, div-mul-le_self, arith, lit<, pow_pos, pow_mono, pow-add}
use native.Mathlib.Nat.{eq_of_mul-eq-mul_right}
use native.Mathlib.Nat.{mul-mod_left}
use native.Mathlib.Nat.{add-lt-add_iff_right}
use lib.Ieee.{Float, nan, inf, fin, binary64, fits, round, up, down}
use lib.Ieee.Back.{round_whole}
use lib.Ieee.Exact.{HasValue}
use lib.Ieee.Fits.{down_pos, round-fits}
use lib.Ieee.Scale.{finite}
use Rattle.ieee.specs.Floats.{floor_of}
use Rattle.ieee.specs.Values.{multiple, sign_of}
use Rattle.ieee.specs.Whole.{GreatestWhole}
use Rattle.ieee.proofs.Fields.{value_multiple, value_sign, value_finite}
use Rattle.ieee.proofs.Own.{own_multiple, round_own, same_fraction}
use Rattle.ieee.proofs.FloorCases.{ones_of, floor_whole}
use Rattle.ieee.proofs.FloorNegative.{ceiling_whole, ceiling_more}
use Rattle.ieee.proofs.RoundingNearest.{point}

-- ---- M lies from M / U * U up to one U more
from_part : (M U : ℕ) → 0 < U → M < M / U * U + U
from_part M U p = let s = div-add-mod' M U in let m = mod-lt M p in omega arith

more : (M U : ℕ) → 0 < U → M < M + U
more M U p = omega arith

-- ---- not negative
pub floor_multiple : (x : Float) → T (fits binary64 x) → T (finite x) → sign_of x ≡ false → multiple (floor_of x) ≡ multiple x / 2 ^ 1074 * 2 ^ 1074
floor_multiple x f h s = value_multiple (floor_of x) false (multiple x / 2 ^ 1074 * 2 ^ 1074) (floor_whole x f h s).value

plain : (x : Float) → T (fits binary64 x) → T (finite x) → sign_of x ≡ false → GreatestWhole x (floor_of x)
plain x f h s =
    let M = multiple x in
    let U = 2 ^ 1074 in
    let v = (floor_whole x f h s).value in
    let is = floor_multiple x f h s in
    record {
      format = (floor_whole x f h s).format;
      number = value_finite (floor_of x) false (M / U * U) U v;
      sign = value_sign (floor_of x) false (M / U * U) U v ∙ sym s;
      whole = ap (λ (n : ℕ). n % U) is ∙ mul-mod_left (M / U) U;
      above_zero = λ t. (subst (λ (n : ℕ). n ≤ M) (sym is) (div-mul-le_self M U), subst (λ (n : ℕ). M < n + U) (sym is) (from_part M U (pow_pos 1074)));
      below_zero = λ t. absurd (true≢false (sym t ∙ s));
    }

-- ---- negative
module _ (m : ℕ) (e : ℤ) (f : T (fits binary64 (fin true m e))) where
  exact : m * up e * 2 ^ 1074 ≡ multiple (fin true m e) * down e
  exact = (own_multiple (fin true m e) f tt).1

  -- c ones and no fraction
  no_fraction : (c : ℕ) → multiple (fin true m e) ≡ c * 2 ^ 1074 → m * up e % down e ≡ 0
  no_fraction c is =
      ap (λ (n : ℕ). n % down e)
      (eq_of_mul-eq-mul_right (2 ^ 1074) (pow_pos 1074) (m * up e) (c * down e) (exact ∙ ap (λ (n : ℕ). n * down e) is ∙ mul_right_comm c (2 ^ 1074) (down e)))
      ∙ mul-mod_left c (down e)

  -- a negative r of c ones, and how it lies to x
  of_ones : (r : Float) (c : ℕ) → T (fits binary64 r) → HasValue r true c 1 → multiple (fin true m e) ≤ c * 2 ^ 1074
      → c * 2 ^ 1074 < multiple (fin true m e) + 2 ^ 1074 → GreatestWhole (fin true m e) r
  of_ones r c g v lo hi =
      let h = value_finite r true c 1 v in
      let is : multiple r ≡ c * 2 ^ 1074 =
      sym (mul-one (multiple r)) ∙ sym (same_fraction r (sign_of r) true c 1 (multiple r) (2 ^ 1074) (own_multiple r g h) v) in
      record {
        format = g;
        number = h;
        sign = value_sign r true c 1 v;
        whole = ap (λ (n : ℕ). n % 2 ^ 1074) is ∙ mul-mod_left c (2 ^ 1074);
        above_zero = λ t. absurd (true≢false t);
        below_zero = λ t. (subst (λ (n : ℕ). multiple (fin true m e) ≤ n) (sym is) lo, subst (λ (n : ℕ). n < multiple (fin true m e) + 2 ^ 1074) (sym is) hi);
      }

  whole_case : m * up e % down e ≡ 0 → GreatestWhole (fin true m e) (floor_of (fin true m e))
  unfolding floor_of
  whole_case z =
      let x = fin true m e in
      let a = m * up e in
      let whole : a ≡ a / down e * down e = let s = div-add-mod' a (down e) in omega arith in
      let v : HasValue x true (a / down e) 1 = (refl, mul-one a ∙ whole) in
      let is : x ≡ round binary64 true ((a + (down e - 1)) / down e) 1 =
      sym (round_own x true (a / down e) 1 f (lit< tt) v)
      ∙ ap (λ (n : ℕ). round binary64 true n 1) (sym (ceiling_whole a (down e) (down_pos e) whole)) in
      let M : a / down e * 2 ^ 1074 ≡ multiple x =
      same_fraction x true true (a / down e) 1 (multiple x) (2 ^ 1074) (own_multiple x f tt) v ∙ mul-one (multiple x) in
      let U = pow_pos 1074 in
      subst (λ (r : Float). GreatestWhole x r) is (of_ones x (a / down e) f v (le_of_eq (sym M)) (lt_of_le_of_lt (le_of_eq M) (more (multiple x) (2 ^ 1074) U)))

  few_ones : 0 < m * up e % down e → m * up e / down e < 2 ^ 53
  few_ones p =
      let x = fin true m e in
      let d = point x f tt in
      let g = d.1 in
      let low : g < 1074 = lt_of_not-le (λ (l : 1074 ≤ g).
      let z =
      no_fraction (d.0 * 2 ^ (g - 1074)) (d.3 ∙ ap (λ (k : ℕ). d.0 * 2 ^ k) (let y : g ≡ g - 1074 + 1074 = omega arith in y)
      ∙ ap (λ (n : ℕ). d.0 * n) (pow-add 2 (g - 1074) 1074) ∙ sym (mul_assoc d.0 (2 ^ (g - 1074)) (2 ^ 1074))) in
      omega arith) in
      subst (λ (n : ℕ). n < 2 ^ 53) (ones_of true m e f)
      ((div-lt_iff_lt-mul {k = 2 ^ 1074} {x = multiple x} {y = 2 ^ 53} (pow_pos 1074)).1
      (subst (λ (n : ℕ). n < 2 ^ 53 * 2 ^ 1074) (sym d.3) (lt_of_lt_of_le (mul-lt-mul_of_pos_right d.2 (pow_pos g))
      (mul-le-mul_left (2 ^ 53) (pow_mono {i = g} {j = 1074} (le_of_lt low))))))

  fraction_case : 0 < m * up e % down e → GreatestWhole (fin true m e) (floor_of (fin true m e))
  unfolding floor_of
  fraction_case p =
      let x = fin true m e in
      let M = multiple x in
      let a = m * up e in
      let few = few_ones p in
      let c = a / down e + 1 in
      let r = round binary64 true c 1 in
      let v : HasValue r true c 1 = round_whole binary64 true c (omega arith) in
      let K : a / down e ≡ M / 2 ^ 1074 = sym (ones_of true m e f) in
      let steps : c * 2 ^ 1074 ≡ M / 2 ^ 1074 * 2 ^ 1074 + 2 ^ 1074 =
      ap (λ (n : ℕ). (n + 1) * 2 ^ 1074) K ∙ add-mul (M / 2 ^ 1074) 1 (2 ^ 1074) ∙ ap (λ (n : ℕ). M / 2 ^ 1074 * 2 ^ 1074 + n) (one-mul (2 ^ 1074)) in
      let hi = from_part M (2 ^ 1074) (pow_pos 1074) in
      let lo : M / 2 ^ 1074 * 2 ^ 1074 < M =
      elim (eq-or-lt_of_le (div-mul-le_self M (2 ^ 1074))) [ inl y ↦ absurd (let z = no_fraction (M / 2 ^ 1074) (sym y) in omega arith) | inr y ↦ y ] in
      subst (λ (n : ℕ). GreatestWhole x (round binary64 true n 1)) (sym (ceiling_more a (down e) (down_pos e) p))
      (of_ones r c (round-fits binary64 true c 1) v (subst (λ (n : ℕ). M ≤ n) (sym steps) (le_of_lt hi))
      (subst (λ (n : ℕ). n < M + 2 ^ 1074) (sym steps) ((add-lt-add_iff_right (2 ^ 1074)).1 lo)))

  negative : GreatestWhole (fin true m e) (floor_of (fin true m e))
  negative = elim (eq-zero-or-pos (m * up e % down e)) [ inl z ↦ whole_case z | inr p ↦ fraction_case p ]

pub floor_greatest : (x : Float) → T (fits binary64 x) → T (finite x) → GreatestWhole x (floor_of x)
floor_greatest nan f h = absurd h
floor_greatest (inf s) f h = absurd h
floor_greatest (fin false m e) f h = plain (fin false m e) f h refl
floor_greatest (fin true m e) f h = negative m e f
