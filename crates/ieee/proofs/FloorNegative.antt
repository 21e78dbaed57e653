-- The greatest whole number not above a negative f64: the number itself, or 1 below its whole part.
use Rattle.std.proofs.Common.{◌≡◌, ℕ, ◌+◌, ◌-◌, ◌*◌, ◌/◌, ◌%◌, ◌^◌, ◌<◌, true, false, not, ◌||◌, T, eqb, ℤ, sym, refl, ap, ◌∙◌, subst, inl, inr, true≢false, mod-lt, add-mul, eq-zero-or-pos, one-mul, div-add-mod', mul-one, mul_right_comm, arith, lit<, eqb→eq, T_not, pow_pos}
use native.Mathlib.Nat.{eq_of_mul-eq-mul_right}
use mathlib.Core.Bool.{beq}
use lib.Arith.{digits_div}
use lib.Ieee.{Float, nan, inf, fin, binary64, fits, of_bits, round, neg, sub, eq, up, down}
use lib.Ieee.Exact.{HasValue}
use lib.Ieee.Fits.{down_pos, and_l, and_i, eq→eqb, neg-fits}
use lib.Ieee.Scale.{finite, round_same}
use Rattle.ieee.specs.Floats.{floor_of}
use Rattle.ieee.specs.Values.{multiple, sign_of}
use Rattle.ieee.proofs.Own.{round_own}
use Rattle.ieee.proofs.FloorCases.{WholePart, ones_of, floor_whole}

-- ---- a negative number without its sign
pub negated : (x : Float) → T (finite x) → sign_of x ≡ true → T (finite (neg x)) × (sign_of (neg x) ≡ false)
unfolding neg
negated nan h s = absurd h
negated (inf t) h s = absurd h
negated (fin true m e) h s = (tt, refl)
negated (fin false m e) h s = absurd (true≢false (sym s))

-- ---- the least whole number that is not below a / d
pub ceiling_whole : (a d : ℕ) → 0 < d → a ≡ a / d * d → (a + (d - 1)) / d ≡ a / d
ceiling_whole a d D e = ap (λ (n : ℕ). (n + (d - 1)) / d) e ∙ digits_div (a / d) {m = d} {r = d - 1} (omega arith)

pub ceiling_more : (a d : ℕ) → 0 < d → 0 < a % d → (a + (d - 1)) / d ≡ a / d + 1
ceiling_more a d D h =
    let s = div-add-mod' a d in
    let m = mod-lt a D in
    let p : (a / d + 1) * d ≡ a / d * d + d = add-mul (a / d) 1 d ∙ ap (λ (n : ℕ). a / d * d + n) (one-mul d) in
    let e : a + (d - 1) ≡ (a / d + 1) * d + (a % d - 1) = omega arith in
    ap (λ (n : ℕ). n / d) e ∙ digits_div (a / d + 1) {m = d} {r = a % d - 1} (omega arith)

-- ---- beside the number itself: the test finds whether it is whole
module _ (m : ℕ) (e : ℤ) (f : T (fits binary64 (fin false m e))) where
  -- the whole part in ones
  in_ones : (r : Float) → WholePart (fin false m e) r → HasValue r false (m * up e / down e) 1
  in_ones nan w = absurd w.value
  in_ones (inf t) w = absurd w.value
  in_ones (fin t n g) w =
      let K = multiple (fin false m e) / 2 ^ 1074 in (
        w.value.0,
        mul-one (n * up g)
            ∙ eq_of_mul-eq-mul_right (2 ^ 1074) (pow_pos 1074) (n * up g) (K * down g) (w.value.1 ∙ mul_right_comm K (2 ^ 1074) (down g))
            ∙ ap (λ (k : ℕ). k * down g) (ones_of false m e f),
      )

  -- the fractions that the test compares
  left : (n : ℕ) (g : ℤ) → n * up g * 1 ≡ m * up e / down e * down g → n * up g * down e ≡ m * up e / down e * down e * down g
  left n g v = ap (λ (k : ℕ). k * down e) (sym (mul-one (n * up g)) ∙ v) ∙ mul_right_comm (m * up e / down e) (down g) (down e)

  whole_if : (r : Float) → WholePart (fin false m e) r → T (eq r (fin false m e)) → m * up e ≡ m * up e / down e * down e
  unfolding eq
  whole_if nan w h = absurd h
  whole_if (inf t) w h = absurd h
  whole_if (fin t n g) w h =
      let l : n * up g * down e ≡ m * up e * down g =
      eqb→eq (n * up g * down e) (m * up e * down g) (and_l (eqb (n * up g * down e) (m * up e * down g)) (beq t false || eqb (n * up g * down e) 0) h) in
      eq_of_mul-eq-mul_right (down g) (down_pos g) (m * up e) (m * up e / down e * down e) (sym l ∙ left n g (in_ones (fin t n g) w).1)

  if_whole : (r : Float) → WholePart (fin false m e) r → m * up e ≡ m * up e / down e * down e → T (eq r (fin false m e))
  unfolding eq
  if_whole nan w h = absurd w.value
  if_whole (inf t) w h = absurd w.value
  if_whole (fin true n g) w h = absurd (true≢false w.value.0)
  if_whole (fin false n g) w h =
      and_i (eqb (n * up g * down e) (m * up e * down g)) true (eq→eqb (left n g (in_ones (fin false n g) w).1 ∙ ap (λ (k : ℕ). k * down g) (sym h))) tt

  if_fraction : (r : Float) → WholePart (fin false m e) r → T (not (eq r (fin false m e))) → 0 < m * up e % down e
  if_fraction r w h =
      elim (eq-zero-or-pos (m * up e % down e)) [
        | inl z ↦ absurd (T_not (eq r (fin false m e)) h (if_whole r w (let s = div-add-mod' (m * up e) (down e) in omega arith)))
        | inr p ↦ p
      ]

-- ---- 1 below
minus_one : (r : Float) (K : ℕ) → HasValue r false K 1 → sub binary64 (neg (of_bits binary64 4607182418800017408)) r ≡ round binary64 true (K + 1) 1
unfolding sub neg of_bits
minus_one nan K h = absurd h
minus_one (inf t) K h = absurd h
minus_one (fin true n g) K h = absurd (true≢false h.0)
minus_one (fin false n g) K h =
    let v = h.1 in
    let p : (K + 1) * down g ≡ K * down g + down g = add-mul K 1 (down g) ∙ ap (λ (k : ℕ). K * down g + k) (one-mul (down g)) in
    round_same binary64 true (1 * down g + n * up g * 1) (1 * down g) (K + 1) 1 (omega (arith, down_pos g)) (lit< tt)
    (let q : (1 * down g + n * up g * 1) * 1 ≡ (K + 1) * down g = omega arith in q ∙ ap (λ (k : ℕ). (K + 1) * k) (sym (one-mul (down g))))

-- ---- the two answers
module _ (m : ℕ) (e : ℤ) (f : T (fits binary64 (fin true m e))) (g : T (fits binary64 (fin false m e))) (r : Float) (w : WholePart (fin false m e) r) where
  whole_number : T (eq r (fin false m e)) → fin true m e ≡ floor_of (fin true m e)
  unfolding floor_of
  whole_number t =
      let a = m * up e in
      let is = whole_if m e g r w t in
      sym (round_own (fin true m e) true (a / down e) 1 f (lit< tt) (refl, mul-one a ∙ is))
      ∙ ap (λ (n : ℕ). round binary64 true n 1) (sym (ceiling_whole a (down e) (down_pos e) is))

  with_fraction : T (not (eq r (fin false m e))) → sub binary64 (neg (of_bits binary64 4607182418800017408)) r ≡ floor_of (fin true m e)
  unfolding floor_of
  with_fraction t =
      let a = m * up e in
      minus_one r (a / down e) (in_ones m e g r w)
      ∙ ap (λ (n : ℕ). round binary64 true n 1) (sym (ceiling_more a (down e) (down_pos e) (if_fraction m e g r w t)))

pub floor_whole_number : (x r : Float) → T (fits binary64 x) → T (finite x) → sign_of x ≡ true → r ≡ floor_of (neg x) → T (eq r (neg x)) → x ≡ floor_of x
unfolding neg
floor_whole_number nan r f h s w t = absurd h
floor_whole_number (inf b) r f h s w t = absurd h
floor_whole_number (fin false m e) r f h s w t = absurd (true≢false (sym s))
floor_whole_number (fin true m e) r f h s w t =
    let g = neg-fits binary64 (fin true m e) f in
    whole_number m e f g r (subst (λ (y : Float). WholePart (fin false m e) y) (sym w) (floor_whole (fin false m e) g tt refl)) t

pub floor_fraction : (x r : Float) → T (fits binary64 x) → T (finite x) → sign_of x ≡ true → r ≡ floor_of (neg x) → T (not (eq r (neg x)))
    → sub binary64 (neg (of_bits binary64 4607182418800017408)) r ≡ floor_of x
unfolding neg
floor_fraction nan r f h s w t = absurd h
floor_fraction (inf b) r f h s w t = absurd h
floor_fraction (fin false m e) r f h s w t = absurd (true≢false (sym s))
floor_fraction (fin true m e) r f h s w t =
    let g = neg-fits binary64 (fin true m e) f in
    with_fraction m e f g r (subst (λ (y : Float). WholePart (fin false m e) y) (sym w) (floor_whole (fin false m e) g tt refl)) t
