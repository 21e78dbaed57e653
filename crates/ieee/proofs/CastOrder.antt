-- The cast of an f64 to a whole number: the floor before it changes nothing, and it rises with the number, with a quotient by one divisor,
-- and with the root over one divisor.
use Rattle.std.proofs.Common.{◌≡◌, ℕ, zero, suc, ◌+◌, ◌-◌, ◌*◌, ◌/◌, ◌^◌, ◌<◌, ◌≤◌, min, true, false, T, ℤ, sym, refl, ap, ◌∙◌, true≢false, le_trans, le_of_eq, mul-le-mul_right, zero-lt-suc, mul_assoc, mul_comm, mul-pos, mul-div_cancel, mul_left_comm, arith, pow_pos, ltb-false, ne_eqb}
use lib.Ieee.{Float, nan, inf, fin, binary64, fits, up, down, round, lt, div, to_unsigned}
use lib.Ieee.Casts.{to_unsigned-lt}
use lib.Ieee.Fits.{up_pos, down_pos, div-fits}
use lib.Ieee.Nearest.{div_mono}
use lib.Ieee.Order.{round_mono}
use lib.Ieee.Scale.{finite}
use Rattle.ieee.specs.Floats.{floor_of}
use Rattle.ieee.specs.Root.{sqrt_of}
use Rattle.ieee.specs.Values.{multiple, sign_of, Signed, infinite, number}
use Rattle.ieee.specs.Whole.{GreatestWhole}
use Rattle.ieee.proofs.FloorCases.{ones_of}
use Rattle.ieee.proofs.FloorLaw.{floor_multiple, floor_greatest}
use Rattle.ieee.proofs.Signs.{round_signed, root_clear}
use Rattle.ieee.proofs.RootOrder.{none_below_zero, not_below, root_rises}

-- ---- the cast, which the floor does not change
pub whole_part : (x : Float) → T (fits binary64 x) → T (finite x) → sign_of x ≡ false → to_unsigned 64 x ≡ min (multiple x / 2 ^ 1074) (2 ^ 64 - 1)
unfolding to_unsigned
whole_part nan f h s = absurd h
whole_part (inf t) f h s = absurd h
whole_part (fin true m e) f h s = absurd (true≢false s)
whole_part (fin false m e) f h s = ap (λ (n : ℕ). min n (2 ^ 64 - 1)) (sym (ones_of false m e f))

floor_part : (x : Float) → T (fits binary64 x) → T (finite x) → sign_of x ≡ false → to_unsigned 64 (floor_of x) ≡ to_unsigned 64 x
floor_part x f h s =
    let g : GreatestWhole x (floor_of x) = floor_greatest x f h in
    let ones : multiple (floor_of x) / 2 ^ 1074 ≡ multiple x / 2 ^ 1074 =
    ap (λ (n : ℕ). n / 2 ^ 1074) (floor_multiple x f h s) ∙ mul-div_cancel (multiple x / 2 ^ 1074) (pow_pos 1074) in
    whole_part (floor_of x) g.format g.number (g.sign ∙ s) ∙ ap (λ (n : ℕ). min n (2 ^ 64 - 1)) ones ∙ sym (whole_part x f h s)

below_zero : (x : Float) → Signed true x → to_unsigned 64 x ≡ 0
unfolding to_unsigned
below_zero x infinite = refl
below_zero x (number m e) = refl

-- a cast takes the whole part, and what is below zero to 0, as it does with the floor: at every f64
pub floor_cast : (x : Float) → T (fits binary64 x) → to_unsigned 64 (floor_of x) ≡ to_unsigned 64 x
unfolding floor_of
floor_cast nan f = refl
floor_cast (inf s) f = refl
floor_cast (fin false m e) f = floor_part (fin false m e) f tt refl
floor_cast (fin true m e) f =
    below_zero (round binary64 true ((m * up e + (down e - 1)) / down e) 1) (round_signed true ((m * up e + (down e - 1)) / down e) 1)
    ∙ sym (below_zero (fin true m e) (number m e))

pub cast_rises : (x y : Float) → Signed false x → Signed false y → lt y x ≡ false → to_unsigned 64 x ≤ to_unsigned 64 y
unfolding lt to_unsigned
cast_rises x y cx infinite h = let l = to_unsigned-lt 64 x in omega arith
cast_rises x y infinite (number n d) h = absurd (true≢false h)
cast_rises x y (number m e) (number n d) h =
    let l : m * up e * down d ≤ n * up d * down e = ltb-false (n * up d * down e) (m * up e * down d) h in
    let g : m * up e / down e ≤ n * up d / down d = div_mono (m * up e) (down e) (n * up d) (down d) (down_pos e) (down_pos d) l in
    omega arith

-- ---- the whole part of the quotient by one divisor
nan_cast : to_unsigned 64 nan ≡ 0
unfolding to_unsigned
nan_cast = refl

module _ (n : ℕ) (d : ℤ) where
  abbrev divided : ℕ → ℤ → Float
  divided m e = round binary64 false (m * up e * down d) (n * up d * down e)

  quotient_mono : (m : ℕ) (e : ℤ) (k : ℕ) (c : ℤ) → 0 < n → m * up e * down c ≤ k * up c * down e → to_unsigned 64 (divided m e) ≤ to_unsigned 64 (divided k c)
  quotient_mono m e k c p h =
      let u : 0 < n * up d = mul-pos p (up_pos d) in
      let left : m * up e * down d * (n * up d * down c) ≡ m * up e * down c * (down d * (n * up d)) = simp (mul_assoc, mul_comm, mul_left_comm) in
      let right : k * up c * down d * (n * up d * down e) ≡ k * up c * down e * (down d * (n * up d)) = simp (mul_assoc, mul_comm, mul_left_comm) in
      cast_rises (divided m e) (divided k c) (round_signed false _ _) (round_signed false _ _)
      (not_below (divided m e) (divided k c) (round_signed false _ _) (round_signed false _ _)
      (round_mono binary64 (m * up e * down d) (n * up d * down e) (k * up c * down d) (n * up d * down c) (mul-pos u (down_pos e)) (mul-pos u (down_pos c))
      (le_trans (le_of_eq left) (le_trans (mul-le-mul_right (down d * (n * up d)) h) (le_of_eq (sym right))))))

pub quotient_rises : (x y w : Float) → Signed false x → Signed false y → Signed false w → lt y x ≡ false
    → to_unsigned 64 (div binary64 x w) ≤ to_unsigned 64 (div binary64 y w)
unfolding lt div to_unsigned
quotient_rises x y w infinite cy infinite h = omega arith
quotient_rises x y w (number m e) cy infinite h = omega arith
quotient_rises x y w cx infinite (number n d) h = let l = to_unsigned-lt 64 (div binary64 x w) in omega arith
quotient_rises x y w infinite (number k c) (number n d) h = absurd (true≢false h)
quotient_rises x y w (number zero e) (number k c) (number zero d) h = omega arith
quotient_rises x y w (number (suc m) e) (number zero c) (number zero d) h = absurd (none_below_zero m e c h)
quotient_rises x y w (number (suc m) e) (number (suc k) c) (number zero d) h =
    rw (ne_eqb (suc m) 0 (λ e. omega arith), ne_eqb (suc k) 0 (λ e. omega arith)) (le_of_eq refl)
quotient_rises x y w (number m e) (number k c) (number (suc n) d) h =
    rw (ne_eqb (suc n) 0 (λ e. omega arith)) (quotient_mono (suc n) d m e k c (zero-lt-suc n) (ltb-false (k * up c * down e) (m * up e * down c) h))

-- of the root over one divisor
pub part_rises : (x y w : Float) → Signed false x → Signed false y → Signed false w → T (fits binary64 y) → lt y x ≡ false
    → to_unsigned 64 (floor_of (div binary64 (sqrt_of x) w)) ≤ to_unsigned 64 (floor_of (div binary64 (sqrt_of y) w))
part_rises x y w cx cy cw f h =
    let a = floor_cast (div binary64 (sqrt_of x) w) (div-fits binary64 (sqrt_of x) w) in
    let b = floor_cast (div binary64 (sqrt_of y) w) (div-fits binary64 (sqrt_of y) w) in
    let l = quotient_rises (sqrt_of x) (sqrt_of y) w (root_clear x cx) (root_clear y cy) cw (root_rises x y cx cy f h) in
    omega arith
