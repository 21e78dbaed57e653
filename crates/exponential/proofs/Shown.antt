-- The f64 that y units of 2^-62 are shown as, for y up to 2^62: (y + 2^8) / 2^9 multiples of 2^-53, exactly.
use Rattle.std.proofs.Common.{◌≡◌, ℕ, ◌+◌, ◌*◌, ◌/◌, ◌^◌, ◌<◌, ◌≤◌, Bool, false, T, pos, sym, refl, ap, ◌∙◌, subst, ⊎_elim, lt_of_le_of_lt, mul-le-mul_right, mul_assoc, eq-or-lt_of_le, mul-pos, one-mul, mul_right_comm, arith, lit<, pow_pos, pow-add}
use lib.Ieee.{Float, nan, inf, fin, binary64, of_bits, of_int, mul, round, up, down, fits, unlike}
use lib.Ieee.Exact.{HasValue, round_exact}
use lib.Ieee.Scale.{round_same}
use lib.Ieee.Fits.{down_pos, round-fits}
use Rattle.ieee.proofs.RoundingNearest.{Is, is}
use Rattle.exponential.specs.Exponential.{shown}

-- a fraction with up to 53 digits above a power of two is an f64
exact : (n den j : ℕ) → n ≤ 2 ^ 53 → 0 < den → 2 ^ 1074 ≡ 2 ^ j * den → 2 ^ 53 * 2 ^ j < 2 ^ 2098 → HasValue (round binary64 false n den) false n den
exact n den j h positive unit small =
    ⊎_elim
    (λ e. subst (λ (k : ℕ). HasValue (round binary64 false k den) false k den) (sym e)
    (round_exact binary64 false (2 ^ 53) den 1 (53 + j) positive (omega arith)
    (subst (λ (k : ℕ). k < 2 ^ 2098) (sym one) small)
    (ap (λ (k : ℕ). 2 ^ 53 * k) unit ∙ sym (mul_assoc (2 ^ 53) (2 ^ j) den) ∙ ap (λ (k : ℕ). k * den) (sym one))))
    (λ l. round_exact binary64 false n den n j positive l (lt_of_le_of_lt (mul-le-mul_right (2 ^ j) h) small)
    (ap (λ (k : ℕ). n * k) unit ∙ sym (mul_assoc n (2 ^ j) den)))
    (eq-or-lt_of_le h)
  where
    one : 1 * 2 ^ (53 + j) ≡ 2 ^ 53 * 2 ^ j
    one = one-mul (2 ^ (53 + j)) ∙ pow-add 2 53 j

-- n as an f64 is n
whole_value : (n : ℕ) → n ≤ 2 ^ 53 → HasValue (of_int binary64 (pos n)) false n 1
unfolding of_int
whole_value n h = exact n 1 1074 h (omega arith) refl (lit< tt)

-- and a product with 2^-53 is rounded once
scaled_down : (x : Float) (n : ℕ) → HasValue x false n 1 → mul binary64 x (of_bits binary64 0x3ca0_0000_0000_0000) ≡ round binary64 false n (2 ^ 53)
unfolding mul of_bits
scaled_down nan n h = absurd h
scaled_down (inf s) n h = absurd h
scaled_down (fin s m e) n h =
    ap (λ (t : Bool). round binary64 (unlike t false) (m * up e * 1) (down e * 2 ^ 53)) h.0
    ∙ round_same binary64 false (m * up e * 1) (down e * 2 ^ 53) n (2 ^ 53) (mul-pos (down_pos e) (pow_pos 53)) (pow_pos 53)
    (ap (λ (k : ℕ). k * 2 ^ 53) h.1 ∙ mul_assoc n (down e) (2 ^ 53))

-- the same number as another fraction
raised : (x : Float) (a c k : ℕ) → HasValue x false a c → HasValue x false (a * k) (c * k)
raised nan a c k h = absurd h
raised (inf s) a c k h = absurd h
raised (fin s m e) a c k h = (h.0, sym (mul_assoc (m * up e) c k) ∙ ap (λ (n : ℕ). n * k) h.1 ∙ mul_right_comm a (down e) k)

module _ (y : ℕ) (small : y ≤ 2 ^ 62) where
  digits : ℕ
  digits = (y + 2 ^ 8) / 2 ^ 9

  digits_small : digits ≤ 2 ^ 53
  unfolding digits
  digits_small = omega arith

  rounded : shown y ≡ round binary64 false digits (2 ^ 53)
  unfolding shown digits
  rounded = scaled_down (of_int binary64 (pos digits)) digits (whole_value digits digits_small)

  pub shown_fits : T (fits binary64 (shown y))
  shown_fits = subst (λ (x : Float). T (fits binary64 x)) (sym rounded) (round-fits binary64 false digits (2 ^ 53))

  value : HasValue (shown y) false (digits * 2 ^ 1021) (2 ^ 1074)
  value = subst (λ (x : Float). HasValue x false (digits * 2 ^ 1021) (2 ^ 1074)) (sym rounded)
      (raised (round binary64 false digits (2 ^ 53)) digits (2 ^ 53) (2 ^ 1021) (exact digits (2 ^ 53) 1021 digits_small (pow_pos 53) refl (lit< tt)))

  -- a number from 0 to 1
  pub shown_is : Is (shown y) false ((y + 2 ^ 8) / 2 ^ 9 * 2 ^ 1021)
  unfolding digits
  shown_is = is (shown y) false (digits * 2 ^ 1021) value
