-- An f64 from 0 up to 35: it is finite and its multiple of 2^-1074 is below that of 35; and its multiple of 2^-57, from the fields of its pattern.
use Rattle.std.proofs.Common.{◌≡◌, ℕ, zero, suc, ◌+◌, ◌*◌, ◌/◌, ◌%◌, ◌^◌, ◌<◌, ◌≤◌, Bool, true, false, not, ◌&&◌, ◌||◌, T, eqb, ltb, sym, refl, ap, ◌∙◌, subst, true≢false, lt_of_lt_of_le, mod-eq_of_lt, mul_assoc, div-lt_iff_lt-mul, add_comm, lt_of_mul-lt-mul_right, mul-lt-mul_of_pos_right, mul_right_comm, mul-div_cancel, arith, eqb→eq, ltb→lt, lt→ltb, pow_pos, pow_mono, pow-add, shl_lt, ltb-false}
use native.Mathlib.Nat.{div-eq_of_lt, mul-div-mul_right}
use native.Mathlib.Decide.{dec_lt}
use borrow.Author.Tests.{eqb-false}
use lib.Ieee.{Float, nan, inf, fin, is_nan, of_bits, up, down, lt, eq, le}
use lib.Ieee.Fits.{down_pos, and_l}
use lib.Ieee.Scale.{finite}
use Rattle.ieee.specs.Floats.{zero_float}
use Rattle.ieee.specs.Values.{multiple, fields_multiple}
use Rattle.exponential.specs.Exponential.{cut}

-- ---- from 0 up to 35
pub in_range_finite : (u : Float) → T (le zero_float u) → T (lt u cut) → T (finite u)
unfolding le lt eq of_bits
in_range_finite nan a b = absurd a
in_range_finite (inf true) a b = absurd a
in_range_finite (inf false) a b = absurd b
in_range_finite (fin s m e) a b = tt

pub in_range_number : (u : Float) → T (le zero_float u) → T (not (is_nan u))
unfolding le lt eq is_nan of_bits
in_range_number nan a = absurd a
in_range_number (inf s) a = tt
in_range_number (fin s m e) a = tt

-- what is not below 0 and not from 35 on is below 35
pub under_cut : (u : Float) → T (le zero_float u) → le cut u ≡ false → T (lt u cut)
unfolding le lt eq of_bits
under_cut nan a b = absurd a
under_cut (inf true) a b = tt
under_cut (inf false) a b = absurd (true≢false b)
under_cut (fin false m e) a b =
    go (ltb (35 * 1 * down e) (m * up e * 1)) (eqb (35 * 1 * down e) (m * up e * 1)) (λ h. ltb-false _ _ h) (λ h. eqb-false _ _ h) b
  where
    go : (p q : Bool)
        → (p ≡ false → m * up e * 1 ≤ 35 * 1 * down e)
        → (q ≡ false → 35 * 1 * down e ≡ m * up e * 1 → ⊥)
        → (p || (q && true)) ≡ false
        → T (ltb (m * up e * 1) (35 * 1 * down e))
    go true q f g h = absurd (true≢false h)
    go false true f g h = absurd (true≢false h)
    go false false f g h = let x = f refl in let y = g refl in lt→ltb (m * up e * 1) (35 * 1 * down e) (omega arith)
under_cut (fin true m e) a b = let p = down_pos e in lt→ltb 0 (m * up e * 1 + 35 * 1 * down e) (omega arith)

under : (x d k U : ℕ) → 0 < d → 0 < U → x < k * d → x * U / d < k * U
under x d k U p q h = (div-lt_iff_lt-mul p).1 (subst (λ (n : ℕ). x * U < n) (mul_right_comm k d U) (mul-lt-mul_of_pos_right h q))

pub below_cut : (u : Float) → T (le zero_float u) → T (lt u cut) → multiple u < 35 * 2 ^ 1074
unfolding le lt eq of_bits
below_cut nan a b = absurd a
below_cut (inf true) a b = absurd a
below_cut (inf false) a b = absurd b
below_cut (fin false m e) a b =
    let h = ltb→lt (m * up e * 1) (35 * 1 * down e) b in
    under (m * up e) (down e) 35 (2 ^ 1074) (down_pos e) (pow_pos 1074) (omega arith)
below_cut (fin true m e) a b =
    let z = eqb→eq (0 * 1 * down e) (m * up e * 1) (and_l (eqb (0 * 1 * down e) (m * up e * 1)) (eqb (0 * 1 * down e) 0) a) in
    let p = down_pos e in
    under (m * up e) (down e) 35 (2 ^ 1074) (down_pos e) (pow_pos 1074) (omega arith)

pub scaled_below : (u : Float) → T (le zero_float u) → T (lt u cut) → multiple u / 2 ^ 1017 < 35 * 2 ^ 57
scaled_below u a b = (div-lt_iff_lt-mul (pow_pos 1017)).1 (below_cut u a b)

-- ---- the multiple of 2^-57, by the ranges of the exponent field
pub far_below : (e t : ℕ) → e < 965 → t < 2 ^ 52 → 0 ≡ fields_multiple e t / 2 ^ 1017
far_below zero t a b = sym (div-eq_of_lt (lt_of_lt_of_le b (pow_mono {i = 52} {j = 1017} (omega arith))))
far_below (suc e) t a b = sym (div-eq_of_lt (lt_of_lt_of_le (shl_lt 53 e (omega arith)) (pow_mono {i = 53 + e} {j = 1017} (omega arith))))

pub to_the_right : (e t k : ℕ) → e + k ≡ 1018 → 0 < e → (t + 2 ^ 52) / 2 ^ k ≡ fields_multiple e t / 2 ^ 1017
to_the_right zero t k is p = absurd (omega arith)
to_the_right (suc e) t k is p =
    let unit : 2 ^ k * 2 ^ e ≡ 2 ^ 1017 = sym (pow-add 2 k e) ∙ ap (λ (n : ℕ). 2 ^ n) (let x : k + e ≡ 1017 = omega arith in x) in
    ap (λ (n : ℕ). n / 2 ^ k) (add_comm t (2 ^ 52))
    ∙ sym (mul-div-mul_right (2 ^ 52 + t) (2 ^ k) (pow_pos e))
    ∙ ap (λ (n : ℕ). (2 ^ 52 + t) * 2 ^ e / n) unit

shifted : (e t k : ℕ) → e ≡ k + 1017 → (2 ^ 52 + t) * 2 ^ e ≡ (2 ^ 52 + t) * 2 ^ k * 2 ^ 1017
shifted e t k is =
    ap (λ (n : ℕ). (2 ^ 52 + t) * 2 ^ n) is
    ∙ ap (λ (n : ℕ). (2 ^ 52 + t) * n) (pow-add 2 k 1017)
    ∙ sym (mul_assoc (2 ^ 52 + t) (2 ^ k) (2 ^ 1017))

shifted_small : (e t k : ℕ) → e ≡ k + 1018 → fields_multiple e t < 35 * 2 ^ 1074 → (2 ^ 52 + t) * 2 ^ k < 35 * 2 ^ 57
shifted_small zero t k is h = absurd (omega arith)
shifted_small (suc e) t k is h =
    lt_of_mul-lt-mul_right (2 ^ 1017) (subst (λ (n : ℕ). n < 35 * 2 ^ 57 * 2 ^ 1017) (shifted e t k (omega arith)) h)

pub shift_below : (e t k : ℕ) → e ≡ k + 1018 → fields_multiple e t < 35 * 2 ^ 1074 → k < 64
shift_below e t k is h =
    let b = shifted_small e t k is h in
    elim (dec_lt k 64) [
      | yes p ↦ p
      | no n ↦ let m : 2 ^ 64 ≤ 2 ^ k = pow_mono {i = 64} {j = k} (omega arith) in absurd (omega arith)
    ]

pub to_the_left : (e t k : ℕ) → e ≡ k + 1018 → fields_multiple e t < 35 * 2 ^ 1074 → (t + 2 ^ 52) * 2 ^ k % 2 ^ 64 ≡ fields_multiple e t / 2 ^ 1017
to_the_left zero t k is h = absurd (omega arith)
to_the_left (suc e) t k is h =
    let b = shifted_small (suc e) t k is h in
    ap (λ (n : ℕ). n * 2 ^ k % 2 ^ 64) (add_comm t (2 ^ 52))
    ∙ mod-eq_of_lt (let x : (2 ^ 52 + t) * 2 ^ k < 2 ^ 64 = omega arith in x)
    ∙ sym (mul-div_cancel ((2 ^ 52 + t) * 2 ^ k) (pow_pos 1017))
    ∙ ap (λ (n : ℕ). n / 2 ^ 1017) (sym (shifted e t k (omega arith)))
