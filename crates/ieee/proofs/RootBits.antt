-- The pattern that `nearest_root` puts together is the f64 that `root_of` gives.
use Rattle.std.proofs.Common.{◌≡◌, ℕ, zero, suc, ◌+◌, ◌-◌, ◌*◌, ◌/◌, ◌%◌, ◌^◌, ◌<◌, ◌≤◌, false, sym, refl, ap, ◌∙◌, subst, le_trans, le_of_eq, lt_of_lt_of_le, lt_of_le_of_lt, mul-le-mul_right, mul_assoc, mul-le-mul, mul-lt-mul_of_pos_right, mul-pos, pow-suc, lt_of_not-le, arith, pow_pos, pow_mono, pow-add}
use native.Mathlib.Nat.{mul-mul-mul_comm}
use lib.Ieee.{binary64, round, of_bits}
use lib.Ieee.Fits.{round-fits}
use lib.Ieee.Bits.{of_bits-fits}
use lib.Ieee.Exact.{HasValue}
use Rattle.ieee.specs.Root.{whole_root, root_of}
use Rattle.ieee.specs.Values.{fields_multiple}
use Rattle.ieee.proofs.Fields.{value_multiple, value_sign, value_finite, same_value}
use Rattle.ieee.proofs.Steps.{bits_multiple}
use Rattle.ieee.proofs.WholeRoot.{square_even, root_lt, whole_root_le, whole_root_lt}
use Rattle.ieee.proofs.RootRound.{root_value}

-- ---- a normal number above zero by its pattern
pub pattern_value : (e r : ℕ) → suc e < 2047 → 2 ^ 52 ≤ r → r < 2 ^ 53 → HasValue (of_bits binary64 (e * 2 ^ 52 + r)) false (r * 2 ^ e) (2 ^ 1074)
pattern_value e r small lo hi =
    let b = e * 2 ^ 52 + r in
    let field : b / 2 ^ 52 ≡ suc e = omega arith in
    let fraction : b % 2 ^ 52 ≡ r - 2 ^ 52 = omega arith in
    let whole : 2 ^ 52 + (r - 2 ^ 52) ≡ r = omega arith in
    let is : fields_multiple (b / 2 ^ 52) (b % 2 ^ 52) ≡ r * 2 ^ e = rw (field, fraction) (ap (λ (n : ℕ). n * 2 ^ e) whole) in
    subst (λ (n : ℕ). HasValue (of_bits binary64 b) false n (2 ^ 1074)) is (bits_multiple b (omega arith))

-- ---- powers of four
pub four_power : (j : ℕ) → 4 ^ j ≡ 2 ^ j * 2 ^ j
four_power zero = refl
four_power (suc j) =
    rw (pow-suc 4 j, pow-suc 2 j) (ap (λ (n : ℕ). n * 4) (four_power j)
    ∙ (let e : 2 ^ j * 2 * (2 ^ j * 2) ≡ 4 * (2 ^ j * 2 ^ j) = square_even (2 ^ j) in let f : 2 ^ j * 2 ^ j * 4 ≡ 2 ^ j * 2 * (2 ^ j * 2) = omega arith in f))

four_mono : (i j : ℕ) → i ≤ j → 4 ^ i ≤ 4 ^ j
four_mono i j h =
    subst (λ (n : ℕ). 4 ^ i ≤ n) (sym (four_power j)) (subst (λ (n : ℕ). n ≤ 2 ^ j * 2 ^ j) (sym (four_power i)) (mul-le-mul (pow_mono h) (pow_mono h)))

two_power : (r : ℕ) → r < 2 → 2 ^ r ≡ 1 + r
two_power zero h = refl
two_power (suc zero) h = refl
two_power (suc (suc r)) h = absurd (omega arith)

pub even_power : (a : ℕ) → 2 ^ a ≡ (1 + a % 2) * 4 ^ (a / 2)
even_power a =
    let j = a / 2 in
    let e : a ≡ a % 2 + (j + j) = omega arith in
    ap (λ (k : ℕ). 2 ^ k) e
    ∙ pow-add 2 (a % 2) (j + j)
    ∙ ap (λ (n : ℕ). n * 2 ^ (j + j)) (two_power (a % 2) (omega arith))
    ∙ ap (λ (n : ℕ). (1 + a % 2) * n) (pow-add 2 j j ∙ sym (four_power j))

-- ---- q is the root of M, and w that of M * p * p: w has the digits of q, and then those below p
root_above : (q w M W p : ℕ) → q * q ≤ M → M * (p * p) ≡ W → W < (w + 1) * (w + 1) → q * p ≤ w
root_above q w M W p a e b =
    let x : q * p < w + 1 =
    root_lt (q * p) (w + 1) (lt_of_le_of_lt (le_trans (subst (λ (n : ℕ). n ≤ M * (p * p)) (mul-mul-mul_comm q q p p) (mul-le-mul_right (p * p) a))
    (le_of_eq e)) b) in
    omega arith

root_below : (q w M W p : ℕ) → M < (q + 1) * (q + 1) → 0 < p → M * (p * p) ≡ W → w * w ≤ W → w < (q + 1) * p
root_below q w M W p a P e b =
    root_lt w ((q + 1) * p) (lt_of_le_of_lt (le_trans b (le_of_eq (sym e)))
    (subst (λ (n : ℕ). M * (p * p) < n) (mul-mul-mul_comm (q + 1) (q + 1) p p) (mul-lt-mul_of_pos_right a (mul-pos P P))))

-- a root of 54 digits is not all ones, for an n of at most 2^54 - 2
pub not_all_ones : (q n : ℕ) → n ≤ 2 ^ 54 - 2 → q * q ≤ n * 2 ^ 54 → q ≤ 2 ^ 54 - 2
not_all_ones q n hi a =
    let x : q < 2 ^ 54 - 1 = lt_of_not-le (λ (g : 2 ^ 54 - 1 ≤ q). let y : (2 ^ 54 - 1) * (2 ^ 54 - 1) ≤ q * q = mul-le-mul g g in omega arith) in
    omega arith

-- nor has it fewer than 54 digits, for an n from 2^52 up
pub not_few : (q n : ℕ) → 2 ^ 52 ≤ n → n * 2 ^ 54 < (q + 1) * (q + 1) → 2 ^ 53 ≤ q
not_few q n lo a =
    let x : 2 ^ 53 * 2 ^ 53 ≤ n * 2 ^ 54 = omega arith in
    let y : 2 ^ 53 < q + 1 = root_lt (2 ^ 53) (q + 1) (lt_of_le_of_lt x a) in
    omega arith

pub enough : (n : ℕ) → n ≤ 2 ^ 54 - 2 → n * 2 ^ 54 < 4 ^ 54
enough n hi = omega arith

small_half : (half : ℕ) → half ≤ 1559 → half - 27 ≤ 1533
small_half half h = omega arith

pub next_half : (half : ℕ) → 511 ≤ half → half - 27 + 1 ≡ half - 26
next_half half h = omega arith

-- ---- both are the same number of multiples of 2^-1074
module _ (q h w : ℕ) (q-lo : 2 ^ 53 ≤ q) (q-hi : q ≤ 2 ^ 54 - 2) (w-lo : q * 2 ^ h ≤ w) (w-hi : w < (q + 1) * 2 ^ h) (small : h ≤ 1533) where
  rounded_pattern : round binary64 false (2 * w + 1) (2 * 2 ^ 1074) ≡ of_bits binary64 ((h + 1) * 2 ^ 52 + (q + 1) / 2)
  rounded_pattern =
      let a = round binary64 false (2 * w + 1) (2 * 2 ^ 1074) in
      let b = of_bits binary64 ((h + 1) * 2 ^ 52 + (q + 1) / 2) in
      let n = (q + 1) / 2 * 2 ^ (h + 1) in
      let x : HasValue a false n (2 ^ 1074) = root_value q h w q-lo (omega arith) w-lo w-hi small in
      let y : HasValue b false n (2 ^ 1074) = pattern_value (h + 1) ((q + 1) / 2) (omega arith) (omega arith) (omega arith) in
      same_value a b
      (round-fits binary64 false (2 * w + 1) (2 * 2 ^ 1074)) (of_bits-fits binary64 ((h + 1) * 2 ^ 52 + (q + 1) / 2))
      (value_finite a false n (2 ^ 1074) x) (value_finite b false n (2 ^ 1074) y)
      (value_sign a false n (2 ^ 1074) x ∙ sym (value_sign b false n (2 ^ 1074) y))
      (value_multiple a false n x ∙ sym (value_multiple b false n y))

-- ---- v * 2^1074 is n * 4^half, with n from 2^52 to 2^54 - 2
module _ (v n half : ℕ) (lo : 2 ^ 52 ≤ n) (hi : n ≤ 2 ^ 54 - 2) (least : 511 ≤ half) (greatest : half ≤ 1559) (value : n * 4 ^ half ≡ v * 2 ^ 1074) where
  pub scaled : n * 2 ^ 54 * (2 ^ (half - 27) * 2 ^ (half - 27)) ≡ v * 2 ^ 1074
  scaled =
      let h = half - 27 in
      let e : 27 + h ≡ half = omega arith in
      mul_assoc n (2 ^ 54) (2 ^ h * 2 ^ h)
      ∙ ap (λ (x : ℕ). n * (2 ^ 54 * x)) (sym (four_power h))
      ∙ ap (λ (x : ℕ). n * x) (sym (pow-add 4 27 h) ∙ ap (λ (k : ℕ). 4 ^ k) e)
      ∙ value

  bounded : v * 2 ^ 1074 < 4 ^ 1586
  bounded =
      subst (λ (x : ℕ). x < 4 ^ 1586) value
      (lt_of_lt_of_le (mul-lt-mul_of_pos_right (let y : n < 4 ^ 27 = omega arith in y)
      (subst (λ (x : ℕ). 0 < x) (sym (four_power half)) (mul-pos (pow_pos half) (pow_pos half))))
      (subst (λ (x : ℕ). x ≤ 4 ^ 1586) (pow-add 4 27 half) (four_mono (27 + half) 1586 (omega arith))))

  pub root_pattern : root_of v ≡ of_bits binary64 ((half - 26) * 2 ^ 52 + (whole_root 54 (n * 2 ^ 54) + 1) / 2)
  unfolding root_of
  root_pattern =
      let q = whole_root 54 (n * 2 ^ 54) in
      let w = whole_root 1586 (v * 2 ^ 1074) in
      let q_le : q * q ≤ n * 2 ^ 54 = whole_root_le 54 (n * 2 ^ 54) in
      let q_lt : n * 2 ^ 54 < (q + 1) * (q + 1) = whole_root_lt 54 (n * 2 ^ 54) (enough n hi) in
      rounded_pattern q (half - 27) w
      (not_few q n lo q_lt)
      (not_all_ones q n hi q_le)
      (root_above q w (n * 2 ^ 54) (v * 2 ^ 1074) (2 ^ (half - 27)) q_le scaled (whole_root_lt 1586 (v * 2 ^ 1074) bounded))
      (root_below q w (n * 2 ^ 54) (v * 2 ^ 1074) (2 ^ (half - 27)) q_lt (pow_pos (half - 27)) scaled (whole_root_le 1586 (v * 2 ^ 1074)))
      (small_half half greatest)
      ∙ ap (λ (e : ℕ). of_bits binary64 (e * 2 ^ 52 + (q + 1) / 2)) (next_half half least)
