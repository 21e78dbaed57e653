-- The root's 54 digits, rounded to 53, are the f64 that `root_of` gives.
use Rattle.std.proofs.Common.{◌≡◌, ℕ, zero, suc, ◌+◌, ◌-◌, ◌*◌, ◌/◌, ◌%◌, ◌^◌, ◌<◌, ◌≤◌, Bool, false, T, ◌⊎◌, sym, refl, ap, ◌∙◌, subst, inl, inr, le_trans, lt_of_lt_of_le, le_of_lt, lt_irrefl, mul-le-mul_right, mul_assoc, mul_comm, add-mul, mul-pos, one-mul, pow-suc, lt_of_not-le, not-le_of_lt, mul_left_comm, add-one, arith, le→leb, pow_pos, pow_mono, pow-add, shl_lt, ne_eqb}
use Prim.Native.Nat.{compare, Ordering}
use native.Mathlib.Nat.{mul-div-mul_right}
use lib.Dec.{is_le, compare_is_eq}
use borrow.Author.Tests.{lt-leb}
use lib.Arith.{digits_div, digits_mod}
use lib.Ieee.{Float, binary64, round, units, nearest, size}
use lib.Ieee.Digits.{size-lt, size-le}
use lib.Ieee.Fits.{round_is}
use lib.Ieee.Nearest.{closest, closest_same}
use lib.Ieee.Exact.{HasValue, units_val}

-- ---- what `compare` answers
less : (o : Ordering) → T (is_le o) → compare_is_eq o ≡ false → o ≡ Ordering.lt
less Ordering.lt h k = refl
less Ordering.eq h k = absurd (subst T k tt)
less Ordering.gt h k = absurd h

compare_lt : (a b : ℕ) → a < b → compare a b ≡ Ordering.lt
compare_lt a b h = less (compare a b) (le→leb a b (le_of_lt h)) (ne_eqb a b (λ (e : a ≡ b). lt_irrefl a (subst (λ (n : ℕ). a < n) (sym e) h)))

more : (o : Ordering) → is_le o ≡ false → o ≡ Ordering.gt
more Ordering.lt h = absurd (subst (λ (b : Bool). T b) h tt)
more Ordering.eq h = absurd (subst (λ (b : Bool). T b) h tt)
more Ordering.gt h = refl

compare_gt : (a b : ℕ) → b < a → compare a b ≡ Ordering.gt
compare_gt a b h = more (compare a b) (lt-leb a b h)

-- ---- j and a part r / b of one more, to the nearest whole number
closest_at : (j b r : ℕ) → r < b → closest (j * b + r) b ≡ nearest j (compare (r * 2) b)
closest_at j b r h = rw (digits_div j h, digits_mod j h)

closest_down : (j b r : ℕ) → r * 2 < b → closest (j * b + r) b ≡ j
closest_down j b r h = closest_at j b r (omega arith) ∙ ap (λ (o : Ordering). nearest j o) (compare_lt (r * 2) b h)

closest_up : (j b r : ℕ) → r < b → b < r * 2 → closest (j * b + r) b ≡ suc j
closest_up j b r h k = closest_at j b r h ∙ ap (λ (o : Ordering). nearest j o) (compare_gt (r * 2) b k)

pub parity : (q : ℕ) → (q ≡ 2 * (q / 2)) ⊎ (q ≡ 2 * (q / 2) + 1)
parity q = go (q % 2) refl
  where
    go : (r : ℕ) → q % 2 ≡ r → (q ≡ 2 * (q / 2)) ⊎ (q ≡ 2 * (q / 2) + 1)
    go zero e = inl (omega arith)
    go (suc zero) e = inr (omega arith)
    go (suc (suc r)) e = absurd (omega arith)

-- ---- w has the digits q and then more, of value l, below p: w + 1/2 to the nearest multiple of 2 * p is the last digit of q rounding the others
pub closest_half : (q p l : ℕ) → l < p → closest (2 * (q * p + l) + 1) (4 * p) ≡ (q + 1) / 2
closest_half q p l small = elim (parity q) [ inl e ↦ even e | inr e ↦ odd e ]
  where
    even : q ≡ 2 * (q / 2) → closest (2 * (q * p + l) + 1) (4 * p) ≡ (q + 1) / 2
    even e =
        let j = q / 2 in
        let x : q * p ≡ 2 * (j * p) = ap (λ (n : ℕ). n * p) e ∙ mul_assoc 2 j p in
        let y : j * (4 * p) ≡ 4 * (j * p) = mul_left_comm j 4 p in
        let z : 2 * (q * p + l) + 1 ≡ j * (4 * p) + (2 * l + 1) = omega arith in
        let u : j ≡ (q + 1) / 2 = omega arith in
        ap (λ (n : ℕ). closest n (4 * p)) z ∙ closest_down j (4 * p) (2 * l + 1) (omega arith) ∙ u

    odd : q ≡ 2 * (q / 2) + 1 → closest (2 * (q * p + l) + 1) (4 * p) ≡ (q + 1) / 2
    odd e =
        let j = q / 2 in
        let x : q * p ≡ 2 * (j * p) + p =
        ap (λ (n : ℕ). n * p) e ∙ add-mul (2 * j) 1 p ∙ ap (λ (n : ℕ). n + 1 * p) (mul_assoc 2 j p) ∙ ap (λ (n : ℕ). 2 * (j * p) + n) (one-mul p) in
        let y : j * (4 * p) ≡ 4 * (j * p) = mul_left_comm j 4 p in
        let z : 2 * (q * p + l) + 1 ≡ j * (4 * p) + (2 * p + 2 * l + 1) = omega arith in
        let u : suc j ≡ (q + 1) / 2 = omega arith in
        ap (λ (n : ℕ). closest n (4 * p)) z ∙ closest_up j (4 * p) (2 * p + 2 * l + 1) (omega arith) (omega arith) ∙ u

-- ---- how many binary digits a number has, from its bounds
size_is : (w a b : ℕ) → b ≡ suc a → 2 ^ a ≤ w → w < 2 ^ b → size w ≡ b
size_is w a b e lo hi =
    let x : size w ≤ b = size-le w b hi in
    let y : a < size w = lt_of_not-le (λ (g : size w ≤ a). not-le_of_lt (lt_of_lt_of_le (size-lt w) (pow_mono g)) lo) in
    omega arith

-- the same fraction over 2^1074
over_units : (a U P Q : ℕ) → Q ≡ P * 2 → a * U * (4 * P) ≡ a * (2 * U * Q)
over_units a U P Q e =
    ap (λ (n : ℕ). a * U * n) (let x : 4 * P ≡ 2 * Q = omega arith in x) ∙ mul_assoc a U (2 * Q)
    ∙ ap (λ (n : ℕ). a * n) (sym (mul_assoc U 2 Q) ∙ ap (λ (n : ℕ). n * Q) (mul_comm U 2))

-- ---- the rounding of w + 1/2 for a w of 54 + h digits, of which q are the first 54
module _ (q h w : ℕ) (q-lo : 2 ^ 53 ≤ q) (q-hi : q < 2 ^ 54) (w-lo : q * 2 ^ h ≤ w) (w-hi : w < (q + 1) * 2 ^ h) where
  half_of : (2 * w + 1) * 2 ^ 1074 / (2 * 2 ^ 1074) ≡ w
  half_of = mul-div-mul_right {m = 2 ^ 1074} (2 * w + 1) 2 (pow_pos 1074) ∙ (let e : (2 * w + 1) / 2 ≡ w = omega arith in e)

  digits : size w ≡ 54 + h
  digits =
      size_is w (53 + h) (54 + h) (omega arith)
      (le_trans (subst (λ (n : ℕ). n ≤ q * 2 ^ h) (sym (pow-add 2 53 h)) (mul-le-mul_right (2 ^ h) q-lo)) w-lo)
      (lt_of_lt_of_le w-hi (subst (λ (n : ℕ). (q + 1) * 2 ^ h ≤ n) (sym (pow-add 2 54 h)) (mul-le-mul_right (2 ^ h) (omega arith))))

  dropped : size ((2 * w + 1) * 2 ^ 1074 / (2 * 2 ^ 1074)) - 53 ≡ h + 1
  dropped = ap (λ (n : ℕ). size n - 53) half_of ∙ ap (λ (n : ℕ). n - 53) digits ∙ (let e : 54 + h - 53 ≡ h + 1 = omega arith in e)

  rounds : closest ((2 * w + 1) * 2 ^ 1074) (2 * 2 ^ 1074 * 2 ^ (h + 1)) ≡ (q + 1) / 2
  rounds =
      let l = w - q * 2 ^ h in
      let e : w ≡ q * 2 ^ h + l = omega arith in
      let f : (q + 1) * 2 ^ h ≡ q * 2 ^ h + 2 ^ h = add-mul q 1 (2 ^ h) ∙ ap (λ (n : ℕ). q * 2 ^ h + n) (one-mul (2 ^ h)) in
      closest_same ((2 * w + 1) * 2 ^ 1074) (2 * 2 ^ 1074 * 2 ^ (h + 1)) (2 * w + 1) (4 * 2 ^ h) (mul-pos (pow_pos 1075) (pow_pos (h + 1)))
      (mul-pos (pow_pos 2) (pow_pos h))
      (over_units (2 * w + 1) (2 ^ 1074) (2 ^ h) (2 ^ (h + 1)) (rw (add-one, pow-suc 2 h)))
      ∙ ap (λ (n : ℕ). closest (2 * n + 1) (4 * 2 ^ h)) e
      ∙ closest_half q (2 ^ h) l (omega arith)

  pub root_value : h ≤ 1533 → HasValue (round binary64 false (2 * w + 1) (2 * 2 ^ 1074)) false ((q + 1) / 2 * 2 ^ (h + 1)) (2 ^ 1074)
  root_value small =
      let is : round binary64 false (2 * w + 1) (2 * 2 ^ 1074) ≡ units binary64 false ((q + 1) / 2) (h + 1) =
      round_is binary64 false (2 * w + 1) (2 * 2 ^ 1074)
      ∙ ap (λ (k : ℕ). units binary64 false (closest ((2 * w + 1) * 2 ^ 1074) (2 * 2 ^ 1074 * 2 ^ k)) k) dropped
      ∙ ap (λ (n : ℕ). units binary64 false n (h + 1)) rounds in
      let fine : (q + 1) / 2 * 2 ^ (h + 1) < 2 ^ 2098 =
      lt_of_lt_of_le (shl_lt 54 (h + 1) (omega arith)) (pow_mono {i = 54 + (h + 1)} {j = 2098} (omega arith)) in
      subst (λ (x : Float). HasValue x false ((q + 1) / 2 * 2 ^ (h + 1)) (2 ^ 1074)) (sym is) (units_val binary64 false ((q + 1) / 2) (h + 1) fine)
