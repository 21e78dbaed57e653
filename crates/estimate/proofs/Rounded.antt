-- A magnitude in units of 2^-1074, rounded to an f64: how far it goes, and that it keeps the order.
use Prim.Native.Nat.{ℕ, ◌+◌, ◌-◌, ◌*◌, ◌^◌, ◌≤◌, ◌<◌}
use native.Mathlib.Nat.{le_of_mul-le-mul_right, mul_assoc}
use native.Mathlib.Omega.{arith}
use mathlib.Core.Path.{◌≡◌, sym, ap, ◌∙◌, subst}
use mathlib.Core.Logic.{inl, inr}
use lib.Dec.{T, lit<}
use lib.Pow.{pow_pos}
use lib.Ieee.{Float, binary64, fits}
use lib.Ieee.Scale.{finite}
use Rattle.ieee.specs.Values.{multiple}
use Rattle.ieee.proofs.RoundingWhole.{gap, le_or_lt, grid_near}
use Rattle.ieee.proofs.RoundingNearest.{point}
use Rattle.estimate.specs.Rounding.{rounded_to}
use Rattle.estimate.proofs.Grid.{unit_bound_lem}

-- ---- gaps in other units
gap_more : (a d : ℕ) → gap a (a + d) ≡ d
gap_more a d = omega arith

gap_less : (b d : ℕ) → gap (b + d) b ≡ d
gap_less b d = omega arith

pub gap_scale : (a b u : ℕ) → gap (a * u) (b * u) ≡ gap a b * u
gap_scale a b u = elim (le_or_lt a b) [
  | inl h ↦
      let e : b ≡ a + (b - a) = omega arith in
      subst (λ (x : ℕ). gap (a * u) (x * u) ≡ gap a x * u) (sym e) (scaled_more a (b - a))
  | inr h ↦
      let e : a ≡ b + (a - b) = omega arith in
      subst (λ (x : ℕ). gap (x * u) (b * u) ≡ gap x b * u) (sym e) (scaled_less b (a - b))
]
  where
    scaled_more : (m d : ℕ) → gap (m * u) ((m + d) * u) ≡ gap m (m + d) * u
    scaled_more m d = subst (λ (x : ℕ). gap (m * u) ((m + d) * u) ≡ x * u) (sym (gap_more m d)) (omega arith)

    scaled_less : (m d : ℕ) → gap ((m + d) * u) (m * u) ≡ gap (m + d) m * u
    scaled_less m d = subst (λ (x : ℕ). gap ((m + d) * u) (m * u) ≡ x * u) (sym (gap_less m d)) (omega arith)

-- the bound of rounding, with a common factor taken out
pub bound_scale : (r n u v : ℕ) → 0 < u → 2 ^ 53 * gap (r * (v * u)) (n * u) ≤ r * (v * u) + 2 ^ 52 * (v * u) → 2 ^ 53 * gap (r * v) n ≤ r * v + 2 ^ 52 * v
bound_scale r n u v U h =
    let e : r * (v * u) ≡ r * v * u = sym (mul_assoc r v u) in
    let s : gap (r * (v * u)) (n * u) ≡ gap (r * v) n * u = ap (λ (x : ℕ). gap x (n * u)) e ∙ gap_scale (r * v) n u in
    let k : 2 ^ 53 * (gap (r * v) n * u) ≤ r * (v * u) + 2 ^ 52 * (v * u) = subst (λ (x : ℕ). 2 ^ 53 * x ≤ r * (v * u) + 2 ^ 52 * (v * u)) s h in
    let l : (2 ^ 53 * gap (r * v) n) * u ≤ (r * v + 2 ^ 52 * v) * u = omega arith in
    le_of_mul-le-mul_right l U

-- ---- a sum of f64 is a whole number of units: n of them, rounded
pub half_to : (n : ℕ) → 2 ^ 53 * gap (rounded_to n) n ≤ rounded_to n + 2 ^ 52
half_to n = plain (rounded_to n) (2 ^ 1074) (pow_pos 1074) (unit_bound_lem (n * 2 ^ 1074) (2 ^ 1074) (pow_pos 1074))
  where
    plain : (r u : ℕ) → 0 < u → 2 ^ 53 * gap (r * u) (n * u) ≤ r * u + 2 ^ 52 * u → 2 ^ 53 * gap r n ≤ r + 2 ^ 52
    plain r u U h =
        let k : 2 ^ 53 * (gap r n * u) ≤ r * u + 2 ^ 52 * u = subst (λ (x : ℕ). 2 ^ 53 * x ≤ r * u + 2 ^ 52 * u) (gap_scale r n u) h in
        let l : (2 ^ 53 * gap r n) * u ≤ (r + 2 ^ 52) * u = omega arith in
        le_of_mul-le-mul_right l U

-- no f64 is nearer
pub near_to : (n : ℕ) (y : Float) → T (fits binary64 y) → T (finite y) → gap (rounded_to n) n ≤ gap (multiple y) n
near_to n y f h =
    let c = point y f h in
    let b = grid_near 53 (n * 2 ^ 1074) (2 ^ 1074) c.0 c.1 (lit< tt) (pow_pos 1074) c.2 in
    plain (rounded_to n) (multiple y) (2 ^ 1074) (pow_pos 1074)
    (subst (λ (m : ℕ). gap (rounded_to n * 2 ^ 1074) (n * 2 ^ 1074) ≤ gap (m * 2 ^ 1074) (n * 2 ^ 1074)) (sym c.3) b)
  where
    plain : (r m u : ℕ) → 0 < u → gap (r * u) (n * u) ≤ gap (m * u) (n * u) → gap r n ≤ gap m n
    plain r m u U h = le_of_mul-le-mul_right (subst (λ (x : ℕ). x ≤ gap m n * u) (gap_scale r n u) (subst (λ (x : ℕ). gap (r * u) (n * u) ≤ x)
        (gap_scale m n u) h)) U

-- what is not below an f64 is not rounded to below it
pub rounded_above : (n : ℕ) (y : Float) → T (fits binary64 y) → T (finite y) → multiple y ≤ n → multiple y ≤ rounded_to n
rounded_above n y f h l = omega (arith, near_to n y f h)

-- and rounding keeps the order: were the less rounded to more, both would lie half-way between the two results
pub rounded_order : (m n : ℕ) (x y : Float) → T (fits binary64 x) → T (finite x) → T (fits binary64 y) → T (finite y)
    → multiple x ≡ rounded_to m → multiple y ≡ rounded_to n → m ≤ n → multiple x ≤ multiple y
rounded_order m n x y fx hx fy hy ex ey l = elim (le_or_lt (multiple x) (multiple y)) [
  | inl h ↦ h
  | inr h ↦
      let a : gap (multiple x) m ≤ gap (multiple y) m = subst (λ (r : ℕ). gap r m ≤ gap (multiple y) m) (sym ex) (near_to m y fy hy) in
      let b : gap (multiple y) n ≤ gap (multiple x) n = subst (λ (r : ℕ). gap r n ≤ gap (multiple x) n) (sym ey) (near_to n x fx hx) in
      let same : m ≡ n = middle (multiple x) (multiple y) m n h l a b in
      let e : multiple x ≡ multiple y = ex ∙ ap rounded_to same ∙ sym ey in
      absurd (differ (multiple x) (multiple y) h e)
]
  where
    upper : (r q i : ℕ) → q < r → gap r i ≤ gap q i → r + q ≤ 2 * i
    upper r q i h a = omega arith

    lower : (r q j : ℕ) → q < r → gap q j ≤ gap r j → 2 * j ≤ r + q
    lower r q j h b = omega arith

    between : (r q i j : ℕ) → i ≤ j → r + q ≤ 2 * i → 2 * j ≤ r + q → i ≡ j
    between r q i j k a b = omega arith

    middle : (r q i j : ℕ) → q < r → i ≤ j → gap r i ≤ gap q i → gap q j ≤ gap r j → i ≡ j
    middle r q i j h k a b = between r q i j k (upper r q i h a) (lower r q j h b)

    differ : (r q : ℕ) → q < r → r ≡ q → ⊥
    differ r q h e = omega arith
