-- How far rounding to 53 binary digits can go: a result lies within 2^-53 of itself of what was rounded, or within half of the smallest f64 above zero.
use Prim.Native.Nat.{ℕ, zero, suc, ◌+◌, ◌*◌, ◌/◌, ◌%◌, ◌^◌, ◌≤◌, ◌<◌, compare}
use native.Mathlib.Nat.{le_trans, le_of_eq, mul-pos, mul-one, mul_assoc, mul_right_comm, mul-le-mul_right, mod-lt, div-add-mod'}
use native.Mathlib.Nat.{le-div_iff_mul-le, div-div-eq-div-mul}
use native.Mathlib.Omega.{arith}
use mathlib.Core.Path.{◌≡◌, refl, sym, ap, ◌∙◌, subst}
use lib.Pow.{pow-add, pow_pos}
use lib.Ieee.{size}
use lib.Ieee.Digits.{size_reaches}
use lib.Ieee.Nearest.{closest, nearest-ge}
use lib.Ieee.Order.{drop, kept}
use Rattle.ieee.proofs.RoundingWhole.{gap, closest_near}

-- a whole number nearest to a / b is at most a half away
half : (a b : ℕ) → 0 < b → 2 * gap (closest a b * b) a ≤ b
half a b B =
    let lower = closest_near a b (a / b) B in
    let upper = closest_near a b (suc (a / b)) B in
    omega (arith, lower, upper, div-add-mod' a b, mod-lt a B)

-- where digits are dropped, all 53 of those that are kept are in use
kept_all : (n den : ℕ) → 0 < drop 53 n den → 2 ^ 52 ≤ kept 53 n den
kept_all n den K =
    let k = drop 53 n den in
    let u = den * 2 ^ k in
    let w = n / den in
    let deep : 52 + k < size w = omega arith in
    let a : 2 ^ 52 * 2 ^ k ≤ w = le_trans (le_of_eq (sym (pow-add 2 52 k))) (size_reaches w (52 + k) deep) in
    le_trans (subst (λ (x : ℕ). 2 ^ 52 ≤ x) (div-div-eq-div-mul n den (2 ^ k)) ((le-div_iff_mul-le (pow_pos k)).1 a)) (nearest-ge (n / u) (compare
    (n % u * 2) u))

-- gap is what the result is away, in units of 1 / den
by_digits : (q w den g : ℕ) → 2 * g ≤ den * w → 2 ^ 52 ≤ q → 2 ^ 53 * g ≤ q * w * den + 2 ^ 52 * den
by_digits q w den g h l =
    let more : 2 ^ 52 * (den * w) ≤ q * (den * w) = mul-le-mul_right (den * w) l in
    omega arith

pub unit_bound_lem : (n den : ℕ) → 0 < den
    → 2 ^ 53 * gap (kept 53 n den * 2 ^ drop 53 n den * den) n ≤ kept 53 n den * 2 ^ drop 53 n den * den + 2 ^ 52 * den
unit_bound_lem n den D = go (drop 53 n den) refl
  where
    g : ℕ
    g = gap (kept 53 n den * 2 ^ drop 53 n den * den) n

    near : 2 * g ≤ den * 2 ^ drop 53 n den
    near =
        let k = drop 53 n den in
        subst (λ (x : ℕ). 2 * gap x n ≤ den * 2 ^ k) (sym (mul_right_comm (kept 53 n den) (2 ^ k) den ∙ mul_assoc (kept 53 n den) den (2 ^ k)))
        (half n (den * 2 ^ k) (mul-pos D (pow_pos k)))

    go : (k : ℕ) → drop 53 n den ≡ k → 2 ^ 53 * g ≤ kept 53 n den * 2 ^ drop 53 n den * den + 2 ^ 52 * den
    go zero e =
        let one : den * 2 ^ drop 53 n den ≡ den = ap (λ (j : ℕ). den * 2 ^ j) e ∙ mul-one den in
        omega (arith, near)
    go (suc k) e = by_digits (kept 53 n den) (2 ^ drop 53 n den) den g near (kept_all n den (omega arith))
