-- The functional equation for sums of positive terms, E_n(u) = 1 + u + u²/2 + .. + u^n/n!, with no rest to bound: E_n(a + b) ≤ E_n(a)·E_n(b), and
-- E_n(a)·E_m(b) ≤ E_(n+m)(a + b). Numbers are over d.
use Prim.Native.Nat.{ℕ, suc, ◌+◌, ◌*◌, ◌≤◌, ◌<◌}
use native.Mathlib.Nat.{le_refl, le_of_suc-le-suc, le-add_right, le-add_left, mul_assoc, mul_left_comm, mul-pos, mul-le-mul_left, le_of_mul-le-mul_left}
use mathlib.Core.Path.{◌≡◌, ap, ap₂, sym, ◌∙◌, subst₂}
use Rattle.series.specs.Series.{over, all}
use Rattle.series.proofs.Sums.{total, same, scaled}
use Rattle.series.proofs.Terms.{Terms, terms, are_terms, all_sum, sorted}
use Rattle.series.proofs.Cauchy.{cauchy, triangle, by_powers, within_square, holds_square, cauchy_terms}

-- the terms of a + b are the triangle, in other units
triangle_terms : (a b d K : ℕ) (x y z : ℕ → ℕ) → 0 < d → Terms a d K x → Terms b d K y → Terms (a + b) d K z
    → x 0 * y 0 * total (suc K) z ≡ z 0 * triangle x y K
triangle_terms a b d K x y z h is_x is_y is_z =
    sym (scaled (suc K) (x 0 * y 0) z)
    ∙ same (suc K) (λ k. x 0 * y 0 * z k) (λ k. z 0 * cauchy x y k) (λ k l. sym (cauchy_terms a b d K x y h is_x is_y z is_z k (le_of_suc-le-suc l)))
    ∙ scaled (suc K) (z 0) (cauchy x y)
    ∙ ap (λ (k : ℕ). z 0 * k) (by_powers x y K)

-- from the units of three lists of terms to those of the definitions
module _ (X Y Z sa sb sc Tx Ty Tz tri : ℕ) (X-positive : 0 < X) (Y-positive : 0 < Y) (Z-positive : 0 < Z) (product : X * Y * Tz ≡ Z * tri) where
  positive : 0 < X * Y * Z
  positive = mul-pos (mul-pos X-positive Y-positive) Z-positive

  factors : (n m : ℕ) → X * sa ≡ n * Tx → Y * sb ≡ m * Ty → X * Y * Z * (sa * sb) ≡ n * m * (Z * (Tx * Ty))
  factors n m ea eb =
      let apart : X * Y * Z * (sa * sb) ≡ Z * (X * sa * (Y * sb)) = simp sorted in
      apart ∙ ap₂ (λ (p q : ℕ). Z * (p * q)) ea eb ∙ simp sorted

  sum : (k : ℕ) → Z * sc ≡ k * Tz → X * Y * Z * sc ≡ k * (Z * tri)
  sum k ec =
      let apart : X * Y * Z * sc ≡ X * Y * (Z * sc) = mul_assoc (X * Y) Z sc in
      apart ∙ ap (λ (p : ℕ). X * Y * p) ec ∙ mul_left_comm (X * Y) k Tz ∙ ap (λ (p : ℕ). k * p) product

  under : (o : ℕ) → X * sa ≡ o * Tx → Y * sb ≡ o * Ty → Z * sc ≡ o * Tz → tri ≤ Tx * Ty → o * sc ≤ sa * sb
  under o ea eb ec h =
      le_of_mul-le-mul_left
      (subst₂ (λ (p q : ℕ). p ≤ q)
      (sym (mul_left_comm (X * Y * Z) o sc ∙ ap (λ (p : ℕ). o * p) (sum o ec) ∙ sym (mul_assoc o o (Z * tri))))
      (sym (factors o o ea eb))
      (mul-le-mul_left (o * o) (mul-le-mul_left Z h)))
      positive

  above : (k n m : ℕ) → X * sa ≡ n * Tx → Y * sb ≡ m * Ty → Z * sc ≡ k * Tz → Tx * Ty ≤ tri → k * (sa * sb) ≤ n * m * sc
  above k n m ea eb ec h =
      le_of_mul-le-mul_left
      (subst₂ (λ (p q : ℕ). p ≤ q)
      (sym (mul_left_comm (X * Y * Z) k (sa * sb) ∙ ap (λ (p : ℕ). k * p) (factors n m ea eb) ∙ mul_left_comm k (n * m) (Z * (Tx * Ty))))
      (sym (mul_left_comm (X * Y * Z) (n * m) sc ∙ ap (λ (p : ℕ). n * m * p) (sum k ec)))
      (mul-le-mul_left (n * m) (mul-le-mul_left k (mul-le-mul_left Z h))))
      positive

pub product_under : (a b d n : ℕ) → 0 < d → over d n * all (a + b) d n ≤ all a d n * all b d n
product_under a b d n h =
    let is_x = are_terms a d n h in
    let is_y = are_terms b d n h in
    let is_z = are_terms (a + b) d n h in
    let x = terms a d n in
    let y = terms b d n in
    let z = terms (a + b) d n in
    under (x 0) (y 0) (z 0) (all a d n) (all b d n) (all (a + b) d n) (total (suc n) x) (total (suc n) y) (total (suc n) z) (triangle x y n)
    is_x.unit is_y.unit is_z.unit (triangle_terms a b d n x y z h is_x is_y is_z) (over d n)
    (all_sum a d n x h is_x n (le_refl n)) (all_sum b d n y h is_y n (le_refl n)) (all_sum (a + b) d n z h is_z n (le_refl n)) (within_square x y n)

pub product_over : (a b d n m : ℕ) → 0 < d → over d (n + m) * (all a d n * all b d m) ≤ over d n * over d m * all (a + b) d (n + m)
product_over a b d n m h =
    let K = n + m in
    let is_x = are_terms a d K h in
    let is_y = are_terms b d K h in
    let is_z = are_terms (a + b) d K h in
    let x = terms a d K in
    let y = terms b d K in
    let z = terms (a + b) d K in
    above (x 0) (y 0) (z 0) (all a d n) (all b d m) (all (a + b) d K) (total (suc n) x) (total (suc m) y) (total (suc K) z) (triangle x y K)
    is_x.unit is_y.unit is_z.unit (triangle_terms a b d K x y z h is_x is_y is_z) (over d K) (over d n) (over d m)
    (all_sum a d K x h is_x n (le-add_right n m)) (all_sum b d K y h is_y m (le-add_left m n)) (all_sum (a + b) d K z h is_z K (le_refl K))
    (holds_square x y n m)
