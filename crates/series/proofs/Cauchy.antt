-- The product of two series of positive terms: its terms, by the sum of the two powers, are those of the series of a + b.
use Prim.Native.Nat.{ℕ, zero, suc, ◌+◌, ◌-◌, ◌*◌, ◌≤◌, ◌<◌}
use native.Mathlib.Nat.{le_trans, le_of_lt, le_of_suc-le-suc, mul-add, add-mul, mul_assoc, mul_comm, mul_left_comm, mul-pos, mul-zero, zero-mul, add-zero}
use native.Mathlib.Nat.{zero-add, suc-add, sub-zero, sub_self, suc-sub-suc, eq_of_mul-eq-mul_left, zero-lt-suc, mul-le-mul_left, add-sub_of_le}
use native.Mathlib.Omega.{arith}
use mathlib.Core.Path.{◌≡◌, ap, ap₂, sym, ◌∙◌, subst}
use Rattle.series.proofs.Sums.{total, same, both, scaled, less, more, first}
use Rattle.series.proofs.Terms.{Terms, step, sorted}

-- the terms of the power k of a product
unfoldable pub cauchy : (ℕ → ℕ) → (ℕ → ℕ) → ℕ → ℕ
unfolding total
cauchy x y k = total (suc k) (λ i. x i * y (k - i))

-- all of the powers up to n
unfoldable pub triangle : (ℕ → ℕ) → (ℕ → ℕ) → ℕ → ℕ
unfolding total
triangle x y n = total (suc n) (λ i. x i * total (suc (n - i)) y)

suc_less : (n i : ℕ) → i < suc n → suc n - i ≡ suc (n - i)
suc_less n i l = omega arith

pub by_powers : (x y : ℕ → ℕ) (n : ℕ) → total (suc n) (cauchy x y) ≡ triangle x y n
unfolding triangle cauchy total
by_powers x y zero = simp zero-add
by_powers x y (suc n) =
    let before : total (suc n) (cauchy x y) ≡ triangle x y n = by_powers x y n in
    let rows : total (suc n) (λ i. x i * total (suc (suc n - i)) y) ≡ triangle x y n + total (suc n) (λ i. x i * y (suc n - i)) =
    same (suc n) (λ i. x i * total (suc (suc n - i)) y) (λ i. x i * total (suc (n - i)) y + x i * y (suc n - i))
    (λ i l. rw (suc_less n i l) (mul-add (x i) (total (suc (n - i)) y) (y (suc (n - i)))))
    ∙ both (suc n) (λ i. x i * total (suc (n - i)) y) (λ i. x i * y (suc n - i)) in
    let last : x (suc n) * total (suc (suc n - suc n)) y ≡ x (suc n) * y (suc n - suc n) =
    ap (λ (k : ℕ). x (suc n) * total (suc k) y) (sub_self (suc n)) ∙ ap (λ (k : ℕ). x (suc n) * k) (zero-add (y 0))
    ∙ ap (λ (k : ℕ). x (suc n) * y k) (sym (sub_self (suc n))) in
    omega (arith, before, rows, last)

-- ---- a row of the triangle is at most a row of the square, and a row of a square at most one of the triangle
pub within_square : (x y : ℕ → ℕ) (n : ℕ) → triangle x y n ≤ total (suc n) x * total (suc n) y
unfolding triangle
within_square x y n =
    let Y = total (suc n) y in
    subst (λ (k : ℕ). triangle x y n ≤ k)
    (same (suc n) (λ i. x i * Y) (λ i. Y * x i) (λ i l. mul_comm (x i) Y) ∙ scaled (suc n) Y x ∙ mul_comm Y (total (suc n) x))
    (less (suc n) (λ i. x i * total (suc (n - i)) y) (λ i. x i * Y) (λ i l. mul-le-mul_left (x i) (rows i l)))
  where
    rows : (i : ℕ) → i < suc n → total (suc (n - i)) y ≤ total (suc n) y
    rows i l = let e : suc (n - i) + i ≡ suc n = omega arith in subst (λ (k : ℕ). total (suc (n - i)) y ≤ total k y) e (more (suc (n - i)) i y)

pub holds_square : (x y : ℕ → ℕ) (n m : ℕ) → total (suc n) x * total (suc m) y ≤ triangle x y (n + m)
unfolding triangle
holds_square x y n m =
    let Y = total (suc m) y in
    le_trans
    (subst (λ (k : ℕ). k ≤ total (suc n) (λ i. x i * total (suc (n + m - i)) y))
    (same (suc n) (λ i. x i * Y) (λ i. Y * x i) (λ i l. mul_comm (x i) Y) ∙ scaled (suc n) Y x ∙ mul_comm Y (total (suc n) x))
    (less (suc n) (λ i. x i * Y) (λ i. x i * total (suc (n + m - i)) y) (λ i l. mul-le-mul_left (x i) (rows i l))))
    (subst (λ (k : ℕ). total (suc n) (λ i. x i * total (suc (n + m - i)) y) ≤ total k (λ i. x i * total (suc (n + m - i)) y)) (suc-add n m)
    (more (suc n) m (λ i. x i * total (suc (n + m - i)) y)))
  where
    rows : (i : ℕ) → i < suc n → total (suc m) y ≤ total (suc (n + m - i)) y
    rows i l = let e : suc m + (n - i) ≡ suc (n + m - i) = omega arith in subst (λ (k : ℕ). total (suc m) y ≤ total k y) e (more (suc m) (n - i) y)

-- ---- the terms of a product
module _ (a b d K : ℕ) (x y : ℕ → ℕ) (d-positive : 0 < d) (is_x : Terms a d K x) (is_y : Terms b d K y) where
  parted : (i j : ℕ) → d * (i + j) * (x i * y j) ≡ d * i * x i * y j + x i * (d * j * y j)
  parted i j = simp (mul-add, add-mul, sorted)

  lefts : (k i : ℕ) → k < K → i < suc k → d * suc i * x (suc i) * y (suc k - suc i) ≡ a * (x i * y (k - i))
  lefts k i h l = let l' : i < K = omega arith in rw (step a d K x d-positive is_x i l', suc-sub-suc) (mul_assoc a (x i) (y (k - i)))

  rights : (k i : ℕ) → k < K → i < suc k → x i * (d * (suc k - i) * y (suc k - i)) ≡ b * (x i * y (k - i))
  rights k i h l =
      let l' : k - i < K = omega arith in
      rw (suc_less k i l, step b d K y d-positive is_y (k - i) l') (mul_left_comm (x i) b (y (k - i)))

  pub cauchy_step : (k : ℕ) → k < K → d * suc k * cauchy x y (suc k) ≡ (a + b) * cauchy x y k
  unfolding cauchy total
  cauchy_step k h =
      let f : ℕ → ℕ = λ i. d * i * x i * y (suc k - i) in
      let g : ℕ → ℕ = λ i. x i * (d * (suc k - i) * y (suc k - i)) in
      let apart : d * suc k * cauchy x y (suc k) ≡ total (suc (suc k)) f + total (suc (suc k)) g =
      sym (scaled (suc (suc k)) (d * suc k) (λ i. x i * y (suc k - i)))
      ∙ same (suc (suc k)) (λ i. d * suc k * (x i * y (suc k - i))) (λ i. f i + g i)
      (λ i l. ap (λ (n : ℕ). d * n * (x i * y (suc k - i))) (sym (add-sub_of_le (le_of_suc-le-suc l))) ∙ parted i (suc k - i))
      ∙ both (suc (suc k)) f g in
      let left : total (suc (suc k)) f ≡ a * cauchy x y k =
      first (suc k) f
      ∙ ap₂ (λ (m n : ℕ). m + n) (simp (mul-zero, zero-mul))
      (same (suc k) (λ i. f (suc i)) (λ i. a * (x i * y (k - i))) (λ i l. lefts k i h l) ∙ scaled (suc k) a (λ i. x i * y (k - i)))
      ∙ zero-add (a * cauchy x y k) in
      let right : total (suc (suc k)) g ≡ b * cauchy x y k =
      ap₂ (λ (m n : ℕ). m + n) (same (suc k) g (λ i. b * (x i * y (k - i))) (λ i l. rights k i h l) ∙ scaled (suc k) b (λ i. x i * y (k - i)))
      (rw (sub_self (suc k)) (simp (mul-zero, zero-mul)))
      ∙ add-zero (b * cauchy x y k) in
      apart ∙ ap₂ (λ (m n : ℕ). m + n) left right ∙ sym (add-mul a b (cauchy x y k))

  -- and they are the terms of a + b
  pub cauchy_terms : (z : ℕ → ℕ) → Terms (a + b) d K z → (k : ℕ) → k ≤ K → z 0 * cauchy x y k ≡ x 0 * y 0 * z k
  unfolding cauchy total
  cauchy_terms z is_z zero l = simp (zero-add, sub-zero, sorted)
  cauchy_terms z is_z (suc k) l =
      eq_of_mul-eq-mul_left (d * suc k) (mul-pos d-positive (zero-lt-suc k)) (z 0 * cauchy x y (suc k)) (x 0 * y 0 * z (suc k))
      (mul_left_comm (d * suc k) (z 0) (cauchy x y (suc k))
      ∙ ap (λ (n : ℕ). z 0 * n) (cauchy_step k l)
      ∙ mul_left_comm (z 0) (a + b) (cauchy x y k)
      ∙ ap (λ (n : ℕ). (a + b) * n) (cauchy_terms z is_z k (le_of_lt l))
      ∙ mul_left_comm (a + b) (x 0 * y 0) (z k)
      ∙ ap (λ (n : ℕ). x 0 * y 0 * n) (sym (step (a + b) d K z d-positive is_z k l))
      ∙ mul_left_comm (x 0 * y 0) (d * suc k) (z (suc k)))
