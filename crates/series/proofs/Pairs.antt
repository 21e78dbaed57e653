-- The product of two terms of one series is a whole multiple of the term of the sum of their powers.
use Prim.Native.Nat.{ℕ, zero, suc, ◌+◌, ◌*◌, ◌^◌, ◌≤◌, ◌<◌}
use native.Mathlib.Nat.{le_trans, le-add_right, le-add_left, mul-add, add-mul, mul_comm, mul-pos, mul-one, one-mul, add-zero, zero-add, add-suc, suc-add}
use native.Mathlib.Nat.{add_comm, eq_of_mul-eq-mul_left, eq_of_mul-eq-mul_right, zero-lt-suc}
use mathlib.Core.Path.{◌≡◌, ap, ap₂, sym, ◌∙◌}
use lib.Pow.{pow-add}
use Rattle.series.specs.Series.{over}
use Rattle.series.proofs.Terms.{Terms, over_positive, sorted}

-- (i + j)! / (i!·j!), by Pascal's rule
unfoldable pub pascal : (ℕ → ℕ) → ℕ → ℕ
pascal row zero = 1
pascal row (suc j) = row (suc j) + pascal row j

unfoldable pub choose : ℕ → ℕ → ℕ
unfolding pascal
choose zero j = 1
choose (suc i) j = pascal (choose i) j

onto : (c o p g : ℕ) → c * (o * p) * g ≡ c * (o * g * p)
onto c o p g = simp sorted

onto' : (c o p g : ℕ) → c * (o * p) * g ≡ c * (o * (p * g))
onto' c o p g = simp sorted

pub over_choose : (d i j : ℕ) → over d (i + j) ≡ choose i j * (over d i * over d j)
unfolding choose over
over_choose d zero j = ap (over d) (zero-add j) ∙ simp one-mul
over_choose d (suc i) zero = ap (over d) (add-zero (suc i)) ∙ simp (one-mul, mul-one)
over_choose d (suc i) (suc j) =
    let W = over d (i + suc j) in
    let left : W ≡ choose i (suc j) * (over d i * over d (suc j)) = over_choose d i (suc j) in
    let right : W ≡ choose (suc i) j * (over d (suc i) * over d j) = ap (over d) (add-suc i j ∙ sym (suc-add i j)) ∙ over_choose d (suc i) j in
    ap (over d) (suc-add i (suc j))
    ∙ ap (λ (n : ℕ). W * (d * n)) (sym (suc-add i (suc j)))
    ∙ ap (λ (n : ℕ). W * n) (mul-add d (suc i) (suc j))
    ∙ mul-add W (d * suc i) (d * suc j)
    ∙ ap₂ (λ (m n : ℕ). m + n)
    (ap (λ (n : ℕ). n * (d * suc i)) left ∙ onto (choose i (suc j)) (over d i) (over d (suc j)) (d * suc i))
    (ap (λ (n : ℕ). n * (d * suc j)) right ∙ onto' (choose (suc i) j) (over d (suc i)) (over d j) (d * suc j))
    ∙ sym (add-mul (choose i (suc j)) (choose (suc i) j) (over d (suc i) * over d (suc j)))

pub choose_back : (i j : ℕ) → choose i j ≡ choose j i
choose_back i j =
    eq_of_mul-eq-mul_right (over 1 i * over 1 j) (mul-pos (over_positive 1 i (zero-lt-suc 0)) (over_positive 1 j (zero-lt-suc 0))) (choose i j) (choose j i)
    (sym (over_choose 1 i j) ∙ ap (over 1) (add_comm i j) ∙ over_choose 1 j i ∙ ap (λ (n : ℕ). choose j i * n) (mul_comm (over 1 j) (over 1 i)))

module _ (a d K : ℕ) (x : ℕ → ℕ) (d-positive : 0 < d) (is : Terms a d K x) where
  pub pair : (i j : ℕ) → i + j ≤ K → x i * x j ≡ choose i j * (x 0 * x (i + j))
  pair i j l =
      let o = over d i * over d j in
      eq_of_mul-eq-mul_left o (mul-pos (over_positive d i d-positive) (over_positive d j d-positive)) (x i * x j) (choose i j * (x 0 * x (i + j)))
      (swap (over d i) (over d j) (x i) (x j)
      ∙ ap₂ (λ (m n : ℕ). m * n) (is.term i (le_trans (le-add_right i j) l)) (is.term j (le_trans (le-add_left j i) l))
      ∙ swap' (a ^ i) (a ^ j) (x 0)
      ∙ ap (λ (n : ℕ). n * x 0 * x 0) (sym (pow-add a i j))
      ∙ ap (λ (n : ℕ). n * x 0) (sym (is.term (i + j) l))
      ∙ ap (λ (n : ℕ). n * x (i + j) * x 0) (over_choose d i j)
      ∙ swap'' (choose i j) o (x (i + j)) (x 0))
    where
      swap : (p q r s : ℕ) → p * q * (r * s) ≡ p * r * (q * s)
      swap p q r s = simp sorted

      swap' : (p q r : ℕ) → p * r * (q * r) ≡ p * q * r * r
      swap' p q r = simp sorted

      swap'' : (p q r s : ℕ) → p * q * r * s ≡ q * (p * (s * r))
      swap'' p q r s = simp sorted
