-- The terms u^i / i! of the series for u = a / d, in one unit for all of them up to the power K: whole numbers x i with x i / x 0 = u^i / i!.
use Prim.Native.Nat.{ℕ, zero, suc, ◌+◌, ◌-◌, ◌*◌, ◌^◌, ◌≤◌, ◌<◌}
use native.Mathlib.Nat.{le_of_lt, le_of_suc-le, mul-add, mul_assoc, mul_comm, mul_left_comm, mul-pos, one-mul, mul-one, mul-zero, zero-mul, add-zero, add-suc}
use native.Mathlib.Nat.{zero-add, sub-zero, add-sub_of_le, pow-suc, pow-zero, eq_of_mul-eq-mul_left, zero-lt-suc}
use mathlib.Core.Path.{◌≡◌, ap, ap₂, sym, ◌∙◌, subst}
use mathlib.Core.Bool.{Bool, true, false, cond}
use Rattle.series.specs.Series.{even, over, added, taken}
use Rattle.series.proofs.Sums.{total, same, both}

-- products in one order
pub ruleset sorted = (mul_assoc, mul_comm, mul_left_comm)

pub over_positive : (d n : ℕ) → 0 < d → 0 < over d n
unfolding over
over_positive d zero h = zero-lt-suc 0
over_positive d (suc n) h = mul-pos (over_positive d n h) (mul-pos h (zero-lt-suc n))

pub record Terms (a d K : ℕ) (x : ℕ → ℕ) : Type 0 where
  pub unit : 0 < x 0
  pub term : (i : ℕ) → i ≤ K → over d i * x i ≡ a ^ i * x 0

-- d·(i + 1) · d·(i + 2) · .. · d·(i + j), which leads from d^i·i! to d^(i+j)·(i+j)!
rest : ℕ → ℕ → ℕ → ℕ
rest d i zero = 1
rest d i (suc j) = rest d i j * (d * suc (i + j))

rest_over : (d i j : ℕ) → over d i * rest d i j ≡ over d (i + j)
unfolding rest over
rest_over d i zero = rw (mul-one, add-zero)
rest_over d i (suc j) = rw (← mul_assoc, rest_over d i j, add-suc)

-- there are such numbers
unfoldable pub terms : ℕ → ℕ → ℕ → ℕ → ℕ
unfolding rest
terms a d K i = a ^ i * rest d i (K - i)

pub are_terms : (a d K : ℕ) → 0 < d → Terms a d K (terms a d K)
unfolding terms over
are_terms a d K h =
    let start : terms a d K 0 ≡ over d K = rw (pow-zero, one-mul, sub-zero) (sym (one-mul (rest d 0 K)) ∙ rest_over d 0 K ∙ ap (over d) (zero-add K)) in
    record {
      unit = subst (λ (n : ℕ). 0 < n) (sym start) (over_positive d K h);
      term = λ i l. mul_left_comm (over d i) (a ^ i) (rest d i (K - i))
          ∙ ap (λ (n : ℕ). a ^ i * n) (rest_over d i (K - i) ∙ ap (over d) (add-sub_of_le l) ∙ sym start);
    }

-- the terms of the even powers up to n, and those of the odd ones
abbrev pub evens : (ℕ → ℕ) → ℕ → ℕ
evens x n = total (suc n) (λ i. cond (even i) (x i) 0)

abbrev pub odds : (ℕ → ℕ) → ℕ → ℕ
odds x n = total (suc n) (λ i. cond (even i) 0 (x i))

module _ (a d K : ℕ) (x : ℕ → ℕ) (d-positive : 0 < d) (is : Terms a d K x) where
  -- from a term to the next
  pub step : (i : ℕ) → i < K → d * suc i * x (suc i) ≡ a * x i
  unfolding over
  step i l =
      eq_of_mul-eq-mul_left (over d i) (over_positive d i d-positive) (d * suc i * x (suc i)) (a * x i)
      (sym (mul_assoc (over d i) (d * suc i) (x (suc i)))
      ∙ is.term (suc i) l
      ∙ ap (λ (n : ℕ). n * x 0) (pow-suc a i ∙ mul_comm (a ^ i) a)
      ∙ mul_assoc a (a ^ i) (x 0)
      ∙ ap (λ (n : ℕ). a * n) (sym (is.term i (le_of_lt l)))
      ∙ mul_left_comm a (over d i) (x i))

  -- in the units of the definitions
  next : (g o p e t v : ℕ) → x 0 * p ≡ o * e → o * g * t ≡ v * x 0 → x 0 * (p * g + v) ≡ o * g * (e + t)
  next g o p e t v h k =
      let h' : x 0 * (p * g) ≡ o * g * e = sym (mul_assoc (x 0) p g) ∙ ap (λ (n : ℕ). n * g) h ∙ simp sorted in
      mul-add (x 0) (p * g) v ∙ ap₂ (λ (m n : ℕ). m + n) h' (mul_comm (x 0) v ∙ sym k) ∙ sym (mul-add (o * g) e t)

  none : (o : ℕ) → o * 0 ≡ 0 * x 0
  none o = mul-zero o ∙ sym (zero-mul (x 0))

  pub added_sum : (n : ℕ) → n ≤ K → x 0 * added a d n ≡ over d n * evens x n
  unfolding added over total
  added_sum zero l = simp (mul-one, one-mul, zero-add)
  added_sum (suc n) l =
      next (d * suc n) (over d n) (added a d n) (evens x n) (cond (even (suc n)) (x (suc n)) 0) (cond (even (suc n)) (a ^ suc n) 0)
      (added_sum n (le_of_suc-le l))
      (go (even (suc n)))
    where
      go : (b : Bool) → over d (suc n) * cond b (x (suc n)) 0 ≡ cond b (a ^ suc n) 0 * x 0
      go true = is.term (suc n) l
      go false = none (over d (suc n))

  pub taken_sum : (n : ℕ) → n ≤ K → x 0 * taken a d n ≡ over d n * odds x n
  unfolding taken over total
  taken_sum zero l = simp (mul-zero, zero-add)
  taken_sum (suc n) l =
      next (d * suc n) (over d n) (taken a d n) (odds x n) (cond (even (suc n)) 0 (x (suc n))) (cond (even (suc n)) 0 (a ^ suc n))
      (taken_sum n (le_of_suc-le l))
      (go (even (suc n)))
    where
      go : (b : Bool) → over d (suc n) * cond b 0 (x (suc n)) ≡ cond b 0 (a ^ suc n) * x 0
      go true = none (over d (suc n))
      go false = is.term (suc n) l

  -- and all of them
  pub all_sum : (n : ℕ) → n ≤ K → x 0 * (added a d n + taken a d n) ≡ over d n * total (suc n) x
  all_sum n l =
      mul-add (x 0) (added a d n) (taken a d n)
      ∙ ap₂ (λ (p q : ℕ). p + q) (added_sum n l) (taken_sum n l)
      ∙ sym (mul-add (over d n) (evens x n) (odds x n))
      ∙ ap (λ (k : ℕ). over d n * k)
      (sym (both (suc n) (λ i. cond (even i) (x i) 0) (λ i. cond (even i) 0 (x i)))
      ∙ same (suc n) (λ i. cond (even i) (x i) 0 + cond (even i) 0 (x i)) x (λ i h. one (even i) (x i)))
    where
      one : (b : Bool) (v : ℕ) → cond b v 0 + cond b 0 v ≡ v
      one true v = add-zero v
      one false v = zero-add v
