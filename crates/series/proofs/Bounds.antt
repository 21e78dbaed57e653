-- A fraction below e^−u, and one above it: held to the sums of positive terms, where products are easy, and to the alternating sums, by which the statements
-- are made; each leads to the other. So every lower sum is below every upper one.
use Prim.Native.Nat.{ℕ, zero, suc, ◌+◌, ◌*◌, ◌≤◌, ◌<◌}
use native.Mathlib.Nat.{le_refl, le_trans, le_dest, mul-add, add-mul, mul_assoc, mul_comm, mul-le-mul_left, mul-le-mul_right, le_of_mul-le-mul_right}
use native.Mathlib.Omega.{arith}
use mathlib.Core.Path.{◌≡◌, ap, ap₂, sym, ◌∙◌, subst}
use mathlib.Core.Bool.{true, false}
use Rattle.series.specs.Series.{even, over, added, taken, all}
use Rattle.series.proofs.Terms.{over_positive, sorted}
use Rattle.series.proofs.Squares.{even_square, odd_square}
use Rattle.series.proofs.Steps.{under_before, above_after, onward, onward_odd, onward_far, climb, descend, all_next}

-- c / q times every sum of positive terms is at most 1: c / q is at most e^−(a/d)
abbrev pub Under : ℕ → ℕ → ℕ → ℕ → Type 0
Under a d c q = (n : ℕ) → c * all a d n ≤ q * over d n

-- c / q times some sum of positive terms is at least 1: c / q is at least e^−(a/d)
pub record Above (a d c q : ℕ) : Type 0 where
  pub power : ℕ
  pub enough : q * over d power ≤ c * all a d power

-- ---- from one kind of sum to the other: with o, p and m the parts of the sums, (c·o + q·m)·(p + m) beside q·p·(p + m)
module _ (c q o p m : ℕ) where
  left : (c * o + q * m) * (p + m) ≡ c * (p + m) * o + (q * (m * p) + q * (m * m))
  left =
      let e : c * o * (p + m) ≡ c * (p + m) * o = simp sorted in
      add-mul (c * o) (q * m) (p + m) ∙ ap₂ (λ (u v : ℕ). u + v) e (mul_assoc q m (p + m) ∙ ap (λ (k : ℕ). q * k) (mul-add m p m) ∙ mul-add q (m * p) (m * m))

  right : q * p * (p + m) ≡ q * (p * p) + q * (m * p)
  right = mul_assoc q p (p + m) ∙ ap (λ (k : ℕ). q * k) (mul-add p p m ∙ ap (λ (k : ℕ). p * p + k) (mul_comm p m)) ∙ mul-add q (p * p) (m * p)

  parts : (u v w : ℕ) → u + v ≤ w → q * u + q * v ≤ q * w
  parts u v w h = subst (λ (k : ℕ). k ≤ q * w) (mul-add q u v) (mul-le-mul_left q h)

  even_under : 0 < p + m → o * o + m * m ≤ p * p → c * (p + m) ≤ q * o → c * o + q * m ≤ q * p
  even_under positive s h =
      let s' : q * (o * o) + q * (m * m) ≤ q * (p * p) = parts (o * o) (m * m) (p * p) s in
      let h' : c * (p + m) * o ≤ q * (o * o) = subst (λ (k : ℕ). c * (p + m) * o ≤ k) (mul_assoc q o o) (mul-le-mul_right o h) in
      le_of_mul-le-mul_right (omega (arith, left, right)) positive

  even_above : 0 < o → o * o + m * m ≤ p * p → q * p ≤ c * o + q * m → q * o ≤ c * (p + m)
  even_above positive s h =
      let s' : q * (o * o) + q * (m * m) ≤ q * (p * p) = parts (o * o) (m * m) (p * p) s in
      let h' : q * p * (p + m) ≤ (c * o + q * m) * (p + m) = mul-le-mul_right (p + m) h in
      le_of_mul-le-mul_right (subst (λ (k : ℕ). k ≤ c * (p + m) * o) (sym (mul_assoc q o o)) (omega (arith, left, right))) positive

  odd_under : 0 < o → p * p ≤ o * o + m * m → c * o + q * m ≤ q * p → c * (p + m) ≤ q * o
  odd_under positive s h =
      let s' : q * (p * p) ≤ q * (o * o) + q * (m * m) = subst (λ (k : ℕ). q * (p * p) ≤ k) (mul-add q (o * o) (m * m)) (mul-le-mul_left q s) in
      let h' : (c * o + q * m) * (p + m) ≤ q * p * (p + m) = mul-le-mul_right (p + m) h in
      le_of_mul-le-mul_right (subst (λ (k : ℕ). c * (p + m) * o ≤ k) (sym (mul_assoc q o o)) (omega (arith, left, right))) positive

  odd_above : 0 < p + m → p * p ≤ o * o + m * m → q * o ≤ c * (p + m) → q * p ≤ c * o + q * m
  odd_above positive s h =
      let s' : q * (p * p) ≤ q * (o * o) + q * (m * m) = subst (λ (k : ℕ). q * (p * p) ≤ k) (mul-add q (o * o) (m * m)) (mul-le-mul_left q s) in
      let h' : q * (o * o) ≤ c * (p + m) * o = subst (λ (k : ℕ). k ≤ c * (p + m) * o) (mul_assoc q o o) (mul-le-mul_right o h) in
      le_of_mul-le-mul_right (omega (arith, left, right)) positive

over_all : (a d n : ℕ) → over d n ≤ all a d n
unfolding over added taken
over_all a d zero = le_refl 1
over_all a d (suc n) =
    let h : over d n * (d * suc n) ≤ all a d n * (d * suc n) = mul-le-mul_right (d * suc n) (over_all a d n) in
    omega (arith, all_next a d n)

module _ (a d c q : ℕ) (d-positive : 0 < d) where
  positive : (n : ℕ) → 0 < all a d n
  positive n = le_trans (over_positive d n d-positive) (over_all a d n)

  -- ---- from the definitions' sums, one of each kind
  pub from_lower : (n : ℕ) → even n ≡ false → a < n * d → c * over d n + q * taken a d n ≤ q * added a d n → Under a d c q
  from_lower n odd h l m =
      let N = onward n m in
      let far = le_dest (onward_far n m).1 in
      under_before a d c q d-positive m far.0
      (subst (λ (k : ℕ). c * all a d k ≤ q * over d k) (sym far.1)
      (odd_under c q (over d N) (added a d N) (taken a d N) (over_positive d N d-positive) (odd_square a d N d-positive (onward_odd n m odd))
      (climb a d c q d-positive n m odd h l)))

  pub from_upper : (n : ℕ) → even n ≡ true → q * added a d n ≤ c * over d n + q * taken a d n → Above a d c q
  from_upper n ev l =
      record {
        power = n;
        enough = even_above c q (over d n) (added a d n) (taken a d n) (over_positive d n d-positive) (even_square a d n d-positive ev) l;
      }

  -- ---- to all of the definitions' sums
  pub to_upper : Under a d c q → (n : ℕ) → even n ≡ true → c * over d n + q * taken a d n ≤ q * added a d n
  to_upper u n ev = even_under c q (over d n) (added a d n) (taken a d n) (positive n) (even_square a d n d-positive ev) (u n)

  pub to_lower : Above a d c q → (n : ℕ) → even n ≡ false → a < n * d → q * added a d n ≤ c * over d n + q * taken a d n
  to_lower u n odd h =
      let N = onward n u.power in
      let far = le_dest (onward_far n u.power).1 in
      descend a d c q d-positive n u.power odd h
      (odd_above c q (over d N) (added a d N) (taken a d N) (positive N) (odd_square a d N d-positive (onward_odd n u.power odd))
      (subst (λ (k : ℕ). q * over d k ≤ c * all a d k) far.1 (above_after a d c q d-positive u.power far.0 u.enough)))
