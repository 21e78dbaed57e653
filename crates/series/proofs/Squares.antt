-- The alternating sum that ends at the power n times the sum of the positive terms, (added − taken)·(added + taken), is at least 1 for an even n and at most 1
-- for an odd one: with P and M the two parts, P² − M² differs from 1 by terms of one sign. For every u, and with no limit.
use Prim.Native.Nat.{ℕ, zero, suc, ◌+◌, ◌*◌, ◌≤◌, ◌<◌}
use native.Mathlib.Nat.{le_refl, le_of_mul-le-mul_left, le-add_right, mul-add, add-mul, mul_assoc, mul_comm, mul-pos, mul-zero, zero-mul, two-mul, add-zero}
use native.Mathlib.Nat.{zero-add}
use native.Mathlib.Omega.{arith}
use mathlib.Core.Path.{◌≡◌, refl, ap, ap₂, sym, ◌∙◌, subst}
use mathlib.Core.Bool.{Bool, true, false, not, cond, beq}
use Rattle.series.specs.Series.{even, over, added, taken}
use Rattle.series.proofs.Sums.{total, same, both, scaled, first}
use Rattle.series.proofs.Terms.{Terms, terms, are_terms, evens, odds, added_sum, taken_sum, sorted}
use Rattle.series.proofs.Pairs.{choose, choose_back, pair, pascal}

-- 2 for powers of different parity, and 0 for others
abbrev weight : Bool → Bool → ℕ
weight p q = cond (beq p q) 0 2

weight_same : (p : Bool) → weight p p ≡ 0
weight_same true = refl
weight_same false = refl

weight_next : (p : Bool) → weight p (not p) ≡ 2
weight_next true = refl
weight_next false = refl

weight_moved : (p q : Bool) → weight (not p) q ≡ weight p (not q)
weight_moved true true = refl
weight_moved true false = refl
weight_moved false true = refl
weight_moved false false = refl

spread : (w c e v : ℕ) → w * ((c + e) * v) ≡ w * (c * v) + w * (e * v)
spread w c e v = ap (λ (k : ℕ). w * k) (add-mul c e v) ∙ mul-add w (c * v) (e * v)

twice : (v t : ℕ) → 2 * (v * t) ≡ 2 * t * v
twice v t = ap (λ (k : ℕ). 2 * k) (mul_comm v t) ∙ sym (mul_assoc 2 t v)

square_of : (m t : ℕ) → (m + t) * (m + t) ≡ m * m + 2 * t * m + t * t
square_of m t = rw (add-mul, mul-add m m t, mul-add t m t, mul_assoc 2 t m, mul_comm m t) (omega arith)

-- what P² − M² differs by
unfoldable difference : (ℕ → ℕ) → ℕ → ℕ
unfolding total
difference x n = total n (λ i. weight (even i) (even n) * (choose i n * (x 0 * x (i + suc n))))

-- P² = 1 + M² + the difference where n is even, and P² + the difference = 1 + M² where n is odd
abbrev Differ : (ℕ → ℕ) → Bool → ℕ → ℕ → ℕ → Type 0
Differ x b P M D = cond b (P * P ≡ x 0 * x 0 + M * M + D) (P * P + D ≡ x 0 * x 0 + M * M)

module _ (a d K : ℕ) (x : ℕ → ℕ) (d-positive : 0 < d) (is : Terms a d K x) where
  X : ℕ → ℕ
  X k = x 0 * x k

  -- the terms by Pascal's rule
  rise : (n : ℕ) → suc n + suc n ≤ K
      → difference x n + difference x (suc n) ≡ total (suc n) (λ i. weight (even i) (even n) * (x i * x (suc n))) + x (suc n) * x (suc n)
  unfolding difference choose pascal total X
  rise n l =
      let w : ℕ → ℕ = λ i. weight (even i) (even n) in
      let w' : ℕ → ℕ = λ i. weight (even i) (even (suc n)) in
      let R : ℕ → ℕ = λ i. w i * (choose i (suc n) * X (i + suc n)) in
      let A : ℕ → ℕ = λ i. w i * (choose i n * X (i + suc n)) in
      let A' : ℕ → ℕ = λ i. w' i * (choose i (suc n) * X (i + suc (suc n))) in
      let products : total (suc n) (λ i. w i * (x i * x (suc n))) ≡ total (suc n) R =
      same (suc n) (λ i. w i * (x i * x (suc n))) R (λ i h. ap (λ (k : ℕ). w i * k) (pair a d K x d-positive is i (suc n) (omega arith))) in
      let apart : total n (λ i. R (suc i)) ≡ total n A' + total n (λ i. A (suc i)) =
      same n (λ i. R (suc i)) (λ i. A' i + A (suc i)) (λ i h. pascals n i) ∙ both n A' (λ i. A (suc i)) in
      let rows : total (suc n) R ≡ R 0 + total n (λ i. R (suc i)) = first n R in
      let rows' : total (suc n) A ≡ A 0 + total n (λ i. A (suc i)) = first n A in
      let start : R 0 ≡ A 0 = refl in
      let last : A n ≡ 0 = ap (λ (k : ℕ). k * (choose n n * X (n + suc n))) (weight_same (even n)) ∙ zero-mul (choose n n * X (n + suc n)) in
      let square : A' n ≡ x (suc n) * x (suc n) =
      ap (λ (k : ℕ). k * (choose n (suc n) * X (n + suc (suc n)))) (weight_next (even n))
      ∙ middle n
      ∙ sym (pair a d K x d-positive is (suc n) (suc n) l) in
      omega (arith, products, apart, rows, rows', start, last, square)
    where
      pascals : (n i : ℕ) → weight (not (even i)) (even n) * ((choose i (suc n) + choose (suc i) n) * X (suc i + suc n))
          ≡ weight (even i) (not (even n)) * (choose i (suc n) * X (i + suc (suc n))) + weight (not (even i)) (even n) * (choose (suc i) n * X (suc i + suc n))
      pascals n i =
          let e : suc i + suc n ≡ i + suc (suc n) = omega arith in
          spread (weight (not (even i)) (even n)) (choose i (suc n)) (choose (suc i) n) (X (suc i + suc n))
          ∙ ap₂ (λ (p q : ℕ). p * (choose i (suc n) * X q) + weight (not (even i)) (even n) * (choose (suc i) n * X (suc i + suc n)))
          (weight_moved (even i) (even n)) e

      middle : (n : ℕ) → 2 * (choose n (suc n) * X (n + suc (suc n))) ≡ (choose n (suc n) + choose (suc n) n) * X (suc n + suc n)
      middle n =
          let e : n + suc (suc n) ≡ suc n + suc n = omega arith in
          ap (λ (k : ℕ). 2 * (choose n (suc n) * X k)) e
          ∙ two-mul (choose n (suc n) * X (suc n + suc n))
          ∙ sym (add-mul (choose n (suc n)) (choose n (suc n)) (X (suc n + suc n)))
          ∙ ap (λ (k : ℕ). (choose n (suc n) + k) * X (suc n + suc n)) (choose_back n (suc n))

  -- the sum of the terms of the other parity
  other : (b : Bool) (n t : ℕ) → total (suc n) (λ i. weight (even i) b * (x i * t)) ≡ cond b (2 * t * odds x n) (2 * t * evens x n)
  other true n t = same (suc n) (λ i. weight (even i) true * (x i * t)) (λ i. 2 * t * cond (even i) 0 (x i)) (λ i h. one (even i) (x i))
      ∙ scaled (suc n) (2 * t) (λ i. cond (even i) 0 (x i))
    where
      one : (b : Bool) (v : ℕ) → weight b true * (v * t) ≡ 2 * t * cond b 0 v
      one true v = zero-mul (v * t) ∙ sym (mul-zero (2 * t))
      one false v = twice v t
  other false n t = same (suc n) (λ i. weight (even i) false * (x i * t)) (λ i. 2 * t * cond (even i) (x i) 0) (λ i h. one (even i) (x i))
      ∙ scaled (suc n) (2 * t) (λ i. cond (even i) (x i) 0)
    where
      one : (b : Bool) (v : ℕ) → weight b false * (v * t) ≡ 2 * t * cond b v 0
      one true v = twice v t
      one false v = zero-mul (v * t) ∙ sym (mul-zero (2 * t))

  turn : (b : Bool) (P M D D' t W : ℕ) → Differ x b P M D → D + D' ≡ W + t * t → W ≡ cond b (2 * t * M) (2 * t * P)
      → Differ x (not b) (P + cond (not b) t 0) (M + cond (not b) 0 t) D'
  turn true P M D D' t W h e k = let s : (M + t) * (M + t) ≡ M * M + 2 * t * M + t * t = square_of M t in rw (add-zero P) (omega arith)
  turn false P M D D' t W h e k = let s : (P + t) * (P + t) ≡ P * P + 2 * t * P + t * t = square_of P t in rw (add-zero M) (omega arith)

  squares : (n : ℕ) → n + n ≤ K → Differ x (even n) (evens x n) (odds x n) (difference x n)
  unfolding difference total
  squares zero l = simp (zero-add, mul-zero, add-zero)
  squares (suc n) l =
      turn (even n) (evens x n) (odds x n) (difference x n) (difference x (suc n)) (x (suc n))
      (total (suc n) (λ i. weight (even i) (even n) * (x i * x (suc n)))) (squares n (omega arith)) (rise n l) (other (even n) n (x (suc n)))

-- ---- in the units of the definitions
module _ (X o p m P M : ℕ) (X-positive : 0 < X) (ep : X * p ≡ o * P) (em : X * m ≡ o * M) where
  squared : (q Q : ℕ) → X * q ≡ o * Q → X * X * (q * q) ≡ o * o * (Q * Q)
  squared q Q e = crossed X q ∙ ap₂ (λ (r s : ℕ). r * s) e e ∙ sym (crossed o Q)
    where
      crossed : (u v : ℕ) → u * u * (v * v) ≡ u * v * (u * v)
      crossed u v = simp sorted

  parts : X * X * (o * o + m * m) ≡ o * o * (X * X) + o * o * (M * M)
  parts = mul-add (X * X) (o * o) (m * m) ∙ ap₂ (λ (r s : ℕ). r + s) (mul_comm (X * X) (o * o)) (squared m M em)

  at_least : (D : ℕ) → P * P ≡ X * X + M * M + D → o * o + m * m ≤ p * p
  at_least D h =
      let whole : X * X * (p * p) ≡ o * o * (X * X) + o * o * (M * M) + o * o * D =
      squared p P ep ∙ ap (λ (r : ℕ). o * o * r) h ∙ mul-add (o * o) (X * X + M * M) D ∙ ap (λ (r : ℕ). r + o * o * D) (mul-add (o * o) (X * X) (M * M)) in
      le_of_mul-le-mul_left (omega (arith, whole, parts)) (mul-pos X-positive X-positive)

  at_most : (D : ℕ) → P * P + D ≡ X * X + M * M → p * p ≤ o * o + m * m
  at_most D h =
      let whole : X * X * (p * p) + o * o * D ≡ o * o * (X * X) + o * o * (M * M) =
      ap (λ (r : ℕ). r + o * o * D) (squared p P ep) ∙ sym (mul-add (o * o) (P * P) D) ∙ ap (λ (r : ℕ). o * o * r) h ∙ mul-add (o * o) (X * X) (M * M) in
      le_of_mul-le-mul_left (omega (arith, whole, parts)) (mul-pos X-positive X-positive)

module _ (a d n : ℕ) (d-positive : 0 < d) where
  x : ℕ → ℕ
  x = terms a d (n + n)

  is_x : Terms a d (n + n) x
  unfolding x
  is_x = are_terms a d (n + n) d-positive

  pub even_square : even n ≡ true → over d n * over d n + taken a d n * taken a d n ≤ added a d n * added a d n
  unfolding x is_x
  even_square h =
      at_least (x 0) (over d n) (added a d n) (taken a d n) (evens x n) (odds x n) is_x.unit
      (added_sum a d (n + n) x d-positive is_x n (le-add_right n n)) (taken_sum a d (n + n) x d-positive is_x n (le-add_right n n)) (difference x n)
      (subst (λ (b : Bool). Differ x b (evens x n) (odds x n) (difference x n)) h
      (squares a d (n + n) x d-positive is_x n (le_refl (n + n))))

  pub odd_square : even n ≡ false → added a d n * added a d n ≤ over d n * over d n + taken a d n * taken a d n
  unfolding x is_x
  odd_square h =
      at_most (x 0) (over d n) (added a d n) (taken a d n) (evens x n) (odds x n) is_x.unit
      (added_sum a d (n + n) x d-positive is_x n (le-add_right n n)) (taken_sum a d (n + n) x d-positive is_x n (le-add_right n n)) (difference x n)
      (subst (λ (b : Bool). Differ x b (evens x n) (odds x n) (difference x n)) h
      (squares a d (n + n) x d-positive is_x n (le_refl (n + n))))
