-- The trend bound over plain functions: from p + 1 rows that hold, for any p whole numbers and any factor.
use Prim.Native.Nat.{ℕ, ◌*◌, ◌<◌}
use native.Mathlib.Nat.{mul_comm}
use mathlib.Core.Path.{◌≡◌, sym, ap, ap₂, ◌∙◌, subst, subst₂}
use lib.IntN.{ℤ, pos, neg_ℤ, nat_abs, ◌+ℤ◌, ◌-ℤ◌, ◌*ℤ◌, +ℤ_assoc, +ℤ_comm, neg_ℤ-+ℤ, neg_ℤ-neg_ℤ, *ℤ_comm}
use lib.Signed.{◌≤ℤ◌}
use Rattle.exact.specs.Whole.{sumℤ}
use Rattle.words.proofs.Whole.{*ℤ--ℤ, *ℤ-assoc, nat_abs_*ℤ, nat_abs__ℤ, pos_≤ℤ, ≤ℤ-trans, ≤ℤ-add, ≤ℤ-*ℤ}
use Rattle.exact.proofs.Sums.{sumℤ_same, sumℤ__ℤ, *ℤ-sumℤ, sumℤ_*ℤ, sumℤ_exchange, sumℤ_≤ℤ, sumℤ_nat_abs}

-- a · (b · c) = b · (a · c)
front : (a b c : ℤ) → a *ℤ (b *ℤ c) ≡ b *ℤ (a *ℤ c)
front a b c = sym (*ℤ-assoc a b c) ∙ ap (λ (z : ℤ). z *ℤ c) (*ℤ_comm a b) ∙ *ℤ-assoc b a c

-- x − (y + (v − w)) = (w − y) − (v − x)
regroup : (x y v w : ℤ) → x -ℤ (y +ℤ (v -ℤ w)) ≡ (w -ℤ y) -ℤ (v -ℤ x)
regroup x y v w = left ∙ sym right
  where
    opened : (a b : ℤ) → neg_ℤ (a -ℤ b) ≡ neg_ℤ a +ℤ b
    opened a b = neg_ℤ-+ℤ a (neg_ℤ b) ∙ ap (λ (z : ℤ). neg_ℤ a +ℤ z) (neg_ℤ-neg_ℤ b)

    left : x -ℤ (y +ℤ (v -ℤ w)) ≡ (w +ℤ neg_ℤ y) +ℤ (neg_ℤ v +ℤ x)
    left =
        ap (λ (z : ℤ). x +ℤ z) (neg_ℤ-+ℤ y (v -ℤ w) ∙ ap (λ (z : ℤ). neg_ℤ y +ℤ z) (opened v w ∙ +ℤ_comm (neg_ℤ v) w) ∙ sym (+ℤ_assoc (neg_ℤ y) w (neg_ℤ v)))
        ∙ +ℤ_comm x (neg_ℤ y +ℤ w +ℤ neg_ℤ v)
        ∙ +ℤ_assoc (neg_ℤ y +ℤ w) (neg_ℤ v) x
        ∙ ap (λ (z : ℤ). z +ℤ (neg_ℤ v +ℤ x)) (+ℤ_comm (neg_ℤ y) w)

    right : (w -ℤ y) -ℤ (v -ℤ x) ≡ (w +ℤ neg_ℤ y) +ℤ (neg_ℤ v +ℤ x)
    right = ap (λ (z : ℤ). (w -ℤ y) +ℤ z) (opened v x)

-- n wells and p columns: weights w, columns F and f, values v, the figure g; u is 1
module _ (n p : ℕ) (w : ℕ → ℤ) (F : ℕ → ℕ → ℤ) (f v : ℕ → ℤ) (g u : ℤ) where
  -- what the row of x leaves of its target
  abbrev pub rest : (ℕ → ℤ) → ℤ → ℤ
  rest x target = sumℤ n (λ i. w i *ℤ x i) -ℤ target *ℤ u

  abbrev column_rest : ℕ → ℤ
  column_rest j = rest (λ i. F i j) (f j)

  module _ (A : ℕ → ℤ) (d : ℤ) where
    abbrev left_at : ℕ → ℤ
    left_at i = d *ℤ v i -ℤ sumℤ p (λ j. A j *ℤ F i j)

    -- the weighted sum of what is left over, by the columns' own sums: the two sums change places
    left_over : sumℤ n (λ i. w i *ℤ left_at i) ≡ d *ℤ sumℤ n (λ i. w i *ℤ v i) -ℤ sumℤ p (λ j. A j *ℤ sumℤ n (λ i. w i *ℤ F i j))
    left_over =
        sumℤ_same n (λ i. w i *ℤ left_at i) (λ i. w i *ℤ (d *ℤ v i) -ℤ w i *ℤ sumℤ p (λ j. A j *ℤ F i j))
        (λ i l. *ℤ--ℤ (w i) (d *ℤ v i) (sumℤ p (λ j. A j *ℤ F i j)))
        ∙ sumℤ__ℤ n (λ i. w i *ℤ (d *ℤ v i)) (λ i. w i *ℤ sumℤ p (λ j. A j *ℤ F i j))
        ∙ ap₂ (λ (x y : ℤ). x -ℤ y) values trends
      where
        values : sumℤ n (λ i. w i *ℤ (d *ℤ v i)) ≡ d *ℤ sumℤ n (λ i. w i *ℤ v i)
        values =
            sumℤ_same n (λ i. w i *ℤ (d *ℤ v i)) (λ i. d *ℤ (w i *ℤ v i)) (λ i l. front (w i) d (v i)) ∙ *ℤ-sumℤ n d (λ i. w i *ℤ v i)

        trends : sumℤ n (λ i. w i *ℤ sumℤ p (λ j. A j *ℤ F i j)) ≡ sumℤ p (λ j. A j *ℤ sumℤ n (λ i. w i *ℤ F i j))
        trends =
            sumℤ_same n (λ i. w i *ℤ sumℤ p (λ j. A j *ℤ F i j)) (λ i. sumℤ p (λ j. A j *ℤ (w i *ℤ F i j))) (λ i l.
            sym (*ℤ-sumℤ p (w i) (λ j. A j *ℤ F i j))
            ∙ sumℤ_same p (λ j. w i *ℤ (A j *ℤ F i j)) (λ j. A j *ℤ (w i *ℤ F i j)) (λ j k. front (w i) (A j) (F i j)))
            ∙ sumℤ_exchange n p (λ i j. A j *ℤ (w i *ℤ F i j))
            ∙ sumℤ_same p (λ j. sumℤ n (λ i. A j *ℤ (w i *ℤ F i j))) (λ j. A j *ℤ sumℤ n (λ i. w i *ℤ F i j)) (λ j k. *ℤ-sumℤ n (A j) (λ i. w i *ℤ F i j))

    abbrev pub gap : ℤ
    gap = d *ℤ g *ℤ u -ℤ (sumℤ p (λ j. A j *ℤ f j) *ℤ u +ℤ sumℤ n (λ i. w i *ℤ left_at i))

    -- the gap is what the rows leave: A_j times row j's, less d times the last row's
    gap_rests : gap ≡ sumℤ p (λ j. A j *ℤ column_rest j) -ℤ d *ℤ rest v g
    gap_rests =
        ap (λ (z : ℤ). d *ℤ g *ℤ u -ℤ (sumℤ p (λ j. A j *ℤ f j) *ℤ u +ℤ z)) left_over
        ∙ regroup (d *ℤ g *ℤ u) (sumℤ p (λ j. A j *ℤ f j) *ℤ u) (d *ℤ sumℤ n (λ i. w i *ℤ v i)) (sumℤ p (λ j. A j *ℤ sumℤ n (λ i. w i *ℤ F i j)))
        ∙ ap₂ (λ (x y : ℤ). x -ℤ y) (sym columns) (sym figure)
      where
        columns : sumℤ p (λ j. A j *ℤ column_rest j) ≡ sumℤ p (λ j. A j *ℤ sumℤ n (λ i. w i *ℤ F i j)) -ℤ sumℤ p (λ j. A j *ℤ f j) *ℤ u
        columns =
            sumℤ_same p (λ j. A j *ℤ column_rest j) (λ j. A j *ℤ sumℤ n (λ i. w i *ℤ F i j) -ℤ A j *ℤ f j *ℤ u) (λ j l.
            *ℤ--ℤ (A j) (sumℤ n (λ i. w i *ℤ F i j)) (f j *ℤ u)
            ∙ ap (λ (z : ℤ). A j *ℤ sumℤ n (λ i. w i *ℤ F i j) -ℤ z) (sym (*ℤ-assoc (A j) (f j) u)))
            ∙ sumℤ__ℤ p (λ j. A j *ℤ sumℤ n (λ i. w i *ℤ F i j)) (λ j. A j *ℤ f j *ℤ u)
            ∙ ap (λ (z : ℤ). sumℤ p (λ j. A j *ℤ sumℤ n (λ i. w i *ℤ F i j)) -ℤ z) (sumℤ_*ℤ p (λ j. A j *ℤ f j) u)

        figure : d *ℤ rest v g ≡ d *ℤ sumℤ n (λ i. w i *ℤ v i) -ℤ d *ℤ g *ℤ u
        figure =
            *ℤ--ℤ d (sumℤ n (λ i. w i *ℤ v i)) (g *ℤ u)
            ∙ ap (λ (z : ℤ). d *ℤ sumℤ n (λ i. w i *ℤ v i) -ℤ z) (sym (*ℤ-assoc d g u))

-- |a| ≤ t · b gives |c · a| ≤ t · (|c| · b)
scaled : (c a t b : ℤ) → pos (nat_abs a) ≤ℤ (t *ℤ b) → pos (nat_abs (c *ℤ a)) ≤ℤ (t *ℤ (pos (nat_abs c) *ℤ b))
scaled c a t b h =
    let k : ℤ = pos (nat_abs c) in
    let same : t *ℤ b *ℤ k ≡ t *ℤ (k *ℤ b) = *ℤ-assoc t b k ∙ ap (λ (z : ℤ). t *ℤ z) (*ℤ_comm b k) in
    let turned : nat_abs a * nat_abs c ≡ nat_abs (c *ℤ a) = mul_comm (nat_abs a) (nat_abs c) ∙ sym (nat_abs_*ℤ c a) in
    subst₂ (λ (x y : ℤ). x ≤ℤ y) (ap pos turned) same (≤ℤ-*ℤ (nat_abs c) h)

-- where each row of 1..p and the last are met, no trend takes the figure further off
pub within_allowance : (n p : ℕ) (w : ℕ → ℤ) (F : ℕ → ℕ → ℤ) (f v : ℕ → ℤ) (g u t : ℤ)
    → ((j : ℕ) → j < p → pos (nat_abs (rest n p w F f v g u (λ i. F i j) (f j))) ≤ℤ (t *ℤ (u +ℤ pos (nat_abs (f j)))))
    → pos (nat_abs (rest n p w F f v g u v g)) ≤ℤ (t *ℤ (u +ℤ pos (nat_abs g)))
    → (A : ℕ → ℤ) (D : ℕ)
    → pos (nat_abs (gap n p w F f v g u A (pos D)))
    ≤ℤ (t *ℤ (pos D *ℤ (u +ℤ pos (nat_abs g))) +ℤ t *ℤ sumℤ p (λ j. pos (nat_abs (A j)) *ℤ (u +ℤ pos (nat_abs (f j)))))
within_allowance n p w F f v g u t rows last A D =
    subst₂ (λ (x y : ℤ). x ≤ℤ y)
    (ap (λ (z : ℤ). pos (nat_abs z)) (sym (gap_rests n p w F f v g u A (pos D))))
    (+ℤ_comm (t *ℤ sumℤ p (λ j. allowed j)) (t *ℤ (pos D *ℤ (u +ℤ pos (nat_abs g)))))
    (≤ℤ-trans (pos_≤ℤ (nat_abs__ℤ (sumℤ p (λ j. A j *ℤ left j)) (pos D *ℤ rest n p w F f v g u v g))) (≤ℤ-add columns figure))
  where
    left : ℕ → ℤ
    left j = rest n p w F f v g u (λ i. F i j) (f j)

    allowed : ℕ → ℤ
    allowed j = pos (nat_abs (A j)) *ℤ (u +ℤ pos (nat_abs (f j)))

    figure : pos (nat_abs (pos D *ℤ rest n p w F f v g u v g)) ≤ℤ (t *ℤ (pos D *ℤ (u +ℤ pos (nat_abs g))))
    figure = scaled (pos D) (rest n p w F f v g u v g) t (u +ℤ pos (nat_abs g)) last

    columns : pos (nat_abs (sumℤ p (λ j. A j *ℤ left j))) ≤ℤ (t *ℤ sumℤ p (λ j. allowed j))
    columns =
        subst (λ (z : ℤ). pos (nat_abs (sumℤ p (λ j. A j *ℤ left j))) ≤ℤ z) (*ℤ-sumℤ p t allowed)
        (≤ℤ-trans (sumℤ_nat_abs p (λ j. A j *ℤ left j))
        (sumℤ_≤ℤ p (λ j. pos (nat_abs (A j *ℤ left j))) (λ j. t *ℤ allowed j) (λ j l. scaled (A j) (left j) t (u +ℤ pos (nat_abs (f j))) (rows j l))))
