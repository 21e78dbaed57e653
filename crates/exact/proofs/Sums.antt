-- Laws of finite sums of whole numbers: linear, two of them change places, the magnitude of a sum.
use Rattle.std.proofs.Common.{◌≡◌, ℕ, zero, suc, ◌*◌, ◌<◌, ◌≤◌, ℤ, pos, ◌+ℤ◌, ◌-ℤ◌, ◌*ℤ◌, neg_ℤ, nat_abs, ◌≤ℤ◌, sym, refl, ap, ◌∙◌, ap₂, ⊎_elim, suc-mul, arith}
use lib.Signed.{≤ℤ_refl}
use lib.IntN.{neg_ℤ-+ℤ, +ℤ_idr, *ℤ-zero, *ℤ_comm}
use Rattle.exact.specs.Whole.{sumℤ}
use Rattle.words.proofs.Whole.{either_lt, +ℤ-middle, *ℤ-+ℤ, nat_abs_+ℤ, pos_≤ℤ, ≤ℤ-trans, ≤ℤ-add}

-- two sums of the same terms
pub sumℤ_same : (n : ℕ) (f g : ℕ → ℤ) → ((i : ℕ) → i < n → f i ≡ g i) → sumℤ n f ≡ sumℤ n g
sumℤ_same zero f g h = refl
sumℤ_same (suc n) f g h = ap₂ (λ (x y : ℤ). x +ℤ y) (sumℤ_same n f g (λ i l. h i (omega arith))) (h n (omega arith))

-- a sum whose terms from j on are 0 ends there
pub sumℤ_ends : (n j : ℕ) (f : ℕ → ℤ) → j ≤ n → ((i : ℕ) → j ≤ i → f i ≡ pos 0) → sumℤ n f ≡ sumℤ j f
sumℤ_ends zero j f l h = let e : 0 ≡ j = omega arith in ap (λ (k : ℕ). sumℤ k f) e
sumℤ_ends (suc n) j f l h =
    ⊎_elim
    (λ p. let e : suc n ≡ j = omega arith in ap (λ (k : ℕ). sumℤ k f) e)
    (λ p. ap₂ (λ (x y : ℤ). x +ℤ y) (sumℤ_ends n j f p h) (h n p) ∙ +ℤ_idr (sumℤ j f))
    (either_lt n j)

pub sumℤ_zero : (n : ℕ) → sumℤ n (λ i. pos 0) ≡ pos 0
sumℤ_zero zero = refl
sumℤ_zero (suc n) = ap (λ (z : ℤ). z +ℤ pos 0) (sumℤ_zero n)

pub sumℤ_+ℤ : (n : ℕ) (f g : ℕ → ℤ) → sumℤ n (λ i. f i +ℤ g i) ≡ sumℤ n f +ℤ sumℤ n g
sumℤ_+ℤ zero f g = refl
sumℤ_+ℤ (suc n) f g = ap (λ (z : ℤ). z +ℤ (f n +ℤ g n)) (sumℤ_+ℤ n f g) ∙ +ℤ-middle (sumℤ n f) (sumℤ n g) (f n) (g n)

pub sumℤ_negℤ : (n : ℕ) (f : ℕ → ℤ) → sumℤ n (λ i. neg_ℤ (f i)) ≡ neg_ℤ (sumℤ n f)
sumℤ_negℤ zero f = refl
sumℤ_negℤ (suc n) f = ap (λ (z : ℤ). z +ℤ neg_ℤ (f n)) (sumℤ_negℤ n f) ∙ sym (neg_ℤ-+ℤ (sumℤ n f) (f n))

pub sumℤ__ℤ : (n : ℕ) (f g : ℕ → ℤ) → sumℤ n (λ i. f i -ℤ g i) ≡ sumℤ n f -ℤ sumℤ n g
sumℤ__ℤ n f g = sumℤ_+ℤ n f (λ i. neg_ℤ (g i)) ∙ ap (λ (z : ℤ). sumℤ n f +ℤ z) (sumℤ_negℤ n g)

-- a factor of every term comes out of the sum
pub *ℤ-sumℤ : (n : ℕ) (c : ℤ) (f : ℕ → ℤ) → sumℤ n (λ i. c *ℤ f i) ≡ c *ℤ sumℤ n f
*ℤ-sumℤ zero c f = sym (*ℤ-zero c)
*ℤ-sumℤ (suc n) c f = ap (λ (z : ℤ). z +ℤ c *ℤ f n) (*ℤ-sumℤ n c f) ∙ sym (*ℤ-+ℤ c (sumℤ n f) (f n))

pub sumℤ_*ℤ : (n : ℕ) (f : ℕ → ℤ) (c : ℤ) → sumℤ n (λ i. f i *ℤ c) ≡ sumℤ n f *ℤ c
sumℤ_*ℤ n f c =
    sumℤ_same n (λ i. f i *ℤ c) (λ i. c *ℤ f i) (λ i l. *ℤ_comm (f i) c) ∙ *ℤ-sumℤ n c f ∙ *ℤ_comm c (sumℤ n f)

-- two sums change places
pub sumℤ_exchange : (n m : ℕ) (f : ℕ → ℕ → ℤ) → sumℤ n (λ i. sumℤ m (λ j. f i j)) ≡ sumℤ m (λ j. sumℤ n (λ i. f i j))
sumℤ_exchange zero m f = sym (sumℤ_zero m)
sumℤ_exchange (suc n) m f =
    ap (λ (z : ℤ). z +ℤ sumℤ m (λ j. f n j)) (sumℤ_exchange n m f) ∙ sym (sumℤ_+ℤ m (λ j. sumℤ n (λ i. f i j)) (λ j. f n j))

-- a sum of smaller terms is smaller
pub sumℤ_≤ℤ : (n : ℕ) (f g : ℕ → ℤ) → ((i : ℕ) → i < n → f i ≤ℤ g i) → sumℤ n f ≤ℤ sumℤ n g
sumℤ_≤ℤ zero f g h = ≤ℤ_refl (pos 0)
sumℤ_≤ℤ (suc n) f g h = ≤ℤ-add (sumℤ_≤ℤ n f g (λ i l. h i (omega arith))) (h n (omega arith))

-- terms that are not above b sum up to n * b at most
pub sumℤ_bound : (n : ℕ) (f : ℕ → ℤ) (b : ℕ) → ((i : ℕ) → i < n → nat_abs (f i) ≤ b) → nat_abs (sumℤ n f) ≤ n * b
sumℤ_bound zero f b h = omega arith
sumℤ_bound (suc n) f b h =
    let rest = sumℤ_bound n f b (λ i l. h i (omega arith)) in
    let last = h n (omega arith) in
    omega (arith, nat_abs_+ℤ (sumℤ n f) (f n), rest, last, suc-mul n b)

-- the magnitude of a sum is at most the sum of the magnitudes
pub sumℤ_nat_abs : (n : ℕ) (f : ℕ → ℤ) → pos (nat_abs (sumℤ n f)) ≤ℤ sumℤ n (λ i. pos (nat_abs (f i)))
sumℤ_nat_abs zero f = ≤ℤ_refl (pos 0)
sumℤ_nat_abs (suc n) f =
    ≤ℤ-trans (pos_≤ℤ (nat_abs_+ℤ (sumℤ n f) (f n))) (≤ℤ-add (sumℤ_nat_abs n f) (≤ℤ_refl (pos (nat_abs (f n)))))
