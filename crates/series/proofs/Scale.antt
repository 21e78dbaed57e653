-- a / d and k·a / k·d are one number: what is below and above e^−(a/d) is so of the other.
use Prim.Native.Nat.{ℕ, zero, suc, ◌+◌, ◌-◌, ◌*◌, ◌^◌}
use native.Mathlib.Nat.{le_trans, le_of_eq, mul-add, mul_left_comm, mul-one, pow-suc, pow-zero, mul-le-mul_left}
use mathlib.Core.Path.{◌≡◌, ap, ap₂, sym, ◌∙◌}
use Rattle.series.specs.Series.{over, added, taken, all}
use Rattle.series.proofs.Terms.{sorted}
use Rattle.series.proofs.Steps.{all_next}
use Rattle.series.proofs.Bounds.{Under, Above}
use Rattle.series.proofs.Near.{Near}

pow_mul : (k a n : ℕ) → (k * a) ^ n ≡ k ^ n * a ^ n
pow_mul k a zero = pow-zero (k * a) ∙ sym (ap₂ (λ (x y : ℕ). x * y) (pow-zero k) (pow-zero a))
pow_mul k a (suc n) =
    pow-suc (k * a) n ∙ ap (λ (x : ℕ). x * (k * a)) (pow_mul k a n) ∙ turned (k ^ n) (a ^ n) k a ∙ sym (ap₂ (λ (x y : ℕ). x * y) (pow-suc k n) (pow-suc a n))
  where
    turned : (p q r s : ℕ) → p * q * (r * s) ≡ p * r * (q * s)
    turned p q r s = simp sorted

next : (p o k d n : ℕ) → p * o * (k * d * n) ≡ p * k * (o * (d * n))
next p o k d n = simp sorted

over_scaled : (k d n : ℕ) → over (k * d) n ≡ k ^ n * over d n
unfolding over
over_scaled k d zero = sym (mul-one (k ^ 0) ∙ pow-zero k)
over_scaled k d (suc n) =
    ap (λ (x : ℕ). x * (k * d * suc n)) (over_scaled k d n) ∙ next (k ^ n) (over d n) k d (suc n)
    ∙ ap (λ (x : ℕ). x * (over d n * (d * suc n))) (sym (pow-suc k n))

all_scaled : (k a d n : ℕ) → all (k * a) (k * d) n ≡ k ^ n * all a d n
unfolding added taken
all_scaled k a d zero = sym (mul-one (k ^ 0) ∙ pow-zero k)
all_scaled k a d (suc n) =
    all_next (k * a) (k * d) n
    ∙ ap₂ (λ (x y : ℕ). x + y)
    (ap (λ (x : ℕ). x * (k * d * suc n)) (all_scaled k a d n) ∙ next (k ^ n) (all a d n) k d (suc n)
    ∙ ap (λ (x : ℕ). x * (all a d n * (d * suc n))) (sym (pow-suc k n)))
    (pow_mul k a (suc n))
    ∙ sym (mul-add (k ^ suc n) (all a d n * (d * suc n)) (a ^ suc n))
    ∙ ap (λ (x : ℕ). k ^ suc n * x) (sym (all_next a d n))

module _ (k a d c q : ℕ) where
  pub under_scaled : Under a d c q → Under (k * a) (k * d) c q
  under_scaled u n =
      le_trans (le_of_eq (ap (λ (x : ℕ). c * x) (all_scaled k a d n) ∙ mul_left_comm c (k ^ n) (all a d n)))
      (le_trans (mul-le-mul_left (k ^ n) (u n)) (le_of_eq (mul_left_comm (k ^ n) q (over d n) ∙ ap (λ (x : ℕ). q * x) (sym (over_scaled k d n)))))

  pub above_scaled : Above a d c q → Above (k * a) (k * d) c q
  above_scaled u =
      let n = u.power in
      record {
        power = n;
        enough =
            le_trans (le_of_eq (ap (λ (x : ℕ). q * x) (over_scaled k d n) ∙ mul_left_comm q (k ^ n) (over d n)))
            (le_trans (mul-le-mul_left (k ^ n) u.enough)
            (le_of_eq (mul_left_comm (k ^ n) c (all a d n) ∙ ap (λ (x : ℕ). c * x) (sym (all_scaled k a d n)))));
      }

pub near_scaled : (k a d q y t : ℕ) → Near a d q y t → Near (k * a) (k * d) q y t
near_scaled k a d q y t u = record { under = under_scaled k a d (y - t) q u.under; above = above_scaled k a d (y + t) q u.above }
