-- Sums of whole numbers, f 0 + f 1 + .. + f (n - 1), and what holds of them.
use Prim.Native.Nat.{ℕ, zero, suc, ◌+◌, ◌*◌, ◌≤◌, ◌<◌}
use native.Mathlib.Nat.{le_refl, le_step, add-le-add, mul-zero, mul-add, add-suc, add-zero, lt-suc_self}
use native.Mathlib.Omega.{arith}
use mathlib.Core.Path.{◌≡◌, refl, ap₂, sym}

unfoldable pub total : ℕ → (ℕ → ℕ) → ℕ
total zero f = 0
total (suc n) f = total n f + f n

pub same : (n : ℕ) (f g : ℕ → ℕ) → ((i : ℕ) → i < n → f i ≡ g i) → total n f ≡ total n g
unfolding total
same zero f g h = refl
same (suc n) f g h = ap₂ (λ (x y : ℕ). x + y) (same n f g (λ i l. h i (le_step l))) (h n (lt-suc_self n))

pub both : (n : ℕ) (f g : ℕ → ℕ) → total n (λ i. f i + g i) ≡ total n f + total n g
unfolding total
both zero f g = refl
both (suc n) f g = rw (both n f g) (omega arith)

pub scaled : (n k : ℕ) (f : ℕ → ℕ) → total n (λ i. k * f i) ≡ k * total n f
unfolding total
scaled zero k f = sym (mul-zero k)
scaled (suc n) k f = rw (scaled n k f) (sym (mul-add k (total n f) (f n)))

pub less : (n : ℕ) (f g : ℕ → ℕ) → ((i : ℕ) → i < n → f i ≤ g i) → total n f ≤ total n g
unfolding total
less zero f g h = le_refl 0
less (suc n) f g h = add-le-add (less n f g (λ i l. h i (le_step l))) (h n (lt-suc_self n))

pub more : (n k : ℕ) (f : ℕ → ℕ) → total n f ≤ total (n + k) f
unfolding total
more n zero f = rw add-zero (le_refl (total n f))
more n (suc k) f = let h : total n f ≤ total (n + k) f = more n k f in rw add-suc (omega arith)

-- the first term taken apart
pub first : (n : ℕ) (f : ℕ → ℕ) → total (suc n) f ≡ f 0 + total n (λ i. f (suc i))
unfolding total
first zero f = omega arith
first (suc n) f = let h : total n f + f n ≡ f 0 + total n (λ i. f (suc i)) = first n f in omega arith
