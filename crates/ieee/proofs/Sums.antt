-- Laws of sums in turn: a sum goes on from where its first terms ended, the same terms have the same sum, and a NaN among them leaves a NaN.
use Rattle.std.proofs.Common.{◌≡◌, ℕ, zero, suc, ◌+◌, ◌<◌, refl, ap, ◌∙◌, ap₂, not-suc-le-zero, add-zero, add-suc, add-one, arith}
use native.Mathlib.Decide.{dec_lt}
use lib.Ieee.{Float, nan, inf, fin, binary64, add, sub, mul}
use Rattle.ieee.specs.Floats.{zero_float}
use Rattle.ieee.proofs.RoundingSum.{add_nan}
use Rattle.ieee.specs.Sums.{add_each, running_sum, less_each}

-- sums of the same terms are the same
pub same_added : (x : Float) (k : ℕ) (f g : ℕ → Float) → ((i : ℕ) → i < k → f i ≡ g i) → add_each x k f ≡ add_each x k g
unfolding add_each
same_added x zero f g h = refl
same_added x (suc k) f g h = ap₂ (λ (y z : Float). add binary64 y z) (same_added x k f g (λ i b. h i (omega arith))) (h k (omega arith))

pub same_sum : (k : ℕ) (f g : ℕ → Float) → ((i : ℕ) → i < k → f i ≡ g i) → running_sum k f ≡ running_sum k g
same_sum k f g h = same_added _ k f g h

-- a sum goes on from where its first k terms ended
added_on : (x : Float) (k : ℕ) (f : ℕ → Float) (n : ℕ) → add_each x (k + n) f ≡ add_each (add_each x k f) n (λ l. f (k + l))
unfolding add_each
added_on x k f zero = ap (λ (m : ℕ). add_each x m f) (add-zero k)
added_on x k f (suc n) = ap (λ (m : ℕ). add_each x m f) (add-suc k n) ∙ ap (λ (y : Float). add binary64 y (f (k + n))) (added_on x k f n)

pub sum_on : (k : ℕ) (f g h : ℕ → Float) (n : ℕ) → ((i : ℕ) → i < k → f i ≡ g i) → ((l : ℕ) → l < n → f (k + l) ≡ h l)
    → running_sum (k + n) f ≡ add_each (running_sum k g) n h
sum_on k f g h n p q = added_on _ k f n ∙ same_added _ n _ h q ∙ ap (λ (y : Float). add_each y n h) (same_sum k f g p)

-- A loop that adds a term a turn: before its first turn, one turn more, and where it ends
pub no_terms : (f : ℕ → Float) → zero_float ≡ running_sum 0 f
unfolding add_each
no_terms f = refl

pub sum_turn : (k : ℕ) (f : ℕ → Float) (sum term : Float) → term ≡ f k → sum ≡ running_sum k f → add binary64 sum term ≡ running_sum (k + 1) f
unfolding add_each
sum_turn k f sum term e h = rw (add-one, h, e)

pub all_terms : {j k : ℕ} (f : ℕ → Float) {sum : Float} → j ≡ k → sum ≡ running_sum j f → sum ≡ running_sum k f
all_terms f e h = h ∙ ap (λ (n : ℕ). running_sum n f) e

-- and so does what is taken away in turn
pub same_less : (x : Float) (k : ℕ) (f g : ℕ → Float) → ((i : ℕ) → i < k → f i ≡ g i) → less_each x k f ≡ less_each x k g
unfolding less_each
same_less x zero f g h = refl
same_less x (suc k) f g h = ap₂ (λ (y z : Float). sub binary64 y z) (same_less x k f g (λ i b. h i (omega arith))) (h k (omega arith))

less_on : (x : Float) (k : ℕ) (f : ℕ → Float) (n : ℕ) → less_each x (k + n) f ≡ less_each (less_each x k f) n (λ l. f (k + l))
unfolding less_each
less_on x k f zero = ap (λ (m : ℕ). less_each x m f) (add-zero k)
less_on x k f (suc n) = ap (λ (m : ℕ). less_each x m f) (add-suc k n) ∙ ap (λ (y : Float). sub binary64 y (f (k + n))) (less_on x k f n)

pub less_turn : (x : Float) (k : ℕ) (f g h : ℕ → Float) (n : ℕ) → ((i : ℕ) → i < k → f i ≡ g i) → ((l : ℕ) → l < n → f (k + l) ≡ h l)
    → less_each x (k + n) f ≡ less_each (less_each x k g) n h
less_turn x k f g h n p q = less_on x k f n ∙ same_less _ n _ h q ∙ ap (λ (y : Float). less_each y n h) (same_less x k f g p)

-- ---- a sum with a term that is no number is none, whatever comes after
pub none_from : (f : ℕ → Float) (k n : ℕ) → f k ≡ nan → k < n → running_sum n f ≡ nan
unfolding add_each add
none_from f k zero e h = absurd (not-suc-le-zero h)
none_from f k (suc n) e h =
    elim (dec_lt k n) [
      | yes b ↦ rw (none_from f k n e b)
      | no b ↦ let same : n ≡ k = omega arith in rw (same, e) (add_nan (running_sum k f))
    ]

pub times_none : (x : Float) → mul binary64 x nan ≡ nan
unfolding mul
times_none nan = refl
times_none (inf s) = refl
times_none (fin s m e) = refl
