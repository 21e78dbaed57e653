-- A rule of a table, proved at all of its entries by one test that is computed, one entry after the other.
use Rattle.std.proofs.Common.{◌≡◌, ℕ, zero, suc, ◌+◌, ◌<◌, Bool, true, false, cond, T, eqb, ltb, List, [], ◌∷◌, length, get_or, sym, refl, ◌∙◌, subst, le_of_suc-le-suc, not-suc-le-zero, add-zero, add-suc, suc-add, zero-add, arith, eqb→eq, ltb→lt}
use native.Mathlib.Decide.{dec_lt}

abbrev pub both : Bool → Bool → Bool
both true b = b
both false b = false

pub both_left : (a b : Bool) → T (both a b) → T a
both_left true b t = tt
both_left false b t = t

pub both_right : (a b : Bool) → T (both a b) → T b
both_right true b t = t
both_right false b t = absurd t

-- the test f passes at each entry of the list and its place, counted from i
abbrev every : (ℕ → ℕ → Bool) → ℕ → List ℕ → Bool
every f i [] = true
every f i (x ∷ xs) = both (f i x) (every f (suc i) xs)

from : (f : ℕ → ℕ → Bool) (xs : List ℕ) (i : ℕ) → T (every f i xs) → (k : ℕ) → k < length xs → T (f (i + k) (get_or xs k 0))
from f [] i t k h = absurd (not-suc-le-zero h)
from f (x ∷ xs) i t zero h = subst (λ (m : ℕ). T (f m x)) (sym (add-zero i)) (both_left (f i x) (every f (suc i) xs) t)
from f (x ∷ xs) i t (suc k) h =
    subst (λ (m : ℕ). T (f m (get_or xs k 0))) (suc-add i k ∙ sym (add-suc i k))
    (from f xs (suc i) (both_right (f i x) (every f (suc i) xs) t) k (le_of_suc-le-suc h))

at : (f : ℕ → ℕ → Bool) (xs : List ℕ) → T (every f 0 xs) → (k : ℕ) → k < length xs → T (f k (get_or xs k 0))
at f xs t k h = subst (λ (m : ℕ). T (f m (get_or xs k 0))) (zero-add k) (from f xs 0 t k h)

-- a table whose entry at k is f k
abbrev pub holds : (ℕ → ℕ) → List ℕ → Bool
holds f xs = every (λ k x. eqb x (f k)) 0 xs

pub entry : (f : ℕ → ℕ) (xs : List ℕ) → T (holds f xs) → (k : ℕ) → k < length xs → get_or xs k 0 ≡ f k
entry f xs t k h = eqb→eq (get_or xs k 0) (f k) (at (λ i x. eqb x (f i)) xs t k h)

pub looked_up : (f : ℕ → ℕ) (xs : List ℕ) (k : ℕ) → get_or xs k 0 ≡ cond (both (holds f xs) (ltb k (length xs))) (f k) (get_or xs k 0)
looked_up f xs k = go (holds f xs) (ltb k (length xs)) (λ t. t) (ltb→lt k (length xs))
  where
    go : (a b : Bool) → (T a → T (holds f xs)) → (T b → k < length xs) → get_or xs k 0 ≡ cond (both a b) (f k) (get_or xs k 0)
    go false b g h = refl
    go true false g h = refl
    go true true g h = entry f xs (g tt) k (h tt)

-- a test that passes at every number below n
abbrev pub each : (ℕ → Bool) → ℕ → Bool
each f zero = true
each f (suc n) = both (f n) (each f n)

pub passes : (f : ℕ → Bool) (n : ℕ) → T (each f n) → (k : ℕ) → k < n → T (f k)
passes f zero t k h = absurd (not-suc-le-zero h)
passes f (suc n) t k h =
    let last = both_left (f n) (each f n) t in
    let rest = both_right (f n) (each f n) t in
    elim (dec_lt k n) [
      | yes p ↦ passes f n rest k p
      | no q ↦ let e : n ≡ k = omega arith in subst (λ (m : ℕ). T (f m)) e last
    ]
