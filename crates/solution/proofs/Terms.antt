-- A row of the inverse times b: its terms, the whole row, and four rows side by side.
use Prim.Native.Nat.{ℕ, zero, suc, ◌+◌, ◌<◌}
use native.Mathlib.Nat.{le_refl, add-zero}
use native.Mathlib.Omega.{arith}
use mathlib.Core.Path.{◌≡◌, ap, ◌∙◌, sym}
use mathlib.Core.List.{List, ◌∷◌, []}
use lib.ListN.{length, get_or, get_or-eq_default}
use lib.Ieee.{Float, nan, binary64, mul}
use Rattle.ieee.specs.Sums.{running_sum}
use Rattle.ieee.proofs.Sums.{all_terms, none_from, times_none}
use Rattle.elimination.specs.Inverse.{inverse_at, times_inverse}

-- term k of row i
abbrev pub terms : ℕ → List Float → List Float → ℕ → ℕ → Float
terms size work b i k = mul binary64 (inverse_at size work i k) (get_or b k nan)

-- z, by its rows
abbrev pub rows : ℕ → List Float → List Float → ℕ → Float
rows size work b i = times_inverse size work (λ j. get_or b j nan) i

-- all its terms
pub whole_row : (size : ℕ) (work b : List Float) (i j : ℕ) (sum : Float) → j ≡ size → sum ≡ running_sum j (terms size work b i) → sum ≡ rows size work b i
unfolding times_inverse
whole_row size work b i j sum e h = all_terms (terms size work b i) e h

-- a sum of products over a list that ends before it does is no number
pub past_first : (xs ys : List Float) (n : ℕ) → length xs < n → running_sum n (λ i. mul binary64 (get_or xs i nan) (get_or ys i nan)) ≡ nan
unfolding mul
past_first xs ys n h = none_from _ (length xs) n (rw (get_or-eq_default xs nan (le_refl (length xs)))) h

pub past_second : (xs ys : List Float) (n : ℕ) → length ys < n → running_sum n (λ i. mul binary64 (get_or xs i nan) (get_or ys i nan)) ≡ nan
past_second xs ys n h = none_from _ (length ys) n (rw (get_or-eq_default ys nan (le_refl (length ys))) (times_none (get_or xs (length ys) nan))) h

-- what four names hold, as the four places of an array
pub four_places : (f : ℕ → Float) (i : ℕ) {a b c d : Float} → a ≡ f i → b ≡ f (i + 1) → c ≡ f (i + 2) → d ≡ f (i + 3)
    → (k : ℕ) → k < 4 → get_or (a ∷ b ∷ c ∷ d ∷ []) k nan ≡ f (i + k)
four_places f i ea eb ec ed zero h = ea ∙ ap f (sym (add-zero i))
four_places f i ea eb ec ed (suc zero) h = eb
four_places f i ea eb ec ed (suc (suc zero)) h = ec
four_places f i ea eb ec ed (suc (suc (suc zero))) h = ed
four_places f i ea eb ec ed (suc (suc (suc (suc k)))) h = absurd (omega arith)
