-- The pairs of the samples, in their order: paper 01, "Semivariogram".
use Rattle.std.specs.Prelude.{ℕ, zero, suc, Bool, cond, List, [], ◌∷◌, ◌++◌, map}

-- two samples by their places
pub record Pair : Type 0 where
  pub one : ℕ
  pub other : ℕ

abbrev pub pair : ℕ → ℕ → Pair
pair i j = record { one = i; other = j }

-- k whole numbers from start on, rising
unfoldable pub rising : ℕ → ℕ → List ℕ
rising start zero = []
rising start (suc k) = start ∷ rising (suc start) k

-- of the k samples from the place i on, each with every later one
unfoldable pub pairs_from : ℕ → ℕ → List Pair
unfolding rising
pairs_from i zero = []
pairs_from i (suc k) = map (pair i) (rising (suc i) k) ++ pairs_from (suc i) k

-- "Pairs i < j in that order", of n samples
unfoldable pub pairs : ℕ → List Pair
unfolding pairs_from
pairs n = pairs_from 0 n

-- what passes a test, in its order
unfoldable pub filtered : {A : Type 0} → (A → Bool) → List A → List A
filtered keep [] = []
filtered keep (x ∷ xs) = cond (keep x) (x ∷ filtered keep xs) (filtered keep xs)
