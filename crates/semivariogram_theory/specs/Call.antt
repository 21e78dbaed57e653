-- A call of the semivariogram: what it takes, what it is lent, and how it ends.
use Rattle.std.specs.Prelude.{ℕ, List, [], ◌∷◌, length, Float}
use Rattle.error.specs.Short.{Lent, lent}

-- what the call takes: points of d numbers, row after row, and the value at each
pub record Samples : Type 0 where
  pub dimension : ℕ
  pub values : List Float
  pub points : List Float
  pub bins : ℕ

-- what it is lent for its answer, at entry or at exit
pub record Areas : Type 0 where
  pub distances : List Float
  pub semivariances : List Float
  pub counts : List ℕ

-- how it ends: the answer's number (0, or the refusal's), how many bins are kept, and the areas at exit
pub record Outcome : Type 0 where
  pub number : ℕ
  pub kept : ℕ
  pub areas : Areas

-- a call's lists and numbers as what it takes
abbrev pub samples_of : List Float → List Float → ℕ → ℕ → Samples
samples_of points values d bins = record { dimension = d; values = values; points = points; bins = bins }

-- and its three areas as what it is lent
abbrev pub areas_of : List Float → List Float → List ℕ → Areas
areas_of distances semivariances counts = record { distances = distances; semivariances = semivariances; counts = counts }

-- n, the number of samples
abbrev pub samples : Samples → ℕ
samples q = length q.values

-- 18: "an answer area too short: .. for bins, the bin count, three times"
abbrev pub answer_areas : Samples → Areas → List Lent
answer_areas q a = lent a.distances q.bins ∷ lent a.semivariances q.bins ∷ lent a.counts q.bins ∷ []
