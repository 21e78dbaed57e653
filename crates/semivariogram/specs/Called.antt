-- What a call's parts pass on, as the theory has it.
use Rattle.std.specs.Prelude.{◌≡◌, ℕ, List, [], ◌∷◌}
use Rattle.error.specs.Short.{Lent, lent}
use Rattle.semivariogram_theory.specs.Call as Call
use Rattle.semivariogram_theory.specs.Call.{samples_of, areas_of}
use Rattle.semivariogram.specs.declared.call.Samples.{Samples}
use Rattle.semivariogram.specs.declared.call.Areas.{Areas}

-- the samples
abbrev pub sampled : Samples → Call.Samples
sampled s = samples_of s.points.now s.values.now s.d s.n_bins

-- the areas
abbrev pub held : Areas → Call.Areas
held a = areas_of a.distances.now a.semivariances.now a.counts.now

-- with so many places taken of each
abbrev pub areas_for : ℕ → Call.Areas → List Lent
areas_for bins a = lent a.distances bins ∷ lent a.semivariances bins ∷ lent a.counts bins ∷ []

-- where they lie is as it was
pub record StillLent (a b : Areas) : Type 0 where
  pub distances : b.distances.ghost_name ≡ a.distances.ghost_name
  pub semivariances : b.semivariances.ghost_name ≡ a.semivariances.ghost_name
  pub counts : b.counts.ghost_name ≡ a.counts.ghost_name
