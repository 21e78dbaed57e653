-- `audit::rounded_sums` meets its contract: after some turns both sums have as many terms, and `at` is the place of the next, or both are past the end.
use Prim.Native.Nat.{ℕ, ◌+◌, ◌*◌, ◌≤◌}
use mathlib.Core.Path.{◌≡◌}
use mathlib.Core.Logic.{◌⊎◌}
use mathlib.Core.List.{List}
use lib.ListN.{length}
use lib.Ieee.{Float}
use Rattle.ieee.specs.Floats.{abs_of}
use Rattle.ieee.specs.Sums.{running_sum}
use Rattle.estimate.specs.Estimate.{term}
use Rattle.audit.specs.Lists.{number_in}
use Rattle.audit.proofs.rounded_sums.Given as goal

-- the terms, by their places
abbrev pub terms : List Float → List Float → ℕ → ℕ → ℕ → Float
terms weights numbers column width i = term (number_in weights) (λ i. number_in numbers (column + i * width)) i

-- where the next number is: at the place, or past the end as the place is
abbrev pub At : ℕ → ℕ → ℕ → Type 0
At size at place = (at ≡ place) ⊎ ((size ≤ at) × (size ≤ place))

abbrev pub invariant-loop-weight : goal.invariant-loop-weight
invariant-loop-weight l =
    At (length l.numbers) l.at (l.column + l.weight-index * l.width)
    × (l.sum ≡ running_sum l.weight-index (terms l.weights l.numbers l.column l.width))
    × (l.size ≡ running_sum l.weight-index (λ k. abs_of (terms l.weights l.numbers l.column l.width k)))
