-- `words::compare` meets its contract. The invariant: from the place that was looked at last on, the words are the same.
use Rattle.std.proofs.Common.{◌≡◌, ℕ, ◌≤◌, List, get_or}
use Rattle.words.proofs.compare.Given as goal

-- from a place on the words are the same
abbrev pub SameFrom : ℕ → List ℕ → List ℕ → Type 0
SameFrom from a b = (j : ℕ) → from ≤ j → get_or a j 0 ≡ get_or b j 0

abbrev pub invariant-loop-place : goal.invariant-loop-place
invariant-loop-place l = SameFrom l.place l.a l.b
