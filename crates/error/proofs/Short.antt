-- One law for the answer areas of every call: the test tells that one of them is too short, and where it does not hold each is long enough.
use Prim.Native.Nat.{ℕ, zero, suc, ◌<◌, ◌≤◌}
use native.Mathlib.Omega.{arith}
use mathlib.Core.Logic.{inl, inr}
use mathlib.Core.List.{List, [], ◌∷◌}
use lib.ListN.{get_or}
use Rattle.error.specs.Tests.{Tells}
use Rattle.error.specs.Short.{Lent, area, too_short, TooShort, LongEnough}
use Rattle.error.proofs.Tells.{either, below}

-- 18, as a test and as a rule
pub short_told : (areas : List Lent) → Tells (too_short areas) (TooShort areas)
short_told [] = record { then = λ h. h; back = λ h. h }
short_told (a ∷ more) = either (below a.places a.taken) (short_told more)

at_least : {m n : ℕ} → ¬ (n < m) → m ≤ n
at_least h = omega arith

-- where none is too short each is long enough
pub long_enough : (areas : List Lent) → ¬ TooShort areas → LongEnough areas
long_enough [] n = tt
long_enough (a ∷ more) n = (at_least (λ l. n (inl l)), long_enough more (λ x. n (inr x)))

-- and the other way
pub none_short : (areas : List Lent) → LongEnough areas → ¬ TooShort areas
none_short [] h x = x
none_short (a ∷ more) h (inl l) = let g = h.0 in omega arith
none_short (a ∷ more) h (inr x) = none_short more h.1 x

-- past 18: the area at place i of the list is long enough
abbrev pub area_at : List Lent → ℕ → Lent
area_at areas i = get_or areas i (area 0 0)

pub long_at : (areas : List Lent) → ¬ TooShort areas → (i : ℕ) → (area_at areas i).taken ≤ (area_at areas i).places
long_at [] n i = omega arith
long_at (a ∷ more) n zero = at_least (λ l. n (inl l))
long_at (a ∷ more) n (suc i) = long_at more (λ x. n (inr x)) i
