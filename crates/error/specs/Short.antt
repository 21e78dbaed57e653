-- 18: "an answer area too short", said once for the areas of every call: a list of the areas lent, each with how many numbers go into it.
use Rattle.std.specs.Prelude.{ℕ, ◌<◌, ◌≤◌, ◌⊎◌, Bool, List, [], ◌∷◌, ltb, length}
use Rattle.error.specs.Tests.{any}

-- an area that is lent: how many places it has, and how many of them the answer takes
pub record Lent : Type 0 where
  pub places : ℕ
  pub taken : ℕ

-- by its length, and as the list that it holds
abbrev pub area : ℕ → ℕ → Lent
area length n = record { places = length; taken = n }

abbrev pub lent : {A : Type 0} → List A → ℕ → Lent
lent xs n = area (length xs) n

abbrev pub is_short : Lent → Bool
is_short a = ltb a.places a.taken

-- as a test
abbrev pub too_short : List Lent → Bool
too_short areas = any is_short areas

-- as the papers say it: one of them has fewer places than the answer takes
abbrev pub TooShort : List Lent → Type 0
TooShort [] = ⊥
TooShort (a ∷ more) = (a.places < a.taken) ⊎ TooShort more

-- and where none has, each is long enough
abbrev pub LongEnough : List Lent → Type 0
LongEnough [] = Unit {0}
LongEnough (a ∷ more) = (a.taken ≤ a.places) × LongEnough more
