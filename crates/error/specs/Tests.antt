-- "What turns a call away": the tests of a call in the order in which they are made, each with its number. The first that holds gives the number.
use Rattle.std.specs.Prelude.{ℕ, zero, suc, Bool, true, ◌&&◌, cond, List, [], ◌∷◌, T}
use Rattle.std.specs.List.{list_any}

-- a refusal's number, and whether its condition holds
pub record Test : Type 0 where
  pub number : ℕ
  pub holds : Bool

abbrev pub test : ℕ → Bool → Test
test n b = record { number = n; holds = b }

-- the number of the first test that holds, 0 where none holds
unfoldable pub first_of : List Test → ℕ
first_of [] = 0
first_of (t ∷ ts) = let r = first_of ts in cond t.holds t.number r

-- f holds of each number below k
unfoldable pub all : ℕ → (ℕ → Bool) → Bool
all zero f = true
all (suc k) f = all k f && f k

-- f holds of some element
abbrev pub any : {A : Type 0} → (A → Bool) → List A → Bool
any f xs = list_any f xs

-- a test tells a condition: it comes out true exactly where the condition holds
pub record Tells (b : Bool) (A : Type 0) : Type 0 where
  pub then : T b → A
  pub back : A → T b
