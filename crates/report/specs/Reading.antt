-- Printed numbers by reading them, and not by how they are made: what a text of digits must be to be a number's.
use Rattle.std.specs.Prelude.{ℕ, ◌+◌, ◌-◌, ◌*◌, ◌≤◌, ◌<◌, ◌≡◌, ◌⊎◌, cond, List, [], ◌∷◌, ltb, length, get_or}

-- `0` to `9`
abbrev pub IsTen : ℕ → Type 0
IsTen b = (48 ≤ b) × (b ≤ 57)

-- `0` to `9` or `a` to `f`
abbrev pub IsSixteen : ℕ → Type 0
IsSixteen b = IsTen b ⊎ ((97 ≤ b) × (b ≤ 102))

-- the number that a digit stands for
unfoldable pub meant : ℕ → ℕ
meant b = cond (ltb b 97) (b - 48) (b - 87)

-- digits read in a base, after those that gave n
abbrev pub read_after : ℕ → ℕ → List ℕ → ℕ
read_after base n [] = n
read_after base n (b ∷ bs) = read_after base (n * base + meant b) bs

-- all of a text's bytes are such
abbrev pub Each : (ℕ → Type 0) → List ℕ → Type 0
Each P [] = Unit {0}
Each P (b ∷ bs) = P b × Each P bs

-- "decimal": digits that read as n, without a zero in front where there is more than one
pub record Decimal (n : ℕ) (text : List ℕ) : Type 0 where
  pub digits : Each IsTen text
  pub reads : read_after 10 0 text ≡ n
  pub some : 0 < length text
  pub no_zero_in_front : 1 < length text → 48 < get_or text 0 0

-- "16 hexadecimal digits in small letters"
pub record Hexadecimal (n : ℕ) (text : List ℕ) : Type 0 where
  pub digits : Each IsSixteen text
  pub reads : read_after 16 0 text ≡ n
  pub sixteen : length text ≡ 16
