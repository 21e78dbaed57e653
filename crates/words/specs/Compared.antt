-- Two exact sums compared: paper 02, "Audit comparison that stops early".
use Rattle.std.specs.Prelude.{◌≡◌, ℕ, suc, ◌-◌, ◌^◌, ◌<◌, Bool, true, false, cond, List, [], ◌∷◌, ℤ, pos, ◌-ℤ◌, ◌==◌, int_lt, nat_lt, slice_index}
use Rattle.std.proofs.Math.Option.{Option, none, some}
use Rattle.std.specs.declared.cmp.Ordering.{Ordering}
use Rattle.std.specs.declared.cmp.Ordering.TheVariants.{Less, Equal, Greater}

-- "It answers their order": how one whole number stands to another
abbrev pub order_of : ℤ → ℤ → Ordering
order_of x y = cond (int_lt x y) Less (cond (int_lt y x) Greater Equal)

-- which orders are those of a number that is at most the other
abbrev pub is_at_most : Ordering → Bool
is_at_most Less = true
is_at_most Equal = true
is_at_most Greater = false

-- ---- the words that decide

-- "the highest differing word" stands at place i: there the two differ, and nowhere above
pub record HighestDiffering (a b : List ℕ) (i : ℕ) : Type 0 where
  pub differs : slice_index a i ≡ slice_index b i → ⊥
  pub above : (j : ℕ) → i < j → slice_index a j ≡ slice_index b j

-- "the top word read as signed": in two's complement, as the whole sum is
abbrev pub signed_word : ℕ → ℤ
signed_word w = cond (nat_lt w (2 ^ 63)) (pos w) (pos w -ℤ pos (2 ^ 64))

-- a word as it is read at its place: of 67 the one at 66 is the top word
abbrev pub read_at : ℕ → ℕ → ℤ
read_at place w = cond (place == 66) (signed_word w) (pos w)

-- ---- how many words

-- a place among the higher words counts one more with the lowest before them; where there is none, what the lowest says
abbrev pub or_lowest : Option ℕ → Option ℕ → Option ℕ
or_lowest (some i) lowest = some (suc i)
or_lowest none lowest = lowest

-- the lowest word stands at place 0
abbrev pub lowest_place : ℕ → ℕ → Option ℕ
lowest_place x y = cond (x == y) none (some 0)

-- "the place of the highest differing word, counted from 0 at the lowest"; none where no word differs
abbrev pub highest_place : List ℕ → List ℕ → Option ℕ
highest_place [] ys = none
highest_place (x ∷ xs) [] = none
highest_place (x ∷ xs) (y ∷ ys) = or_lowest (highest_place xs ys) (lowest_place x y)

-- "67 less the place of the highest differing word .. or 67 if they are equal"
abbrev pub less_place : Option ℕ → ℕ
less_place (some i) = 67 - i
less_place none = 67

-- "how many words that took"
unfoldable pub words_taken : List ℕ → List ℕ → ℕ
words_taken a b = less_place (highest_place a b)

-- what such a place must say of the two, apart from how it is found
abbrev pub SaysOf : List ℕ → List ℕ → Option ℕ → Type 0
SaysOf a b (some i) = HighestDiffering a b i
SaysOf a b none = a ≡ b
