-- Pairs of sums in 67 words, by hand from paper 02, "Audit comparison that stops early": their order, and how many words tell it.
use Rattle.std.specs.Prelude.{ℕ, ◌-◌, ◌^◌, ◌≡◌, List, ◌∷◌, ◌++◌, replicate}
use Rattle.words.specs.Words.{reading}
use Rattle.words.specs.Compared.{order_of, words_taken}
use Rattle.std.specs.declared.cmp.Ordering.{Ordering}
use Rattle.std.specs.declared.cmp.Ordering.TheVariants.{Less, Equal, Greater}

-- 67 words, all one word but that at a place
abbrev pub all_but : ℕ → ℕ → ℕ → List ℕ
all_but rest place word = replicate place rest ++ word ∷ replicate (66 - place) rest

abbrev pub nothing : List ℕ
nothing = replicate 67 0

-- a word of ones
abbrev pub ones : ℕ
ones = 2 ^ 64 - 1

abbrev pub Told : List ℕ → List ℕ → Ordering → ℕ → Type 0
Told a b order words = (order_of (reading a) (reading b) ≡ order) × (words_taken a b ≡ words)

pub record ComparisonCases : Type 0 where
  -- "or 67 if they are equal"
  pub equal : Told nothing nothing Equal 67
  pub equal_below_zero : Told (replicate 67 ones) (replicate 67 ones) Equal 67
  -- "67 less the place of the highest differing word, counted from 0 at the lowest": 67 at the lowest place, 66 at the next, 1 at the top
  pub one_unit : Told (all_but 0 0 1) nothing Greater 67
  pub second_word : Told nothing (all_but 0 1 1) Less 66
  pub top_word : Told (all_but 0 66 1) nothing Greater 1
  -- "the top word read as signed": 2^63 there is −2^4287, and all ones −1
  pub lowest_of_all : Told (all_but 0 66 (2 ^ 63)) (all_but 0 66 (2 ^ 63 - 1)) Less 1
  pub minus_one : Told (replicate 67 ones) nothing Less 1
  pub minus_one_above : Told (replicate 67 ones) (all_but ones 0 0) Greater 67
  -- and no other: 2^63 one place below is above 2^63 − 1
  pub lower_word : Told (all_but 0 65 (2 ^ 63)) (all_but 0 65 (2 ^ 63 - 1)) Greater 2
  -- neighbours across a carry: 2^64 − 1 and 2^64 differ in both words, and the higher one decides
  pub carry : Told (all_but 0 0 ones) (all_but 0 1 1) Less 66
