-- One pass over the pairs, as code makes it: sample after sample, and of each the later ones.
use Rattle.std.proofs.Common.{◌≡◌, ℕ, suc, ◌+◌, ◌-◌, ◌<◌, ◌≤◌, List, [], ◌∷◌, ◌++◌, map, sym, refl, ap, ◌∙◌, add-one, arith}
use mathlib.Core.List.{map-append}
use lib.Ieee.{Float}
use Rattle.ieee.specs.Floats.{max_of}
use Rattle.semivariogram_theory.specs.Pairs.{Pair, pair, rising, pairs_from, pairs}
use Rattle.semivariogram_theory.specs.Bins.{greatest}

-- the pairs of the sample i with each later one of n
abbrev pub later : ℕ → ℕ → List Pair
later i n = map (pair i) (rising (suc i) (n - suc i))

-- of those, the ones from the sample j on
abbrev pub later_from : ℕ → ℕ → ℕ → List Pair
later_from i j n = map (pair i) (rising j (n - j))

-- the pairs from the sample i on are its own and those from the next on
pub next_sample : (i n : ℕ) → i < n → pairs_from i (n - i) ≡ later i n ++ pairs_from (suc i) (n - suc i)
unfolding pairs_from
next_sample i n h = let e : n - i ≡ suc (n - suc i) = omega arith in ap (pairs_from i) e

pub no_sample : (i n : ℕ) → n ≤ i → pairs_from i (n - i) ≡ []
unfolding pairs_from
no_sample i n h = let e : n - i ≡ 0 = omega arith in ap (pairs_from i) e

-- and of one sample's pairs one comes after another
pub next_later : (i j n : ℕ) → j < n → later_from i j n ≡ pair i j ∷ later_from i (suc j) n
unfolding rising
next_later i j n h = let e : n - j ≡ suc (n - suc j) = omega arith in ap (λ (k : ℕ). map (pair i) (rising j k)) e

pub no_later : (i j n : ℕ) → n ≤ j → later_from i j n ≡ []
unfolding rising
no_later i j n h = let e : n - j ≡ 0 = omega arith in ap (λ (k : ℕ). map (pair i) (rising j k)) e

-- all of them
pub all_pairs : (n : ℕ) → pairs n ≡ pairs_from 0 (n - 0)
unfolding pairs
all_pairs n = let e : n ≡ n - 0 = omega arith in ap (pairs_from 0) e

-- the greatest of two lists, one after the other
pub greatest_append : (m : Float) (xs ys : List Float) → greatest m (xs ++ ys) ≡ greatest (greatest m xs) ys
unfolding greatest
greatest_append m [] ys = refl
greatest_append m (x ∷ xs) ys = greatest_append (max_of x m) xs ys

module _ (far : Pair → Float) where
  greatest_next : (m : Float) (i j n : ℕ) → j < n
      → greatest m (map far (later_from i j n)) ≡ greatest (max_of (far (pair i j)) m) (map far (later_from i (suc j) n))
  unfolding greatest
  greatest_next m i j n h = ap (λ (ps : List Pair). greatest m (map far ps)) (next_later i j n h)

  -- one pair more: h is its distance, and r the greater of the two
  pub greatest_turn : (m h r : Float) (i j n : ℕ) → j < n → h ≡ far (pair i j) → r ≡ max_of h m
      → greatest r (map far (later_from i (j + 1) n)) ≡ greatest m (map far (later_from i j n))
  greatest_turn m h r i j n l e f = rw (add-one, f, e) (sym (greatest_next m i j n l))

  -- none is left of a sample's
  pub greatest_last : (m : Float) (i j n : ℕ) → n ≤ j → greatest m (map far (later_from i j n)) ≡ m
  unfolding greatest
  greatest_last m i j n h = ap (λ (ps : List Pair). greatest m (map far ps)) (no_later i j n h)

  -- one sample more: r is the greatest with its pairs
  pub greatest_sample : (m r : Float) (i n : ℕ) → i < n → r ≡ greatest m (map far (later i n))
      → greatest r (map far (pairs_from (i + 1) (n - (i + 1)))) ≡ greatest m (map far (pairs_from i (n - i)))
  greatest_sample m r i n h e =
      rw (add-one, e)
      (sym
      (ap (λ (ps : List Pair). greatest m (map far ps)) (next_sample i n h)
      ∙ ap (greatest m) (map-append far (later i n) (pairs_from (suc i) (n - suc i)))
      ∙ greatest_append m (map far (later i n)) (map far (pairs_from (suc i) (n - suc i)))))

  -- none is left
  pub greatest_none : (m : Float) (i n : ℕ) → n ≤ i → greatest m (map far (pairs_from i (n - i))) ≡ m
  unfolding greatest
  greatest_none m i n h = ap (λ (ps : List Pair). greatest m (map far ps)) (no_sample i n h)
