-- How a call of the semivariogram ends, in other words than its definitions: each bin by the list of the pairs whose bin it is, each pair's bin and each
-- centre written out.
use Rattle.std.specs.Prelude.{ℕ, ◌+◌, ◌-◌, ◌*◌, ◌/◌, ◌^◌, ◌<◌, min, ◌≡◌, ◌≢◌, ◌⊎◌, ◌↔◌, Bool, false, List, [], ◌∷◌, map, T, eqb, ltb, length, get_or, take, Float}
use Rattle.std.specs.Float.{nan, inf, binary64}
use Rattle.std.specs.Float.Ieee.{add, mul, div, lt}
use Rattle.std.specs.Float.Ieee.Scale.{finite}
use Rattle.area.specs.Area.{Kept}
use Rattle.error.specs.Rules.{Ruled, NoneApplies}
use Rattle.ieee.specs.Floats.{zero_float}
use Rattle.ieee.specs.Values.{multiple, sign_of}
use Rattle.survey.specs.declared.Limits.{Limits}
use Rattle.semivariogram_theory.specs.Pairs.{Pair, pair, rising, pairs, filtered}
use Rattle.semivariogram_theory.specs.Call.{Samples, Areas, Outcome, samples}
use Rattle.semivariogram_theory.specs.Rules.{rules}
use Rattle.semivariogram_theory.specs.Bins.{as_float, half, lag, half_square, longest, bin_of}

-- "greatest distance": no pair is farther apart than h, and h is the distance of a pair, or the +0 from which the search begins
pub record Greatest (q : Samples) (h : Float) : Type 0 where
  pub none_farther : (i j : ℕ) → i < j → j < samples q → lt h (lag q (pair i j)) ≡ false
  pub reached : (h ≡ zero_float) ⊎ ((p : Pair) × (p.one < p.other) × (p.other < samples q) × (lag q p ≡ h))

-- "distance/width", where "Width = greatest distance / bins"
abbrev pub quotient : Samples → Pair → Float
quotient q p = div binary64 (lag q p) (div binary64 (longest q) (as_float q.bins))

-- "Bin = floor(distance/width), NaN as 0, above the last as the last": the pair's bin is b. The quotient is never negative; where it is a number its whole
-- part is that of a whole multiple of 2^-1074
pub record BinOf (q : Samples) (p : Pair) (b : ℕ) : Type 0 where
  pub not_negative : sign_of (quotient q p) ≡ false
  pub number : T (finite (quotient q p)) → b ≡ min (multiple (quotient q p) / 2 ^ 1074) (q.bins - 1)
  pub not_a_number : quotient q p ≡ nan → b ≡ 0
  pub infinite : quotient q p ≡ inf false → b ≡ q.bins - 1

-- the pairs whose bin is b, in their order
abbrev pub pairs_in : Samples → ℕ → List Pair
pairs_in q b = filtered (λ p. eqb (bin_of q p) b) (pairs (samples q))

-- numbers added to a sum one after the other, each addition rounded
unfoldable pub added_up : Float → List Float → Float
added_up sum [] = sum
added_up sum (x ∷ xs) = added_up (add binary64 sum x) xs

-- the sum of counts
unfoldable pub total : List ℕ → ℕ
total [] = 0
total (x ∷ xs) = x + total xs

-- a bin is kept where a pair is in it
abbrev pub is_kept : Samples → ℕ → Bool
is_kept q b = ltb 0 (length (pairs_in q b))

-- how many kept bins lie below the bin b
abbrev pub rank : Samples → ℕ → ℕ
rank q b = length (filtered (is_kept q) (rising 0 b))

-- what stands at the place r is of the bin b: its centre, "(i + 0.5)·width"; the average over the pairs whose bin it is; and how many these are
pub record Row (q : Samples) (exit : Areas) (r b : ℕ) : Type 0 where
  pub distance : get_or exit.distances r nan ≡ mul binary64 (add binary64 (as_float b) half) (div binary64 (longest q) (as_float q.bins))
  pub semivariance : get_or exit.semivariances r nan ≡ div binary64 (added_up zero_float (map (half_square q) (pairs_in q b))) (as_float (length (pairs_in q b)))
  pub count : get_or exit.counts r 0 ≡ length (pairs_in q b)

-- a kept bin and its rank
pub record KeptAt (q : Samples) (r b : ℕ) : Type 0 where
  pub bin : b < q.bins
  pub pair : 0 < length (pairs_in q b)
  pub rank : rank q b ≡ r

-- an accepted call: a is what it was lent, o how it ended
pub record Binned (q : Samples) (a : Areas) (o : Outcome) : Type 0 where
  -- "greatest distance"
  pub greatest : Greatest q (longest q)
  -- each pair i < j is in its bin
  pub bins : (i j : ℕ) → i < j → j < samples q → BinOf q (pair i j) (bin_of q (pair i j))
  -- "The counts add up to n(n−1)/2."
  pub counts : total (take o.kept o.areas.counts) ≡ samples q * (samples q - 1) / 2
  -- each kept bin stands at its rank
  pub rows : (b : ℕ) → b < q.bins → 0 < length (pairs_in q b) → (rank q b < o.kept) × Row q o.areas (rank q b) b
  -- each place is a kept bin's
  pub places : (r : ℕ) → r < o.kept → (b : ℕ) × KeptAt q r b
  -- "rising"
  pub rising : (b c : ℕ) → b < c → 0 < length (pairs_in q b) → rank q b < rank q c
  -- "Only their places are written"
  pub distances : Kept o.kept a.distances o.areas.distances
  pub semivariances : Kept o.kept a.semivariances o.areas.semivariances
  pub others : Kept o.kept a.counts o.areas.counts

-- a call ended as o: each number exactly when, and what its areas hold then
pub record Ends (limits : Limits) (q : Samples) (a : Areas) (o : Outcome) : Type 0 where
  -- the number is that of the first rule that applies, 0 where none does
  pub ruled : (k : ℕ) → (o.number ≡ k) ↔ Ruled (rules limits q a) k
  -- 0: no rule applies
  pub accepted : (o.number ≡ 0) ↔ NoneApplies (rules limits q a)
  -- "A refusal carries only its number and writes nothing"
  pub refused : o.number ≢ 0 → (o.kept ≡ 0) × (o.areas ≡ a)
  pub binned : o.number ≡ 0 → Binned q a o
