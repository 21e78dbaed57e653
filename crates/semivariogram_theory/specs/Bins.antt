-- The bins of a semivariogram: paper 01, "Semivariogram", each operation rounded once.
use Rattle.std.specs.Prelude.{ℕ, suc, ◌-◌, min, cond, List, [], ◌∷◌, map, eqb, ltb, pos, length, get_or, Float}
use Rattle.std.specs.Float.{nan, binary64}
use Rattle.std.specs.Float.Ieee.{of_bits, add, sub, mul, div, of_int, to_unsigned}
use Rattle.area.specs.Area.{written}
use Rattle.ieee.specs.Floats.{zero_float, max_of, floor_of}
use Rattle.variogram.specs.Distance.{square, distance}
use Rattle.semivariogram_theory.specs.Pairs.{Pair, rising, pairs, filtered}
use Rattle.semivariogram_theory.specs.Call.{Samples, Areas, samples}

-- a whole number as an f64
abbrev pub as_float : ℕ → Float
as_float n = of_int binary64 (pos n)

-- 0.5
abbrev pub half : Float
half = of_bits binary64 0x3fe0_0000_0000_0000

-- the distance of a pair
unfoldable pub lag : Samples → Pair → Float
unfolding distance
lag q p = distance q.points p.one q.points p.other q.dimension

-- "0.5·(difference)²"
unfoldable pub half_square : Samples → Pair → Float
half_square q p = mul binary64 half (square (sub binary64 (get_or q.values p.one nan) (get_or q.values p.other nan)))

-- the greatest of some distances, and of `most`
unfoldable pub greatest : Float → List Float → Float
greatest most [] = most
greatest most (h ∷ hs) = greatest (max_of h most) hs

-- "greatest distance": of all pairs, from +0 on, below which no distance is
unfoldable pub longest : Samples → Float
unfolding lag greatest pairs
longest q = greatest zero_float (map (lag q) (pairs (samples q)))

-- "Width = greatest distance / bins"
unfoldable pub width : Samples → Float
unfolding longest
width q = div binary64 (longest q) (as_float q.bins)

-- "Bin = floor(distance/width), NaN as 0, above the last as the last": as a whole number a NaN is 0, and infinity and all that is too great is 2^64 - 1
unfoldable pub bin_of : Samples → Pair → ℕ
unfolding lag width floor_of
bin_of q p = min (to_unsigned 64 (floor_of (div binary64 (lag q p) (width q)))) (q.bins - 1)

-- how many of some pairs are in the bin b
unfoldable pub count_in : Samples → ℕ → List Pair → ℕ
unfolding bin_of
count_in q b [] = 0
count_in q b (p ∷ ps) = cond (eqb (bin_of q p) b) (suc (count_in q b ps)) (count_in q b ps)

-- what some pairs of the bin b add to a sum, one after the other
unfoldable pub sum_in : Samples → ℕ → Float → List Pair → Float
unfolding bin_of half_square
sum_in q b sum [] = sum
sum_in q b sum (p ∷ ps) = sum_in q b (cond (eqb (bin_of q p) b) (add binary64 sum (half_square q p)) sum) ps

-- "the count" of a bin
unfoldable pub count : Samples → ℕ → ℕ
unfolding count_in pairs
count q b = count_in q b (pairs (samples q))

-- "sum/count" of a bin
unfoldable pub average : Samples → ℕ → Float
unfolding sum_in count pairs
average q b = div binary64 (sum_in q b zero_float (pairs (samples q))) (as_float (count q b))

-- "(i + 0.5)·width" of the bin i
unfoldable pub centre : Samples → ℕ → Float
unfolding width
centre q i = mul binary64 (add binary64 (as_float i) half) (width q)

-- "Kept bins (count above 0), rising"
unfoldable pub kept_bins : Samples → List ℕ
unfolding count filtered rising
kept_bins q = filtered (λ b. ltb 0 (count q b)) (rising 0 q.bins)

-- "Kept bins ..: (i + 0.5)·width, sum/count, and the count. Only their places are written"
unfoldable pub filled : Samples → Areas → Areas
unfolding kept_bins centre average count
filled q a =
    let bins = kept_bins q in
    record {
      distances = written 0 (length bins) (λ r. centre q (get_or bins r 0)) a.distances;
      semivariances = written 0 (length bins) (λ r. average q (get_or bins r 0)) a.semivariances;
      counts = written 0 (length bins) (λ r. count q (get_or bins r 0)) a.counts;
    }
