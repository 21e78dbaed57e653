-- What the parts of the call's code have worked out: the squared distances of a list of points, the bounds of the bins, and the bins while pairs are left.
use Rattle.std.specs.Prelude.{◌≡◌, ℕ, ◌+◌, ◌-◌, ◌*◌, ◌/◌, ◌<◌, ◌≤◌, min, Bool, true, false, T, List, [], length, drop, slice_index, slice_index_or, Float}
use Rattle.std.specs.Float.{nan, binary64}
use Rattle.std.specs.Float.Ieee.{fits, le, div, to_unsigned}
use Rattle.std.specs.Float.Ieee.Scale.{finite}
use Rattle.ieee.specs.Floats.{zero_float, floor_of}
use Rattle.ieee.specs.Root.{sqrt_of}
use Rattle.ieee.specs.Values.{Signed}
use Rattle.variogram.specs.Distance.{squares, axis_from}
use Rattle.survey.specs.Limits.{library, program}
use Rattle.semivariogram_theory.specs.Pairs.{Pair, pair, pairs}
use Rattle.semivariogram_theory.specs.Call.{Samples, Areas, samples}
use Rattle.semivariogram_theory.specs.Refusals.{most_bins}
use Rattle.semivariogram_theory.specs.Bins.{width, count_in, sum_in, count, kept_bins, filled}
use Rattle.semivariogram.specs.declared.binning.Bin.{Bin}

-- "i < j": of the most samples, "n > 96" being refused, so many pairs
abbrev pub most_pairs : ℕ
most_pairs = library.wells * (library.wells - 1) / 2

-- and of as many samples as the program takes of wells
abbrev pub few_pairs : ℕ
few_pairs = program.wells * (program.wells - 1) / 2

-- what is known of a call that is not refused
pub record Taken (q : Samples) : Type 0 where
  pub dimension : (1 ≤ q.dimension) × (q.dimension ≤ 3)
  pub few : samples q ≤ library.wells
  pub points : length q.points ≡ samples q * q.dimension
  pub coordinates : (k : ℕ) → k < length q.points → T (finite (slice_index_or q.points k nan))
  pub bins : (1 ≤ q.bins) × (q.bins ≤ most_bins)

-- the squared distance of a pair of points of d numbers, row after row
abbrev pub square_in : List Float → ℕ → Pair → Float
square_in points d p = squares (axis_from points (p.one * d)) (axis_from points (p.other * d)) d

-- of all pairs in their order those from the place `at` on are left
pub record Reached (all left : List Pair) (at : ℕ) : Type 0 where
  pub rest : drop at all ≡ left
  pub inside : at ≤ length all

-- each of the first `at` pairs has its number at its own place
abbrev pub Stored : (Pair → Float) → List Pair → ℕ → List Float → Type 0
Stored f all at xs = (k : ℕ) → k < at → slice_index_or xs k nan ≡ f (slice_index_or all k (pair 0 0))

-- the squared distances of all pairs, each at its pair's place
pub record Squared (q : Samples) (xs : List Float) : Type 0 where
  pub room : length (pairs (samples q)) ≤ length xs
  pub stored : Stored (square_in q.points q.dimension) (pairs (samples q)) (length (pairs (samples q))) xs

-- the bin of a distance, for a width and so many bins
abbrev pub bin_at : Float → ℕ → Float → ℕ
bin_at width bins h = min (to_unsigned 64 (floor_of (div binary64 h width))) (bins - 1)

-- a squared distance that is not below v is not in a bin before b
abbrev pub IsLow : Float → ℕ → ℕ → Float → Type 0
IsLow width bins b v = (s : Float) → Signed false s → T (fits binary64 s) → T (le v s) → b ≤ bin_at width bins (sqrt_of s)

-- one that is not above v is not in a bin after b
abbrev pub IsHigh : Float → ℕ → ℕ → Float → Type 0
IsHigh width bins b v = (s : Float) → Signed false s → T (fits binary64 s) → T (le s v) → bin_at width bins (sqrt_of s) ≤ b

-- v is above the edge before b, or below it: it bounds the bin b from below, or the one before it from above
abbrev pub Beside : Bool → Float → ℕ → ℕ → Float → Type 0
Beside true width bins b v = IsLow width bins b v
Beside false width bins b v = IsHigh width bins (b - 1) v

-- each of the first `bounded` bins has its bounds
pub record Bounds (width : Float) (bins bounded : ℕ) (lows highs : List Float) : Type 0 where
  pub low : (b : ℕ) → b < bounded → IsLow width bins b (slice_index_or lows b nan)
  pub high : (b : ℕ) → b < bounded → IsHigh width bins b (slice_index_or highs b nan)

-- no bin, and a bin with no pair
abbrev pub no_bin : Bin
no_bin = record { sum = nan; count = 0 }

abbrev pub empty : Bin
empty = record { sum = zero_float; count = 0 }

-- the pairs ps are left: each bin's sum and count, with what they add, are those over all pairs
pub record Left (q : Samples) (ps : List Pair) (sums : List Float) (counts : List ℕ) : Type 0 where
  pub sum : (b : ℕ) → b < q.bins → sum_in q b (slice_index_or sums b nan) ps ≡ sum_in q b zero_float (pairs (samples q))
  pub number : (b : ℕ) → b < q.bins → slice_index counts b + count_in q b ps ≡ count q b

-- the same of bins that have both
pub record LeftIn (q : Samples) (ps : List Pair) (bins : List Bin) : Type 0 where
  pub sum : (b : ℕ) → b < q.bins → sum_in q b (slice_index_or bins b no_bin).sum ps ≡ sum_in q b zero_float (pairs (samples q))
  pub number : (b : ℕ) → b < q.bins → (slice_index_or bins b no_bin).count + count_in q b ps ≡ count q b

-- what bins of this width come to, to which all pairs are added: so many are kept, and the areas that were `before` are `after`
abbrev pub Written : Float → List Bin → ℕ → Areas → Areas → Type 0
Written wide bins kept before after =
    (q : Samples) → q.bins ≡ length bins → wide ≡ width q → LeftIn q [] bins → (kept ≡ length (kept_bins q)) × (after ≡ filled q before)
