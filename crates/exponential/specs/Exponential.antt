-- e^−u for an f64 u, worked out in whole multiples of 2^-62. How far it lies from the exact value is said in specs/Exact.antt and proved.
use Rattle.std.specs.Prelude.{ℕ, ◌+◌, ◌-◌, ◌*◌, ◌/◌, ◌%◌, ◌^◌, min, cond, List, pos, from_bits, slice_index, Float}
use Rattle.std.specs.Float.{nan, binary64}
use Rattle.std.specs.Float.Ieee.{of_int, mul, le}
use Rattle.area.specs.Area.{table}
use Rattle.ieee.specs.Floats.{zero_float}
use Rattle.ieee.specs.Values.{multiple}
use Rattle.series.specs.Series.{over, added, taken}

-- the whole multiple of 2^-62 nearest the sum of the series for a / d that ends at the power n
unfoldable pub nearest_units : ℕ → ℕ → ℕ → ℕ
unfolding over added taken
nearest_units n a d = (2 * 2 ^ 62 * (added a d n - taken a d n) + over d n) / (2 * over d n)

-- "A table holds e^−(i/512) for i from 0 to 511 as whole multiples of 2^-62"
unfoldable pub fraction : ℕ → ℕ
unfolding nearest_units
fraction i = nearest_units 23 i 512

-- and e^−k for the whole numbers k below 35
unfoldable pub whole : ℕ → ℕ
unfolding nearest_units
whole k = nearest_units 151 k 1

-- the table itself, for a caller that has many numbers to ask for
unfoldable pub fraction_table : List ℕ
unfolding fraction
fraction_table = table 512 fraction

-- entry i of a table that is lent, whatever that holds: no more than 1
abbrev pub entry_of : List ℕ → ℕ → ℕ
entry_of lent i = min (slice_index lent i) (2 ^ 62)

-- a product of two multiples of 2^-62
abbrev pub times : ℕ → ℕ → ℕ
times a b = a * b / 2 ^ 62

-- 1 − f + f²/2 − f³/6 + f⁴/24 − f⁵/120 for a small f, from f, f² and f³
abbrev pub from_powers : ℕ → ℕ → ℕ → ℕ
from_powers f f2 f3 = 2 ^ 62 + f2 / 2 + times f2 f2 / 24 - (f + f3 / 6 + times f2 f3 / 120)

unfoldable pub short_series : ℕ → ℕ
short_series f = from_powers f (times f f) (times f (times f f))

-- e^−u in multiples of 2^-62, for u = w · 2^-57 = k + i / 512 + f below 35
unfoldable pub units : ℕ → ℕ
unfolding fraction whole short_series
units w = times (times (whole (w / 2 ^ 57)) (fraction (w / 2 ^ 48 % 512))) (short_series (w % 2 ^ 48 * 2 ^ 5))

-- and by a table that is lent
unfoldable pub units_by : List ℕ → ℕ → ℕ
unfolding whole short_series
units_by lent w = times (times (whole (w / 2 ^ 57)) (entry_of lent (w / 2 ^ 48 % 512))) (short_series (w % 2 ^ 48 * 2 ^ 5))

-- the same as an f64: 53 digits after the point, the last one rounded
unfoldable pub shown : ℕ → Float
shown y = mul binary64 (of_int binary64 (pos ((y + 2 ^ 8) / 2 ^ 9))) (from_bits binary64 0x3ca0_0000_0000_0000)

-- 35: from there on e^−u is below 2^-50, and 0 stands for it
abbrev pub cut : Float
cut = from_bits binary64 0x4041_8000_0000_0000

-- "An infinite u gives 0; a NaN gives NaN". −0 counts as 0; below zero, which the papers leave free, it is a NaN
abbrev pub by_range : Float → Float → Float
by_range u y = cond (le cut u) zero_float (cond (le zero_float u) y nan)

-- "e^−u for finite u ≥ 0"
unfoldable pub exp_neg : Float → Float
unfolding units shown
exp_neg u = by_range u (shown (units (multiple u / 2 ^ 1017)))

-- the same by a table that is lent: e^−u where that is the table above
unfoldable pub exp_neg_by : List ℕ → Float → Float
unfolding units_by shown
exp_neg_by lent u = by_range u (shown (units_by lent (multiple u / 2 ^ 1017)))
