-- e^−u in multiples of 2^-62 is at most 2^62, and each of the parts that it is the product of.
use Rattle.std.proofs.Common.{ℕ, ◌*◌, ◌/◌, ◌%◌, ◌^◌, ◌<◌, ◌≤◌, leb, arith, leb→le}
use Rattle.exponential.specs.Exponential.{whole, fraction, times, short_series, units}
use Rattle.exponential.proofs.Times.{times_le}
use Rattle.exponential.proofs.Table.{passes}
use Rattle.exponential.proofs.ShortSeries.{short_series_le}

-- no entry of the tables is above 1: computed for each
pub whole_le : (k : ℕ) → k < 35 → whole k ≤ 2 ^ 62
unfolding whole
whole_le k h = leb→le (whole k) (2 ^ 62) (passes (λ n. leb (whole n) (2 ^ 62)) 35 tt k h)

pub fraction_le : (i : ℕ) → i < 512 → fraction i ≤ 2 ^ 62
unfolding fraction
fraction_le i h = leb→le (fraction i) (2 ^ 62) (passes (λ n. leb (fraction n) (2 ^ 62)) 512 tt i h)

module _ (w : ℕ) (below : w < 35 * 2 ^ 57) where
  pub whole_part_le : whole (w / 2 ^ 57) ≤ 2 ^ 62
  whole_part_le = whole_le (w / 2 ^ 57) (omega arith)

  pub fraction_part_le : fraction (w / 2 ^ 48 % 512) ≤ 2 ^ 62
  fraction_part_le = fraction_le (w / 2 ^ 48 % 512) (omega arith)

  pub series_part_le : short_series (w % 2 ^ 48 * 2 ^ 5) ≤ 2 ^ 62
  series_part_le = short_series_le (w % 2 ^ 48 * 2 ^ 5) (omega arith)

  pub parts_le : times (whole (w / 2 ^ 57)) (fraction (w / 2 ^ 48 % 512)) ≤ 2 ^ 62
  parts_le = times_le (whole (w / 2 ^ 57)) (fraction (w / 2 ^ 48 % 512)) (2 ^ 62) whole_part_le fraction_part_le

  pub units_le : units w ≤ 2 ^ 62
  unfolding units
  units_le = times_le (times (whole (w / 2 ^ 57)) (fraction (w / 2 ^ 48 % 512))) (short_series (w % 2 ^ 48 * 2 ^ 5)) (2 ^ 62) parts_le series_part_le
