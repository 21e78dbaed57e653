-- The short series for an f below 1/512: its powers fall, so that it stays between 0 and 1.
use Rattle.std.proofs.Common.{ℕ, ◌+◌, ◌/◌, ◌^◌, ◌<◌, ◌≤◌, le_refl, arith}
use Rattle.exponential.specs.Exponential.{times, short_series}
use Rattle.exponential.proofs.Times.{times_le}

-- what is taken away is at most what it is taken from
pub stays_above : (f f2 f3 f4 f5 : ℕ) → f ≤ 2 ^ 53 → f3 ≤ 2 ^ 53 → f5 < 2 ^ 64 → f + f3 / 6 + f5 / 120 ≤ 2 ^ 62 + f2 / 2 + f4 / 24
stays_above f f2 f3 f4 f5 a b d = omega arith

-- f², f³, f⁴ and f⁵ are at most f
module _ (f : ℕ) (small : f < 2 ^ 53) where
  pub second_le : times f f ≤ f
  second_le = times_le f f f (le_refl f) (omega arith)

  pub third_le : times f (times f f) ≤ f
  third_le = times_le f (times f f) f (le_refl f) (omega (arith, second_le))

  pub fourth_le : times (times f f) (times f f) ≤ f
  fourth_le = times_le (times f f) (times f f) f second_le (omega (arith, second_le))

  pub fifth_le : times (times f f) (times f (times f f)) ≤ f
  fifth_le = times_le (times f f) (times f (times f f)) f second_le (omega (arith, third_le))

  pub short_series_le : short_series f ≤ 2 ^ 62
  unfolding short_series
  short_series_le = omega (arith, second_le, third_le, fourth_le, fifth_le)
