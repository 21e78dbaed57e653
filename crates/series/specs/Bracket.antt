-- Paper 02, Slip 1: "The exact value is bracketed by partial sums of the alternating series, .. each sum ending at a power above u".
use Rattle.std.specs.Prelude.{ℕ, ◌+◌, ◌*◌, ◌≤◌, ◌<◌, ◌≡◌, true, false}
use Rattle.series.specs.Series.{even, over, added, taken}

-- y / q is at most the sum that ends at the power n, and t / q more; and at least that sum, less t / q
abbrev pub AtMost : ℕ → ℕ → ℕ → ℕ → ℕ → ℕ → Type 0
AtMost a d n y q t = y * over d n + q * taken a d n ≤ q * added a d n + t * over d n

abbrev pub AtLeast : ℕ → ℕ → ℕ → ℕ → ℕ → ℕ → Type 0
AtLeast a d n y q t = q * added a d n ≤ (y + t) * over d n + q * taken a d n

-- y / q lies within t / q of e^−(a/d): no upper sum, whose last power is even, lies more than t / q below it, and no lower sum, whose last power is odd,
-- more than t / q above it. The paper asks for the sums that end at a power above a / d: of the lower ones those are asked for, of the upper ones every
-- one, since no upper sum lies below e^−u, wherever it ends
pub record Within (a d y q t : ℕ) : Type 0 where
  pub not_above : (n : ℕ) → even n ≡ true → AtMost a d n y q t
  pub not_below : (n : ℕ) → even n ≡ false → a < n * d → AtLeast a d n y q t

-- what that says of e^−1, by sums worked out by hand: with y and t in units of 1 / q, 1/3 − t ≤ y ≤ 3/8 + t by the powers 3 and 4, and y ≤ 1 + t by power 0
pub record OfOne (y q t : ℕ) : Type 0 where
  pub at_least : q ≤ 3 * (y + t)
  pub at_most : 8 * y ≤ 3 * q + 8 * t
  pub first : y ≤ q + t
