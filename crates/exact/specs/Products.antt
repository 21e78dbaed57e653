-- A finite sum of products of f64, as a whole number.
use Rattle.std.specs.Prelude.{ℕ, ◌+◌, ◌*◌, ◌^◌, ◌≤◌, List, length, ℤ, ◌*ℤ◌, slice_index_or, unsigned_abs, Float}
use Rattle.std.specs.Float.{nan}
use Rattle.exact.specs.Units.{units}
use Rattle.exact.specs.Whole.{sumℤ}

-- "Σ z_i·F_ij", in units of 2^-2148: z with a column of f, whose rows of that width lie one after another.
-- What f does not have is no number, and counts as 0.
unfoldable pub dotted : List Float → List Float → ℕ → ℕ → ℤ
dotted z f column width = sumℤ (length z) (λ i. units (slice_index_or z i nan) *ℤ units (slice_index_or f (column + i * width) nan))

-- z is no further from 0 than k products of two f64 can be, each of which is below 2^4198
unfoldable pub term_bound : ℕ
term_bound = 2 ^ 4198

pub record Terms (k : ℕ) (z : ℤ) : Type 0 where
  pub within : unsigned_abs z ≤ k * term_bound
