-- The entries of a fit's matrix by the part that they stand in: between wells, F, its transpose, zeros.
use Rattle.std.proofs.Common.{◌≡◌, ◌≢◌, ℕ, ◌-◌, ◌<◌, ◌≤◌, List}
use borrow.Author.Tests.{lt-ltb, le-ltb, eq-eqb, ne_eqb}
use lib.Ieee.{Float, binary64, add}
use Rattle.ieee.specs.Floats.{zero_float}
use Rattle.variogram.specs.Model.{semivariance}
use Rattle.variogram.specs.Distance.{distance2d}
use Rattle.survey.specs.declared.UniversalKrigingOptions.{UniversalKrigingOptions}
use Rattle.survey.specs.Survey.{Survey, wells, x_of, y_of}
use Rattle.kriging_theory.specs.Drift.{drift}
use Rattle.kriging_theory.specs.Assembly.{between, joined, entry}
use Rattle.kriging_theory.proofs.System.{joined_back}

module _ (options : UniversalKrigingOptions) (coords : List Float) (i j : ℕ) where
  pub between_own : i ≡ j → add binary64 zero_float options.regularization ≡ between options coords i j
  unfolding between
  between_own h = rw (eq-eqb i j h)

  pub between_others : i ≢ j
      → semivariance options.variogram (distance2d (x_of coords i) (y_of coords i) (x_of coords j) (y_of coords j)) ≡ between options coords i j
  unfolding between
  between_others h = rw (ne_eqb i j h)

-- on the diagonal or past it
module _ (s : Survey) (i j : ℕ) where
  pub between_wells : i < wells s → j < wells s → between s.options s.coords i j ≡ entry s i j
  unfolding entry joined
  between_wells hi hj = rw (lt-ltb i (wells s) hi, lt-ltb j (wells s) hj)

  pub drift_entry : i < wells s → wells s ≤ j → drift s i (j - wells s) ≡ entry s i j
  unfolding entry joined
  drift_entry hi hj = rw (lt-ltb i (wells s) hi, le-ltb j (wells s) hj)

  pub zero_entry : wells s ≤ i → wells s ≤ j → zero_float ≡ entry s i j
  unfolding entry joined
  zero_entry hi hj = rw (le-ltb i (wells s) hi, le-ltb j (wells s) hj)

  -- across the diagonal it is the same: the matrix is its own transpose
  pub entry_back : entry s i j ≡ entry s j i
  unfolding entry
  entry_back = joined_back (wells s) s.options s.coords (drift s) i j
