-- The same-spot distance by the bits of an f64, apart from the test that the variogram makes: paper 02, "Two wells in one yard".
use Rattle.std.specs.Prelude.{ℕ, suc, ◌≤◌, ◌<◌, ◌≡◌}
use Rattle.std.specs.Float.{binary64}
use Rattle.std.specs.Float.Ieee.{of_bits}
use Rattle.ieee.specs.Floats.{zero_float}
use Rattle.exponential.specs.Exponential.{exp_neg}
use Rattle.variogram.specs.declared.Variogram.{Variogram}
use Rattle.variogram.specs.Model.{with_same_spot, of_model, semivariance}

-- a variogram whose same-spot distance is the f64 of the pattern b + 1: "0 below it", of the f64 just below, the pattern b; and "A distance equal to the
-- field is not the same spot": there it is the model's
pub record OneStep (v : Variogram) (b : ℕ) : Type 0 where
  pub below : semivariance (with_same_spot v (of_bits binary64 (suc b))) (of_bits binary64 b) ≡ zero_float
  pub equal : semivariance (with_same_spot v (of_bits binary64 (suc b))) (of_bits binary64 (suc b))
      ≡ of_model exp_neg v.model v.nugget v.sill v.range (of_bits binary64 (suc b))

-- "22 same-spot distance not finite or below 2^-52": the patterns from that of 2^-52 to that of the greatest f64 are taken, and no other
abbrev pub Taken : ℕ → Type 0
Taken b = (0x3cb0_0000_0000_0000 ≤ b) × (b < 0x7ff0_0000_0000_0000)
