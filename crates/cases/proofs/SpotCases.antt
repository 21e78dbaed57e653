-- The cases of the same-spot distance, each computed by the definitions.
use mathlib.Core.Path.{refl}
use lib.Ieee.{of_bits, to_bits, add, sub, mul, div, lt, le, eq, of_int, to_unsigned, round}
use Rattle.variogram.specs.Model.{semivariance}
use Rattle.exponential.specs.Exponential.{exp_neg}
use Rattle.kriging_theory.specs.Refusals as Fit
use Rattle.interpolator_theory.specs.Refusals as Interpolation
use Rattle.kriging_theory.specs.Fit.{fitted}
use Rattle.cases.specs.SpotCases.{SpotCases}

pub spot_cases : SpotCases
unfolding fitted Fit.refusal Interpolation.refusal semivariance exp_neg add sub mul div lt le eq of_int to_unsigned round of_bits to_bits
spot_cases = record {
  below = refl;
  equal = refl;
  of_new = refl;
  apart = refl;
  plain = refl;
  nearer = refl;
  told_apart = refl;
  not_told_apart = refl;
  least = refl;
  greatest = refl;
  step_below = refl;
  nothing = refl;
  minus_nothing = refl;
  minus_one = refl;
  infinite = refl;
  not_a_number = refl;
  eleven_first = refl;
  ten_first = refl;
  before_twelve = refl;
  twelve = refl;
  before_seventeen = refl;
  seventeen = refl;
  interpolator = refl;
  interpolator_least = refl;
  interpolator_dimension = refl;
}
