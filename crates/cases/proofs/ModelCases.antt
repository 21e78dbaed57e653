-- The cases of the Exponential and the Gaussian model, each computed by the definitions.
use mathlib.Core.Path.{refl}
use lib.Ieee.{of_bits, to_bits, add, sub, mul, div, lt, le, eq, of_int, to_unsigned, round}
use Rattle.exponential.specs.Exponential.{exp_neg}
use Rattle.interpolator_theory.specs.Refusals.{refusal}
use Rattle.kriging_theory.specs.Fit.{fitted}
use Rattle.cases.specs.ModelCases.{ModelCases}

pub model_cases : ModelCases
unfolding fitted refusal exp_neg add sub mul div lt le eq of_int to_unsigned round of_bits to_bits
model_cases = record {
  exponential = refl;
  gaussian = refl;
  exponential_0 = refl;
  exponential_minus_0 = refl;
  exponential_minus_4 = refl;
  exponential_least = refl;
  gaussian_0 = refl;
  gaussian_minus_4 = refl;
  interpolator_0 = refl;
  interpolator_4 = refl;
  interpolator_gaussian_0 = refl;
}
