-- The cases of 96 wells, each computed by the definitions.
use mathlib.Core.Path.{refl}
use lib.Ieee.{of_bits, lt, le, eq}
use Rattle.survey.specs.Refusals.{survey_refusal}
use Rattle.interpolator_theory.specs.Refusals as Interpolation
use Rattle.semivariogram_theory.specs.Refusals as Bins
use Rattle.cases.specs.WellsCases.{WellsCases}

pub wells_cases : WellsCases
unfolding survey_refusal Interpolation.refusal Bins.refusal lt le eq of_bits
wells_cases = record {
  library_49 = refl;
  library_96 = refl;
  library_97 = refl;
  program_48 = refl;
  program_49 = refl;
  program_96 = refl;
  library_five = refl;
  library_nine = refl;
  program_three = refl;
  program_five = refl;
  program_before_ten = refl;
  program_before_eleven = refl;
  program_nodes = refl;
  points_96 = refl;
  points_97 = refl;
  samples_96 = refl;
  samples_97 = refl;
}
