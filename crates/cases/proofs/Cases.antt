-- The one lemma that holds the computed cases.
use mathlib.Core.Path.{refl}
use lib.Ieee.{of_bits, to_bits, add, sub, mul, div, lt, le, eq, of_int, to_unsigned, round}
use Rattle.semivariogram_theory.specs.Semivariogram.{calculated}
use Rattle.survey_file_theory.proofs.Cases.{writes_bytes, reads_bytes, reads_noted, writes_models}
use Rattle.cases.specs.Cases.{FourBins, Cases}
use Rattle.cases.proofs.FitCases.{fit_cases}
use Rattle.cases.proofs.InterpolationCases.{interpolation_cases}
use Rattle.cases.proofs.ModelCases.{model_cases}
use Rattle.cases.proofs.SpotCases.{spot_cases}
use Rattle.cases.proofs.WellsCases.{wells_cases}
use Rattle.cases.proofs.SlopeCases.{slope_cases}
use Rattle.cases.proofs.ComparisonCases.{comparison_cases}
use Rattle.cases.proofs.FileCases.{file_cases}
use Rattle.cases.proofs.RefusalCases.{refusal_cases}

four_bins : FourBins
unfolding calculated add sub mul div lt le eq of_int to_unsigned round of_bits to_bits
four_bins = refl

pub cases : Cases
cases = record {
  fits = fit_cases;
  interpolations = interpolation_cases;
  models = model_cases;
  spots = spot_cases;
  wells = wells_cases;
  slopes = slope_cases;
  comparisons = comparison_cases;
  bins = four_bins;
  files = file_cases;
  refusals = refusal_cases;
  file_written = writes_bytes;
  file_read = reads_bytes;
  noted_read = reads_noted;
  model_1 = writes_models.0;
  model_2 = writes_models.1;
  model_3 = writes_models.2;
  model_4 = writes_models.3;
}
