-- Computed cases, their answers worked out outside these definitions: by tools/reading/cases.py, another reading of the paper in Python's floats and whole
-- numbers, and where the original Rust answers, the original's own; those of ModelCases, SpotCases, WellsCases, SlopeCases, ComparisonCases, FileCases and RefusalCases
-- as they say. One record holds them all.
use Rattle.std.specs.Prelude.{◌≡◌, [], ◌∷◌, replicate, drop}
use Rattle.std.proofs.Math.Option.{some}
use Rattle.std.specs.Float.{nan}
use Rattle.variogram.specs.declared.VariogramModel.TheVariants.{Spherical, Exponential, Gaussian, Linear}
use Rattle.survey.specs.Limits.{library}
use Rattle.semivariogram_theory.specs.Call.{Samples}
use Rattle.semivariogram_theory.specs.Semivariogram.{calculated}
use Rattle.survey_file_theory.specs.File.{newest_version, writer_file}
use Rattle.survey_file_theory.specs.Reader.{read_bytes}
use Rattle.survey_file_theory.specs.Cases.{survey, file, noted, bare, with_model}
use Rattle.cases.specs.FitCases.{f, fs, FitCases}
use Rattle.cases.specs.InterpolationCases.{InterpolationCases}
use Rattle.cases.specs.ModelCases.{ModelCases}
use Rattle.cases.specs.SpotCases.{SpotCases}
use Rattle.cases.specs.WellsCases.{WellsCases}
use Rattle.cases.specs.SlopeCases.{SlopeCases}
use Rattle.cases.specs.ComparisonCases.{ComparisonCases}
use Rattle.cases.specs.FileCases.{FileCases}
use Rattle.cases.specs.RefusalCases.{RefusalCases}

-- samples at (0, 0), (6, 8), (6, 0), (1.5, 0) with 1, 4, 2, 8, in five bins: the second is empty
abbrev pub four_samples : Samples
four_samples = record {
  dimension = 2;
  values = fs (0x3ff0_0000_0000_0000 ∷ 0x4010_0000_0000_0000 ∷ 0x4000_0000_0000_0000 ∷ 0x4020_0000_0000_0000 ∷ []);
  points = fs (0 ∷ 0 ∷ 0x4018_0000_0000_0000 ∷ 0x4020_0000_0000_0000 ∷ 0x4018_0000_0000_0000 ∷ 0 ∷ 0x3ff8_0000_0000_0000 ∷ 0 ∷ []);
  bins = 5;
}

-- four bins are kept, at 1, 5, 7 and 9; the last place is as it was
abbrev pub FourBins : Type 0
FourBins =
    calculated library four_samples (record { distances = replicate 5 nan; semivariances = replicate 5 nan; counts = replicate 5 7 })
    ≡ record {
      number = 0;
      kept = 4;
      areas = record {
        distances = f 0x3ff0_0000_0000_0000 ∷ f 0x4014_0000_0000_0000 ∷ f 0x401c_0000_0000_0000 ∷ f 0x4022_0000_0000_0000 ∷ nan ∷ [];
        semivariances = f 0x4038_8000_0000_0000 ∷ f 0x4032_0000_0000_0000 ∷ f 0x3fe0_0000_0000_0000 ∷ f 0x4013_5555_5555_5555 ∷ nan ∷ [];
        counts = 1 ∷ 1 ∷ 1 ∷ 3 ∷ 7 ∷ [];
      };
    }

pub record Cases : Type 0 where
  -- k = 2 with n ≠ m, x and y apart; no node; 1, x, y; every verdict; 1, x, y, x², xy, y²; sums whose order tells
  pub fits : FitCases
  -- Ordinary on a line, Universal in the plane and in space, two targets each
  pub interpolations : InterpolationCases
  -- the Exponential and the Gaussian model, and the ranges that 12 refuses
  pub models : ModelCases
  -- the same-spot distance, and what 22 refuses
  pub spots : SpotCases
  -- 9 by the library's limits and by the program's
  pub wells : WellsCases
  -- an exact inverse of a fit's matrix, and the trend by it
  pub slopes : SlopeCases
  pub comparisons : ComparisonCases
  -- several kept bins, and one empty among them
  pub bins : FourBins
  -- the calls on a survey file, their refusals in order, and the longest file
  pub files : FileCases
  -- the number and the kind of every refusal, and the default options
  pub refusals : RefusalCases
  -- a file by its bytes, every field another number, without a note and with one
  pub file_written : writer_file newest_version survey ≡ file
  pub file_read : read_bytes newest_version file ≡ some survey
  pub noted_read : read_bytes newest_version noted ≡ some survey
  -- "model 1 to 4 in the enum's order"
  pub model_1 : drop 40 (writer_file newest_version (bare Spherical)) ≡ with_model 1
  pub model_2 : drop 40 (writer_file newest_version (bare Exponential)) ≡ with_model 2
  pub model_3 : drop 40 (writer_file newest_version (bare Gaussian)) ≡ with_model 3
  pub model_4 : drop 40 (writer_file newest_version (bare Linear)) ≡ with_model 4
