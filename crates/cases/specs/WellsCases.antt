-- Ninety-six wells: paper 02, "Number 9 reads n > 96 in place of n > 48 in the library calls" and "`wellmap` gives 9 above 48". The numbers are the paper's.
use Rattle.std.specs.Prelude.{ℕ, ◌*◌, ◌≡◌, List, [], ◌∷◌, replicate, Float}
use Rattle.std.specs.Float.{nan}
use Rattle.ieee.specs.Floats.{zero_float}
use Rattle.variogram.specs.Model.{variogram}
use Rattle.variogram.specs.declared.Variogram.{Variogram}
use Rattle.variogram.specs.declared.VariogramModel.TheVariants.{Spherical}
use Rattle.survey.specs.declared.Limits.{Limits}
use Rattle.survey.specs.Limits.{library, program}
use Rattle.survey.specs.Survey.{Survey}
use Rattle.survey.specs.Refusals.{survey_refusal}
use Rattle.interpolator_theory.specs.declared.KrigingType.TheVariants.{Ordinary}
use Rattle.interpolator_theory.specs.Call.{Query}
use Rattle.interpolator_theory.specs.Refusals as Interpolation
use Rattle.semivariogram_theory.specs.Call.{Samples}
use Rattle.semivariogram_theory.specs.Refusals as Bins
use Rattle.cases.specs.FitCases.{f}

-- 1, −1
abbrev pub one : Float
one = f 0x3ff0_0000_0000_0000

abbrev pub minus_one : Float
minus_one = f 0xbff0_0000_0000_0000

-- Spherical 0, 1, 1
abbrev pub plain : Variogram
plain = variogram Spherical zero_float one one

-- what turns a survey of n wells away, each with this value, by its codes, m nodes, r and t
abbrev pub turned : Limits → ℕ → Float → List ℕ → ℕ → Float → Float → ℕ
unfolding survey_refusal
turned limits n value codes m r t = survey_refusal limits s
  where
    s : Survey
    s = record {
      values = replicate n value;
      coords = replicate (2 * n) zero_float;
      bases = codes;
      external = [];
      nodes = replicate (2 * m) zero_float;
      node_external = [];
      options = record { variogram = plain; regularization = r };
      tolerance = t;
    }

-- with nothing else against it
abbrev pub of_wells : Limits → ℕ → ℕ
unfolding survey_refusal
of_wells limits n = turned limits n one (1 ∷ []) 1 zero_float zero_float

-- what refuses an interpolation and a semivariogram of n samples on a line, with no area lent
abbrev pub of_points : ℕ → ℕ
unfolding Interpolation.refusal
of_points n = Interpolation.refusal library q (record { work = []; figures = []; variances = [] })
  where
    q : Query
    q = record {
      kriging_type = Ordinary;
      variogram = plain;
      dimension = 1;
      values = replicate n one;
      points = replicate n zero_float;
      targets = [];
    }

abbrev pub of_samples : ℕ → ℕ
unfolding Bins.refusal
of_samples n = Bins.refusal library q (record { distances = []; semivariances = []; counts = [] })
  where
    q : Samples
    q = record { dimension = 1; values = replicate n one; points = replicate n zero_float; bins = 1 }

pub record WellsCases : Type 0 where
  -- "The library now takes up to 96 wells"
  pub library_49 : of_wells library 49 ≡ 0
  pub library_96 : of_wells library 96 ≡ 0
  pub library_97 : of_wells library 97 ≡ 9
  -- "`wellmap` gives 9 above 48"
  pub program_48 : of_wells program 48 ≡ 0
  pub program_49 : of_wells program 49 ≡ 9
  pub program_96 : of_wells program 96 ≡ 9
  -- in 9's own place: after 3 and 5, before 10 and 11; with too many nodes too it is still 9
  pub library_five : turned library 97 one (1 ∷ []) 1 minus_one zero_float ≡ 5
  pub library_nine : turned library 97 one (1 ∷ []) 1 zero_float nan ≡ 9
  pub program_three : turned program 49 one [] 1 zero_float zero_float ≡ 3
  pub program_five : turned program 60 one (1 ∷ []) 1 minus_one zero_float ≡ 5
  pub program_before_ten : turned program 49 one (1 ∷ []) 1 zero_float minus_one ≡ 9
  pub program_before_eleven : turned program 49 nan (1 ∷ []) 1 zero_float zero_float ≡ 9
  pub program_nodes : turned program 60 one (1 ∷ []) 101 zero_float zero_float ≡ 9
  -- the older calls: past 9 with 96, where 17 and 18 come for the areas
  pub points_96 : of_points 96 ≡ 17
  pub points_97 : of_points 97 ≡ 9
  pub samples_96 : of_samples 96 ≡ 18
  pub samples_97 : of_samples 97 ≡ 9
