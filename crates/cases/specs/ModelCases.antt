-- The Exponential and the Gaussian model, and what 12 refuses: paper 02, "Exponential and Gaussian wells". The answers were worked out
-- outside these definitions, from e^−u to 60 digits; at these u the C library's `exp` gives the same f64.
use Rattle.std.specs.Prelude.{ℕ, ◌≡◌, [], ◌∷◌, replicate}
use Rattle.std.specs.Float.{nan}
use Rattle.ieee.specs.Floats.{zero_float}
use Rattle.variogram.specs.Model.{variogram}
use Rattle.variogram.specs.declared.VariogramModel.{VariogramModel}
use Rattle.variogram.specs.declared.VariogramModel.TheVariants.{Exponential, Gaussian}
use Rattle.error.specs.Outcome.{outcome}
use Rattle.survey.specs.Limits.{library}
use Rattle.survey.specs.Survey.{Survey}
use Rattle.interpolator_theory.specs.declared.KrigingType.TheVariants.{Ordinary}
use Rattle.interpolator_theory.specs.Call.{Query}
use Rattle.interpolator_theory.specs.Refusals.{refusal}
use Rattle.cases.specs.FitCases.{f, areas_of, answer_of, Answers}

-- one well at (0, 0) with 5, Constant, a node at (2, 0), nugget 0.25, sill 1.25, r = t = 0: the model and its range
abbrev pub one_well : VariogramModel → ℕ → Survey
one_well model range = record {
  values = f 0x4014_0000_0000_0000 ∷ [];
  coords = zero_float ∷ zero_float ∷ [];
  bases = 1 ∷ [];
  external = [];
  nodes = f 0x4000_0000_0000_0000 ∷ zero_float ∷ [];
  node_external = [];
  options = record { variogram = variogram model (f 0x3fd0_0000_0000_0000) (f 0x3ff4_0000_0000_0000) (f range); regularization = zero_float };
  tolerance = zero_float;
}

-- the figure and the trend are 5, and it passes; the multiplier is the variogram at 2, and the variance is twice that
abbrev pub Answers5 : Survey → ℕ → ℕ → Type 0
Answers5 s variance multiplier =
    Answers s (0x4014_0000_0000_0000 ∷ []) (variance ∷ []) (0 ∷ []) (0x3ff0_0000_0000_0000 ∷ []) (multiplier ∷ []) (0x4014_0000_0000_0000 ∷ [])

-- a fit is refused by 12, and nothing is written
abbrev pub RefusedBy12 : Survey → Type 0
RefusedBy12 s = answer_of s ≡ outcome 12 (areas_of s)

-- the same well and node for the interpolator: what refuses it before it eliminates
abbrev pub query_refusal : VariogramModel → ℕ → ℕ
query_refusal model range = refusal library q (record { work = replicate 8 nan; figures = nan ∷ []; variances = nan ∷ [] })
  where
    q : Query
    q = record {
      kriging_type = Ordinary;
      variogram = (one_well model range).options.variogram;
      dimension = 2;
      values = (one_well model range).values;
      points = (one_well model range).coords;
      targets = (one_well model range).nodes;
    }

pub record ModelCases : Type 0 where
  -- range 4: 0.25 + (1 − e^−(2/4)), and 0.25 + (1 − e^−(4/16))
  pub exponential : Answers5 (one_well Exponential 0x4010_0000_0000_0000) 0x3ff4_974d_0390_69f6 0x3fe4_974d_0390_69f6
  pub gaussian : Answers5 (one_well Gaussian 0x4010_0000_0000_0000) 0x3fee_2820_c2a6_fbea 0x3fde_2820_c2a6_fbea
  -- "12 now means an Exponential survey whose range is not above zero": 0, −0 and −4
  pub exponential_0 : RefusedBy12 (one_well Exponential 0)
  pub exponential_minus_0 : RefusedBy12 (one_well Exponential 0x8000_0000_0000_0000)
  pub exponential_minus_4 : RefusedBy12 (one_well Exponential 0xc010_0000_0000_0000)
  -- "and nothing else": the smallest range above zero, where e^−u is 0 and the variogram is the sill; Gaussian at 0 and −4
  pub exponential_least : Answers5 (one_well Exponential 1) 0x4004_0000_0000_0000 0x3ff4_0000_0000_0000
  pub gaussian_0 : Answers5 (one_well Gaussian 0) 0x4004_0000_0000_0000 0x3ff4_0000_0000_0000
  pub gaussian_minus_4 : Answers5 (one_well Gaussian 0xc010_0000_0000_0000) 0x3fee_2820_c2a6_fbea 0x3fde_2820_c2a6_fbea
  -- the interpolator the same
  pub interpolator_0 : query_refusal Exponential 0 ≡ 12
  pub interpolator_4 : query_refusal Exponential 0x4010_0000_0000_0000 ≡ 0
  pub interpolator_gaussian_0 : query_refusal Gaussian 0 ≡ 0
