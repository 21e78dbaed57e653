-- Paper 01's list "What turns a call away" and what paper 02 adds to it, number by number, with its kinds, and the named default options, all by literals
-- from the papers.
use Rattle.std.specs.Prelude.{ℕ, ◌+◌, ◌*◌, ◌^◌, ◌≤◌, ◌<◌, ◌≡◌, ◌⊎◌, [], ◌∷◌, pos}
use Rattle.error.specs.declared.Refusal.{Refusal}
use Rattle.error.specs.declared.Refusal.TheVariants.{CoordinatesLength, NodesLength, NoBasis, BasisCode, Regularization, ExternalLength, TooFewWells}
use Rattle.error.specs.declared.Refusal.TheVariants.{NodeExternalLength, TooMany, Tolerance, NotFinite, Model, Dimension, TooFewSamples, Bins}
use Rattle.error.specs.declared.Refusal.TheVariants.{SurveyFile, WorkArea, AnswerArea, Singular, SameSpot}
use Rattle.error.specs.declared.ErrorKind.{ErrorKind}
use Rattle.error.specs.declared.ErrorKind.TheVariants.{InvalidInput, InsufficientData, MatrixError, DimensionMismatch, InvalidParameter, Added}
use Rattle.error.specs.Numbers.{number_of}
use Rattle.error.specs.Kinds.{kind_of}
use Rattle.exact.specs.Units.{units}
use Rattle.variogram.specs.declared.VariogramModel.TheVariants.{Spherical}
use Rattle.survey.specs.Options.{default_bases, default_options}
use Rattle.cases.specs.FitCases.{f}

abbrev pub Numbered : Refusal → ℕ → ErrorKind → Type 0
Numbered refusal number kind = (number_of refusal ≡ number) × (kind_of refusal ≡ kind)

-- "Kinds in document 001: 1, 2, 6 DimensionMismatch; 3 InvalidInput; 5 InvalidParameter; 7, 14 InsufficientData; 8 either of the first two; 19 MatrixError";
-- what the list marks (added) has none there
pub record Numbers : Type 0 where
  -- "coordinates not 2n long (n·d in the two older calls)"
  pub coordinates : Numbered CoordinatesLength 1 DimensionMismatch
  -- "node list odd (not a multiple of d)"
  pub nodes : Numbered NodesLength 2 DimensionMismatch
  -- "no basis"
  pub no_basis_lem : Numbered NoBasis 3 InvalidInput
  -- "a code outside 1..4 (added)"
  pub code : Numbered BasisCode 4 Added
  -- "r negative or not finite"
  pub r : Numbered Regularization 5 InvalidParameter
  -- "externals not k·n"
  pub externals : Numbered ExternalLength 6 DimensionMismatch
  -- "n < p"
  pub few_wells : Numbered TooFewWells 7 InsufficientData
  -- "k > 0 and node externals not k·m"
  pub node_externals_lem : number_of NodeExternalLength ≡ 8
  pub node_externals_kind : (kind_of NodeExternalLength ≡ DimensionMismatch) ⊎ (kind_of NodeExternalLength ≡ InvalidInput)
  -- "n > 48, p > 12 or m > 100 (added)"
  pub many : Numbered TooMany 9 Added
  -- "t negative or not finite (added)"
  pub t : Numbered Tolerance 10 Added
  -- "nugget, sill, range, a value, coordinate, external, node or, if k > 0, node external not finite, as far as the call takes them (added)"
  pub not_finite : Numbered NotFinite 11 Added
  -- "Exponential or Gaussian (added)", and in paper 02 "an Exponential survey whose range is not above zero"
  pub model : Numbered Model 12 Added
  -- "d not 1, 2 or 3, or d = 1 with Universal, where the Rust may panic (added)"
  pub dimension : Numbered Dimension 13 Added
  -- "fewer than 2 samples"
  pub few_samples : Numbered TooFewSamples 14 InsufficientData
  -- "bins not 1..64 (added; 0 panics in the Rust)"
  pub bins : Numbered Bins 15 Added
  -- "survey file malformed (added)"
  pub survey_file : Numbered SurveyFile 16 Added
  -- "work area under 2·s·s numbers (added)"
  pub work_area : Numbered WorkArea 17 Added
  -- "an answer area too short [..] (added)"
  pub answer_area : Numbered AnswerArea 18 Added
  -- "a pivot below 2^-52"
  pub pivot : Numbered Singular 19 MatrixError
  -- paper 02: "22 same_spot distance not finite or below 2^-52"
  pub same_spot : Numbered SameSpot 22 Added

-- m·2^-86 is an f64 where m has 53 bits, and m + 1 and m − 1 are its neighbours: the one nearest 10^-10 is less than half a unit away from it, which is, times
-- 2·10^10·2^86, by whole numbers
pub record Nearest (m : ℕ) : Type 0 where
  pub least : 2 ^ 52 ≤ m
  pub most : m < 2 ^ 53
  pub below : 2 * (m * 10 ^ 10) < 2 * 2 ^ 86 + 10 ^ 10
  pub above : 2 * 2 ^ 86 < 2 * (m * 10 ^ 10) + 10 ^ 10

-- "Named default options: Constant, Spherical 0, 1, 1, r = 1e-10"
pub record Defaults : Type 0 where
  pub constant : default_bases ≡ 1 ∷ []
  pub model : default_options.variogram.model ≡ Spherical
  pub nugget : default_options.variogram.nugget ≡ f 0
  pub sill : default_options.variogram.sill ≡ f 0x3ff0_0000_0000_0000
  pub range : default_options.variogram.range ≡ f 0x3ff0_0000_0000_0000
  -- paper 02: "`new` sets it to 2^-52", 2^1022 units of 2^-1074
  pub spot : units default_options.variogram.same_spot ≡ pos (2 ^ 1022)
  -- 7,737,125,245,533,627 units of 2^-86, worked out by Python's fractions; 2^-86 is 2^988 units of 2^-1074. And its pattern, by Python's struct.pack
  pub r : units default_options.regularization ≡ pos (7737125245533627 * 2 ^ 988)
  pub pattern : default_options.regularization ≡ f 0x3ddb_7cdf_d9d7_bdbb
  pub nearest : Nearest 7737125245533627

pub record RefusalCases : Type 0 where
  pub numbers : Numbers
  pub defaults : Defaults
