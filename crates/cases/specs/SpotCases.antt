-- The same-spot distance and 22: paper 02, "Two wells in one yard". The answers were worked out by hand: every number on the way is a sum of a few powers of
-- two, so that nothing is rounded.
use Rattle.std.specs.Prelude.{ℕ, ◌≡◌, [], ◌∷◌, replicate}
use Rattle.std.specs.Float.{nan}
use Rattle.ieee.specs.Floats.{zero_float}
use Rattle.variogram.specs.Model.{variogram, with_same_spot, semivariance}
use Rattle.variogram.specs.declared.Variogram.{Variogram}
use Rattle.variogram.specs.declared.VariogramModel.{VariogramModel}
use Rattle.variogram.specs.declared.VariogramModel.TheVariants.{Exponential, Linear}
use Rattle.survey.specs.Limits.{library}
use Rattle.survey.specs.Survey.{Survey}
use Rattle.kriging_theory.specs.Refusals as Fit
use Rattle.interpolator_theory.specs.declared.KrigingType.TheVariants.{Ordinary}
use Rattle.interpolator_theory.specs.Call.{Query}
use Rattle.interpolator_theory.specs.Refusals as Interpolation
use Rattle.cases.specs.FitCases.{f, fs, areas_of, answer_of, Answers}

-- 0.5, the f64 just below it, and 0.25
abbrev pub half : ℕ
half = 0x3fe0_0000_0000_0000

abbrev pub below_half : ℕ
below_half = 0x3fdf_ffff_ffff_ffff

abbrev pub quarter : ℕ
quarter = 0x3fd0_0000_0000_0000

-- 2^-52 and 2^-53
abbrev pub epsilon_bits : ℕ
epsilon_bits = 0x3cb0_0000_0000_0000

abbrev pub half_epsilon_bits : ℕ
half_epsilon_bits = 0x3ca0_0000_0000_0000

-- Linear 0, 1, 1 with a same-spot distance
abbrev pub linear : ℕ → Variogram
linear spot = with_same_spot (variogram Linear zero_float (f 0x3ff0_0000_0000_0000) (f 0x3ff0_0000_0000_0000)) (f spot)

-- two wells, (0, 0) with 2 and (x, 0) with 6, a node at (0.25, 0), Constant, t = 0
abbrev pub yard : ℕ → Variogram → ℕ → Survey
yard x v r = record {
  values = fs (0x4000_0000_0000_0000 ∷ 0x4018_0000_0000_0000 ∷ []);
  coords = fs (0 ∷ 0 ∷ x ∷ 0 ∷ []);
  bases = 1 ∷ [];
  external = [];
  nodes = fs (quarter ∷ 0 ∷ []);
  node_external = [];
  options = record { variogram = v; regularization = f r };
  tolerance = zero_float;
}

-- what refuses a fit that has nothing else against it, by the same-spot distance alone
abbrev pub spot_number : ℕ → ℕ
unfolding Fit.refusal
spot_number spot = let s = yard half (linear spot) 0 in Fit.refusal library s (areas_of s)

-- what refuses a fit of a model with sill, range and same-spot distance, t, and an empty work area
abbrev pub refused_by : VariogramModel → ℕ → ℕ → ℕ → ℕ → ℕ
unfolding Fit.refusal
refused_by model sill range spot t =
    let v = with_same_spot (variogram model zero_float (f sill) (f range)) (f spot) in
    let s : Survey = record {
      values = (yard half v 0).values;
      coords = (yard half v 0).coords;
      bases = 1 ∷ [];
      external = [];
      nodes = [];
      node_external = [];
      options = (yard half v 0).options;
      tolerance = f t;
    } in
    Fit.refusal library s (record {
      work = [];
      predicted = [];
      variance = [];
      verdicts = [];
      weights = [];
      multipliers = [];
      trend = [];
    })

-- what refuses an interpolation over d axes with a same-spot distance
abbrev pub query_spot : ℕ → ℕ → ℕ
unfolding Interpolation.refusal
query_spot d spot = Interpolation.refusal library q (record { work = replicate 18 nan; figures = nan ∷ []; variances = nan ∷ [] })
  where
    q : Query
    q = record {
      kriging_type = Ordinary;
      variogram = linear spot;
      dimension = d;
      values = (yard half (linear spot) 0).values;
      points = (yard half (linear spot) 0).coords;
      targets = (yard half (linear spot) 0).nodes;
    }

pub record SpotCases : Type 0 where
  -- "the variogram is 0 below it", and "A distance equal to the field is not the same spot": Linear at 0.5 is 0.5
  pub below : semivariance (linear half) (f below_half) ≡ zero_float
  pub equal : semivariance (linear half) (f half) ≡ f half
  pub of_new : semivariance (linear epsilon_bits) (f below_half) ≡ f below_half
  -- wells just 0.5 apart have a variogram of 0.5 between them, and the node, 0.25 from each, one of 0 to both: weights 0.5, figure 4, multiplier −0.25,
  -- and the variance, −0.25, becomes +0
  pub apart : Answers (yard half (linear half) 0) (0x4010_0000_0000_0000 ∷ []) (0 ∷ []) (0 ∷ []) (half ∷ half ∷ []) (0xbfd0_0000_0000_0000 ∷ [])
      (0x4010_0000_0000_0000 ∷ [])
  -- at 2^-52 the node's variogram is 0.25 to both: multiplier 0, variance 0.25
  pub plain : Answers (yard half (linear epsilon_bits) 0) (0x4010_0000_0000_0000 ∷ []) (quarter ∷ []) (0 ∷ []) (half ∷ half ∷ []) (0 ∷ [])
      (0x4010_0000_0000_0000 ∷ [])
  -- one step nearer, and 0.25 apart, they are at one spot, and only r tells them apart: the pivot's 2^-52 did not move
  pub nearer : (answer_of (yard below_half (linear half) 0)).number ≡ 19
  pub told_apart : (answer_of (yard quarter (linear half) epsilon_bits)).number ≡ 0
  pub not_told_apart : (answer_of (yard quarter (linear half) half_epsilon_bits)).number ≡ 19
  -- "22 same-spot distance not finite or below 2^-52": 2^-52 and the greatest f64 are neither
  pub least : spot_number epsilon_bits ≡ 0
  pub greatest : spot_number 0x7fef_ffff_ffff_ffff ≡ 0
  pub step_below : spot_number 0x3caf_ffff_ffff_ffff ≡ 22
  pub nothing : spot_number 0 ≡ 22
  pub minus_nothing : spot_number 0x8000_0000_0000_0000 ≡ 22
  pub minus_one : spot_number 0xbff0_0000_0000_0000 ≡ 22
  pub infinite : spot_number 0x7ff0_0000_0000_0000 ≡ 22
  pub not_a_number : spot_number 0x7ff8_0000_0000_0000 ≡ 22
  -- "straight after 11": a sill that is no number, a t below zero, an Exponential range of 0, no work area, each with a same-spot distance of 0
  pub eleven_first : refused_by Linear 0x7ff8_0000_0000_0000 0x3ff0_0000_0000_0000 0 0 ≡ 11
  pub ten_first : refused_by Linear 0x3ff0_0000_0000_0000 0x3ff0_0000_0000_0000 0 0xbff0_0000_0000_0000 ≡ 10
  pub before_twelve : refused_by Exponential 0x3ff0_0000_0000_0000 0 0 0 ≡ 22
  pub twelve : refused_by Exponential 0x3ff0_0000_0000_0000 0 epsilon_bits 0 ≡ 12
  pub before_seventeen : refused_by Linear 0x3ff0_0000_0000_0000 0x3ff0_0000_0000_0000 0 0 ≡ 22
  pub seventeen : refused_by Linear 0x3ff0_0000_0000_0000 0x3ff0_0000_0000_0000 epsilon_bits 0 ≡ 17
  -- the interpolator the same, 13 first
  pub interpolator : query_spot 2 0 ≡ 22
  pub interpolator_least : query_spot 2 epsilon_bits ≡ 0
  pub interpolator_dimension : query_spot 4 0 ≡ 13
