-- Paper 01, "Soundings marked for proof", A to H: each line of the paper is a field.
use Rattle.std.specs.Prelude.{ℕ, suc, ◌-◌, ◌*◌, ◌^◌, ◌≡◌, List, [], ◌∷◌, replicate, Float}
use Rattle.std.specs.Float.{nan, binary64}
use Rattle.std.specs.Float.Ieee.{of_bits}
use Rattle.ieee.specs.Root.{sqrt_of}
use Rattle.variogram.specs.Model.{variogram, semivariance}
use Rattle.variogram.specs.declared.Variogram.{Variogram}
use Rattle.variogram.specs.declared.VariogramModel.TheVariants.{Spherical, Linear}
use Rattle.error.specs.Outcome.{Outcome, outcome}
use Rattle.survey.specs.Limits.{library}
use Rattle.survey.specs.Survey.{Survey}
use Rattle.kriging_theory.specs.Areas.{Areas}
use Rattle.kriging_theory.specs.Fit.{fitted}
use Rattle.interpolator_theory.specs.declared.KrigingType.TheVariants.{Ordinary}
use Rattle.interpolator_theory.specs.Call as interpolator
use Rattle.interpolator_theory.specs.Interpolation.{interpolated}
use Rattle.semivariogram_theory.specs.Call as semivariogram
use Rattle.semivariogram_theory.specs.Semivariogram.{calculated}

-- ---- numbers by their bit patterns
abbrev pub f : ℕ → Float
f = of_bits binary64

abbrev pub n0 : Float
n0 = f 0

abbrev pub n½ : Float
n½ = f 0x3fe0_0000_0000_0000

abbrev pub n1 : Float
n1 = f 0x3ff0_0000_0000_0000

abbrev pub n1½ : Float
n1½ = f 0x3ff8_0000_0000_0000

abbrev pub n2 : Float
n2 = f 0x4000_0000_0000_0000

abbrev pub n4 : Float
n4 = f 0x4010_0000_0000_0000

abbrev pub n5 : Float
n5 = f 0x4014_0000_0000_0000

abbrev pub n6 : Float
n6 = f 0x4018_0000_0000_0000

-- 2^-k, for a k below 1023
abbrev pub below : ℕ → Float
below k = f ((1023 - k) * 2 ^ 52)

-- ---- surveys: "Wells on one line, Constant, Spherical 0, 1, 1, r = t = 0 unless said"
abbrev pub plain : Variogram
plain = variogram Spherical n0 n1 n1

-- wells at (x, 0) with their values, a node at (1, 0)
abbrev pub survey : List Float → List Float → Variogram → Float → Float → Survey
survey values coords v r t = record {
  values = values;
  coords = coords;
  bases = 1 ∷ [];
  external = [];
  nodes = n1 ∷ n0 ∷ [];
  node_external = [];
  options = record { variogram = v; regularization = r };
  tolerance = t;
}

-- areas of just the lengths that n wells, one column and one node ask for
abbrev pub areas : ℕ → Areas
areas n = record {
  work = replicate (2 * (suc n * suc n)) n0;
  predicted = n0 ∷ [];
  variance = n0 ∷ [];
  verdicts = 1 ∷ [];
  weights = replicate n n0;
  multipliers = n0 ∷ [];
  trend = n0 ∷ [];
}

-- "(0,0) value 5", with another variogram in C
abbrev pub one_well : Variogram → Outcome Areas
one_well v = fitted library (survey (n5 ∷ []) (n0 ∷ n0 ∷ []) v n0 n0) (areas 1)

-- "(0,0) .. and (2,0) ..": B, and D with its values and t
abbrev pub two_wells : Float → Float → Float → Outcome Areas
two_wells a b t = fitted library (survey (a ∷ b ∷ []) (n0 ∷ n0 ∷ n2 ∷ n0 ∷ []) plain n0 t) (areas 2)

-- "two wells at (0,0)", with r
abbrev pub one_spot : Float → Outcome Areas
one_spot r = fitted library (survey (n2 ∷ n6 ∷ []) (n0 ∷ n0 ∷ n0 ∷ n0 ∷ []) plain r n0) (areas 2)

-- B's wells for the interpolator
abbrev pub query : interpolator.Query
query = record {
  kriging_type = Ordinary;
  variogram = plain;
  dimension = 2;
  values = n2 ∷ n6 ∷ [];
  points = n0 ∷ n0 ∷ n2 ∷ n0 ∷ [];
  targets = n1 ∷ n0 ∷ [];
}

abbrev pub query_areas : interpolator.Areas
query_areas = record { work = replicate 18 n0; figures = n0 ∷ []; variances = n0 ∷ [] }

-- "bins 2, d = 1, samples 0, 1, 2 with values 0, 2, 4"
abbrev pub samples : semivariogram.Samples
samples = record { dimension = 1; values = n0 ∷ n2 ∷ n4 ∷ []; points = n0 ∷ n1 ∷ n2 ∷ []; bins = 2 }

abbrev pub bins : List Float → List Float → List ℕ → semivariogram.Areas
bins distances semivariances counts = record { distances = distances; semivariances = semivariances; counts = counts }

-- a fit is accepted with this figure, variance, multiplier, trend and verdict; the other areas are not looked at
abbrev pub answer : ℕ → List Float → List Float → List Float → List Float → List ℕ → Outcome Areas
answer number figures variances multipliers trend verdicts = outcome number (record {
  work = [];
  predicted = figures;
  variance = variances;
  verdicts = verdicts;
  weights = [];
  multipliers = multipliers;
  trend = trend;
})

abbrev pub seen : Outcome Areas → Outcome Areas
seen e = answer e.number e.areas.predicted e.areas.variance e.areas.multipliers e.areas.trend e.areas.verdicts

abbrev pub Answer : Outcome Areas → Float → Float → Float → Float → ℕ → Type 0
Answer e figure variance multiplier trend verdict =
    seen e ≡ answer 0 (figure ∷ []) (variance ∷ []) (multiplier ∷ []) (trend ∷ []) (verdict ∷ [])

-- ---- the soundings
pub record Soundings : Type 0 where
  -- "A: (0,0) value 5, node (1,0): 5, variance 2, coefficient 1, verdict 0." The coefficient is a multiplier; the trend: "In sounding A it is 5."
  pub A : Answer (one_well plain) n5 n2 n1 n5 0
  -- "B: (0,0) 2 and (2,0) 6, node (1,0): 4, 1.5, coefficient 0.5, 0. Ordinary interpolation: 4, 1.5." And "B's listing gains `trend 4010000000000000`".
  pub B : Answer (two_wells n2 n6 n0) n4 n1½ n½ n4 0
  pub B-accepted : (interpolated library query query_areas).number ≡ 0
  pub B-figure : (interpolated library query query_areas).areas.figures ≡ n4 ∷ []
  pub B-variance : (interpolated library query query_areas).areas.variances ≡ n1½ ∷ []
  -- "C: A with Linear 0, 1, 0: figure NaN, variance +0, verdict 255." The trend reads no node: it is A's.
  pub C : Answer (one_well (variogram Linear n0 n1 n0)) nan n0 nan n5 255
  -- "D: B with values 1 and 2^-60: figure 0.5; t = 2^-62 gives verdict 2, t = 2^-61 gives 0."
  pub D-missed : Answer (two_wells n1 (below 60) (below 62)) n½ n1½ n½ n½ 2
  pub D-met : Answer (two_wells n1 (below 60) (below 61)) n½ n1½ n½ n½ 0
  -- "E: two wells at (0,0): r = 2^-53 gives 19, r = 2^-52 does not."
  pub E-refused : (one_spot (below 53)).number ≡ 19
  pub E-accepted : (one_spot (below 52)).number ≡ 0
  -- "F: Spherical 0, 1, 2 at h = 1: 0.6875. Linear 1, 4, 2 at h = 2: 5."
  pub F-spherical : semivariance (variogram Spherical n0 n1 n2) n1 ≡ f 0x3fe6_0000_0000_0000
  pub F-linear : semivariance (variogram Linear n1 n4 n2) n2 ≡ n5
  -- "G: bins 2, d = 1, samples 0, 1, 2 with values 0, 2, 4: one bin, 1.5, 4, count 3."
  pub G-kept : (calculated library samples (bins (n0 ∷ n0 ∷ []) (n0 ∷ n0 ∷ []) (0 ∷ 0 ∷ []))).kept ≡ 1
  pub G : (calculated library samples (bins (n0 ∷ n0 ∷ []) (n0 ∷ n0 ∷ []) (0 ∷ 0 ∷ []))).areas ≡ bins (n1½ ∷ n0 ∷ []) (n4 ∷ n0 ∷ []) (3 ∷ 0 ∷ [])
  -- "H: root of 2: 3ff6a09e667f3bcd; of 2^-1074: 2^-537."
  pub H-two : sqrt_of n2 ≡ f 0x3ff6_a09e_667f_3bcd
  pub H-smallest : sqrt_of (f 1) ≡ below 537
