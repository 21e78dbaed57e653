-- Fits whose answers were worked out outside these definitions: tools/reading/cases.py has another reading of the paper in Python's floats and whole
-- numbers, which prints them, and holds figures, variances and multipliers to the original Rust, run. It also tries wrong readings, each of which changes
-- a number here.
use Rattle.std.specs.Prelude.{ℕ, ◌*◌, ◌≡◌, List, [], ◌∷◌, map, replicate, Float}
use Rattle.std.specs.Float.{nan, binary64}
use Rattle.std.specs.Float.Ieee.{of_bits}
use Rattle.ieee.specs.Floats.{zero_float}
use Rattle.variogram.specs.Model.{variogram}
use Rattle.variogram.specs.declared.VariogramModel.TheVariants.{Spherical}
use Rattle.error.specs.Outcome.{Outcome, outcome}
use Rattle.survey.specs.Limits.{library}
use Rattle.survey.specs.Survey.{Survey, wells, node_count, columns, size}
use Rattle.kriging_theory.specs.Areas.{Areas}
use Rattle.kriging_theory.specs.Fit.{fitted}

-- numbers by their bit patterns
abbrev pub f : ℕ → Float
f = of_bits binary64

abbrev pub fs : List ℕ → List Float
fs = map f

-- areas of just the lengths that a survey asks for, of NaNs but for the verdicts, which are 7
abbrev pub areas_of : Survey → Areas
areas_of s = record {
  work = replicate (2 * size s * size s) nan;
  predicted = replicate (node_count s) nan;
  variance = replicate (node_count s) nan;
  verdicts = replicate (node_count s) 7;
  weights = replicate (wells s * node_count s) nan;
  multipliers = replicate (columns s) nan;
  trend = replicate (columns s) nan;
}

abbrev pub answer_of : Survey → Outcome Areas
answer_of s = fitted library s (areas_of s)

-- what is looked at: the number, figures, variances, verdicts, weights, multipliers and the trend
abbrev pub answer : ℕ → List Float → List Float → List ℕ → List Float → List Float → List Float → Outcome Areas
answer number figures variances verdicts weights multipliers trend = outcome number (record {
  work = [];
  predicted = figures;
  variance = variances;
  verdicts = verdicts;
  weights = weights;
  multipliers = multipliers;
  trend = trend;
})

abbrev pub seen : Outcome Areas → Outcome Areas
seen o =
    let a = o.areas in
    answer o.number a.predicted a.variance a.verdicts a.weights a.multipliers a.trend

-- a survey is accepted, and has this answer
abbrev pub Answers : Survey → List ℕ → List ℕ → List ℕ → List ℕ → List ℕ → List ℕ → Type 0
Answers s figures variances verdicts weights multipliers trend =
    seen (answer_of s) ≡ answer 0 (fs figures) (fs variances) verdicts (fs weights) (fs multipliers) (fs trend)

-- ---- three wells, at (1, 2), (4, 6), (4, 2), values 2, 5, 3.5; Spherical 0.25, 1.25, 8, r = 0.125, t = 2^-53
abbrev pub three_wells : List ℕ → List ℕ → List ℕ → List ℕ → Survey
three_wells bases external nodes node_external = record {
  values = fs (0x4000_0000_0000_0000 ∷ 0x4014_0000_0000_0000 ∷ 0x400c_0000_0000_0000 ∷ []);
  coords =
      fs (0x3ff0_0000_0000_0000 ∷ 0x4000_0000_0000_0000 ∷ 0x4010_0000_0000_0000 ∷ 0x4018_0000_0000_0000 ∷ 0x4010_0000_0000_0000 ∷ 0x4000_0000_0000_0000 ∷ []);
  bases = bases;
  external = fs external;
  nodes = fs nodes;
  node_external = fs node_external;
  options = record {
    variogram = variogram Spherical (f 0x3fd0_0000_0000_0000) (f 0x3ff4_0000_0000_0000) (f 0x4020_0000_0000_0000);
    regularization = f 0x3fc0_0000_0000_0000;
  };
  tolerance = f 0x3ca0_0000_0000_0000;
}

-- two external columns, 1, 0.5, 3 and 1.5, 2.5, 2, "column after column"
abbrev pub two_columns : List ℕ
two_columns = 0x3ff0_0000_0000_0000 ∷ 0x3fe0_0000_0000_0000 ∷ 0x4008_0000_0000_0000 ∷ 0x3ff8_0000_0000_0000 ∷ 0x4004_0000_0000_0000 ∷ 0x4000_0000_0000_0000 ∷ []

-- nodes (7, 2) with 1.5, 1 and (1, 10) with 2, 0.5, "node after node"
abbrev pub two_externals : Survey
two_externals =
    three_wells (4 ∷ 4 ∷ []) two_columns
    (0x401c_0000_0000_0000 ∷ 0x4000_0000_0000_0000 ∷ 0x3ff0_0000_0000_0000 ∷ 0x4024_0000_0000_0000 ∷ [])
    (0x3ff8_0000_0000_0000 ∷ 0x3ff0_0000_0000_0000 ∷ 0x4000_0000_0000_0000 ∷ 0x3fe0_0000_0000_0000 ∷ [])

-- no node
abbrev pub no_node : Survey
no_node = three_wells (4 ∷ 4 ∷ []) two_columns [] []

-- Linear, node (1.75, 3.5)
abbrev pub linear_drift : Survey
linear_drift = three_wells (2 ∷ []) [] (0x3ffc_0000_0000_0000 ∷ 0x400c_0000_0000_0000 ∷ []) []

-- ---- one well at (0, 0), one external column, a node at (1, 0), Spherical 0, 1, 1, r = 0: value, external, node external and t
abbrev pub one_external : ℕ → ℕ → ℕ → ℕ → Survey
one_external value external node_external t = record {
  values = f value ∷ [];
  coords = zero_float ∷ zero_float ∷ [];
  bases = 4 ∷ [];
  external = f external ∷ [];
  nodes = f 0x3ff0_0000_0000_0000 ∷ zero_float ∷ [];
  node_external = f node_external ∷ [];
  options = record { variogram = variogram Spherical zero_float (f 0x3ff0_0000_0000_0000) (f 0x3ff0_0000_0000_0000); regularization = zero_float };
  tolerance = f t;
}

-- k = 2, n = 3, m = 2, x and y apart: node 1 passes, meeting a row's bound exactly; node 2 misses row 2
abbrev pub TwoExternals : Type 0
TwoExternals =
    Answers two_externals
    (0x4000_ad9f_1642_81cc ∷ 0x3ff2_0e8f_2a76_e68a ∷ [])
    (0x3fe3_dd56_da1b_a63d ∷ 0x3ff2_83bc_f254_9afa ∷ [])
    (0 ∷ 2 ∷ [])
    (0xbfd8_c230_72c1_d7b2 ∷ 0x3fc3_0b87_babc_7e8c ∷ 0x3fe3_5537_c0ad_c958 ∷ 0xbfe2_43c8_071e_2b82 ∷ 0xbfc5_2191_3020_5a93 ∷ 0x3fec_4d53_6460_bcf2 ∷ [])
    (0x3fd9_de48_a26a_9b20 ∷ 0x3fd0_f88f_a6b4_0c9d ∷ [])
    (0xbfbc_4ebd_1f1f_c490 ∷ 0x3ffb_a053_3217_39b8 ∷ [])

-- "zeros if m = 0"; the trend "doesn't depend on the nodes, so m = 0 fills it too"
abbrev pub NoNode : Type 0
NoNode =
    Answers no_node [] [] [] [] (0 ∷ 0 ∷ []) (0xbfbc_4ebd_1f1f_c490 ∷ 0x3ffb_a053_3217_39b8 ∷ [])

-- 1, x, y
abbrev pub LinearDrift : Type 0
LinearDrift =
    Answers linear_drift
    (0x4007_8000_0000_0003 ∷ [])
    (0x3fea_b0d3_c0c4_c8b3 ∷ [])
    (1 ∷ [])
    (0x3fe8_0000_0000_0006 ∷ 0x3fd8_0000_0000_0000 ∷ 0xbfc0_0000_0000_0000 ∷ [])
    (0x3fc0_c7d1_015f_1844 ∷ 0xbfbe_1781_d024_1668 ∷ 0x3fb3_5ccd_c398_0744 ∷ [])
    (0x3fe7_ffff_ffff_fffd ∷ 0x3fe0_0000_0000_0002 ∷ 0x3fd8_0000_0000_0000 ∷ [])

-- row 1: 3 times the f64 nearest 1/3 is 1 - 2^-54, so t = 2^-55 meets it exactly and the f64 below misses it
abbrev pub Row1Missed : Type 0
Row1Missed =
    Answers (one_external 0x3ff0_0000_0000_0000 0x4008_0000_0000_0000 0x3ff0_0000_0000_0000 0x3c7f_ffff_ffff_ffff)
    (0x3fd5_5555_5555_5555 ∷ []) (0x3fe5_5555_5555_5555 ∷ []) (1 ∷ []) (0x3fd5_5555_5555_5555 ∷ []) (0x3fd5_5555_5555_5555 ∷ []) (0x3fd5_5555_5555_5555 ∷ [])

abbrev pub Row1Met : Type 0
Row1Met =
    Answers (one_external 0x3ff0_0000_0000_0000 0x4008_0000_0000_0000 0x3ff0_0000_0000_0000 0x3c80_0000_0000_0000)
    (0x3fd5_5555_5555_5555 ∷ []) (0x3fe5_5555_5555_5555 ∷ []) (0 ∷ []) (0x3fd5_5555_5555_5555 ∷ []) (0x3fd5_5555_5555_5555 ∷ []) (0x3fd5_5555_5555_5555 ∷ [])

-- row p + 1: the figure is the square of 1 + 2^-52, rounded
abbrev pub FigureMissed : Type 0
FigureMissed =
    Answers (one_external 0x3ff0_0000_0000_0001 0x3ff0_0000_0000_0000 0x3ff0_0000_0000_0001 0)
    (0x3ff0_0000_0000_0002 ∷ []) (0x4000_0000_0000_0001 ∷ []) (2 ∷ []) (0x3ff0_0000_0000_0001 ∷ []) (0x3ff0_0000_0000_0000 ∷ []) (0x3ff0_0000_0000_0001 ∷ [])

-- 255 by a weight, 2^1023 / 2^-52, and by the figure alone, 4 times 2^1023
abbrev pub WeightInfinite : Type 0
WeightInfinite =
    Answers (one_external 0x3ff0_0000_0000_0000 0x3cb0_0000_0000_0000 0x7fe0_0000_0000_0000 0)
    (0x7ff0_0000_0000_0000 ∷ []) (0x7ff0_0000_0000_0000 ∷ []) (255 ∷ []) (0x7ff0_0000_0000_0000 ∷ []) (0x4330_0000_0000_0000 ∷ []) (0x4330_0000_0000_0000 ∷ [])

abbrev pub FigureInfinite : Type 0
FigureInfinite =
    Answers (one_external 0x7fe0_0000_0000_0000 0x3ff0_0000_0000_0000 0x4010_0000_0000_0000 0)
    (0x7ff0_0000_0000_0000 ∷ []) (0x4020_0000_0000_0000 ∷ []) (255 ∷ []) (0x4010_0000_0000_0000 ∷ []) (0x3ff0_0000_0000_0000 ∷ []) (0x7fe0_0000_0000_0000 ∷ [])

-- ---- six wells at (0, 0), (1, 0), (0, 1), (2, 0), (1, 1), (0, 2) on the surface 1 + 2x + 3y + 4x² + 5xy + 6y², Quadratic, a node at (1, 2), r = t = 0.
-- Spherical 0, 0, 1 is 0 everywhere, so that the matrix is F and its transpose alone, and every number comes out exact
abbrev pub quadratic_drift : Survey
quadratic_drift = record {
  values =
      fs (0x3ff0_0000_0000_0000 ∷ 0x401c_0000_0000_0000 ∷ 0x4024_0000_0000_0000 ∷ 0x4035_0000_0000_0000 ∷ 0x4035_0000_0000_0000 ∷ 0x403f_0000_0000_0000 ∷ []);
  coords =
      fs (0 ∷ 0 ∷ 0x3ff0_0000_0000_0000 ∷ 0 ∷ 0 ∷ 0x3ff0_0000_0000_0000
      ∷ 0x4000_0000_0000_0000 ∷ 0 ∷ 0x3ff0_0000_0000_0000 ∷ 0x3ff0_0000_0000_0000 ∷ 0 ∷ 0x4000_0000_0000_0000 ∷ []);
  bases = 3 ∷ [];
  external = [];
  nodes = fs (0x3ff0_0000_0000_0000 ∷ 0x4000_0000_0000_0000 ∷ []);
  node_external = [];
  options = record { variogram = variogram Spherical zero_float zero_float (f 0x3ff0_0000_0000_0000); regularization = zero_float };
  tolerance = zero_float;
}

-- "1, x, y, x², xy, y²": the trend is the surface, 1 to 6, and the figure the surface at the node, 47
abbrev pub QuadraticDrift : Type 0
QuadraticDrift =
    Answers quadratic_drift
    (0x4047_8000_0000_0000 ∷ [])
    (0 ∷ [])
    (0 ∷ [])
    (0x3ff0_0000_0000_0000 ∷ 0xbff0_0000_0000_0000 ∷ 0xc000_0000_0000_0000 ∷ 0 ∷ 0x4000_0000_0000_0000 ∷ 0x3ff0_0000_0000_0000 ∷ [])
    (0 ∷ 0 ∷ 0 ∷ 0 ∷ 0 ∷ 0 ∷ [])
    (0x3ff0_0000_0000_0000 ∷ 0x4000_0000_0000_0000 ∷ 0x4008_0000_0000_0000 ∷ 0x4010_0000_0000_0000 ∷ 0x4014_0000_0000_0000 ∷ 0x4018_0000_0000_0000 ∷ [])

-- ---- three wells, at (0, 0), (2, 0), (0, 2), with 1, 2^60, −2^60, Constant, a node at (2, 2), Spherical 0, 1, 1, r = t = 0
abbrev pub far_apart : Survey
far_apart = record {
  values = fs (0x3ff0_0000_0000_0000 ∷ 0x43b0_0000_0000_0000 ∷ 0xc3b0_0000_0000_0000 ∷ []);
  coords = fs (0 ∷ 0 ∷ 0x4000_0000_0000_0000 ∷ 0 ∷ 0 ∷ 0x4000_0000_0000_0000 ∷ []);
  bases = 1 ∷ [];
  external = [];
  nodes = fs (0x4000_0000_0000_0000 ∷ 0x4000_0000_0000_0000 ∷ []);
  node_external = [];
  options = record { variogram = variogram Spherical zero_float (f 0x3ff0_0000_0000_0000) (f 0x3ff0_0000_0000_0000); regularization = zero_float };
  tolerance = zero_float;
}

-- a third each: 1/3 + 2^60/3 is 2^60/3, and the figure 0; from the last well on it would be a third. z, variance and trend too would be others from the last
abbrev pub FromTheFirst : Type 0
FromTheFirst =
    Answers far_apart
    (0 ∷ [])
    (0x3ff5_5555_5555_5556 ∷ [])
    (1 ∷ [])
    (0x3fd5_5555_5555_5557 ∷ 0x3fd5_5555_5555_5557 ∷ 0x3fd5_5555_5555_5557 ∷ [])
    (0x3fd5_5555_5555_5556 ∷ [])
    (0 ∷ [])

pub record FitCases : Type 0 where
  pub two_externals_lem : TwoExternals
  pub no_node_lem : NoNode
  pub linear_drift_lem : LinearDrift
  pub row_1_missed : Row1Missed
  pub row_1_met : Row1Met
  pub figure_missed : FigureMissed
  pub weight_infinite : WeightInfinite
  pub figure_infinite : FigureInfinite
  pub quadratic_drift_lem : QuadraticDrift
  pub from_the_first : FromTheFirst
