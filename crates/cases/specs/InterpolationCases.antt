-- Interpolations whose answers were worked out outside these definitions, by tools/reading/cases.py, and are the original Rust's: another reading of the
-- paper prints them, holds them to the original, run, and tries wrong readings, each of which changes a number here.
use Rattle.std.specs.Prelude.{ℕ, ◌*◌, ◌≡◌, List, [], ◌∷◌, replicate, Float}
use Rattle.std.specs.Float.{nan}
use Rattle.variogram.specs.Model.{variogram}
use Rattle.variogram.specs.declared.VariogramModel.TheVariants.{Spherical}
use Rattle.error.specs.Outcome.{Outcome, outcome}
use Rattle.survey.specs.Limits.{library}
use Rattle.interpolator_theory.specs.declared.KrigingType.{KrigingType}
use Rattle.interpolator_theory.specs.declared.KrigingType.TheVariants.{Ordinary, Universal}
use Rattle.interpolator_theory.specs.Call.{Query, Areas, node_count, size}
use Rattle.interpolator_theory.specs.Interpolation.{interpolated}
use Rattle.cases.specs.FitCases.{f, fs}

-- Spherical 0.25, 1.25, 8
abbrev pub query_of : KrigingType → ℕ → List ℕ → List ℕ → List ℕ → Query
query_of kind d values points targets = record {
  kriging_type = kind;
  variogram = variogram Spherical (f 0x3fd0_0000_0000_0000) (f 0x3ff4_0000_0000_0000) (f 0x4020_0000_0000_0000);
  dimension = d;
  values = fs values;
  points = fs points;
  targets = fs targets;
}

-- in areas of NaNs of just the lengths that the query asks for
abbrev pub answer_of : Query → Outcome Areas
answer_of q = interpolated library q (record {
  work = replicate (2 * size q * size q) nan;
  figures = replicate (node_count q) nan;
  variances = replicate (node_count q) nan;
})

-- what is looked at: the number, the figures and the variances
abbrev pub answer : ℕ → List Float → List Float → Outcome Areas
answer number figures variances = outcome number (record { work = []; figures = figures; variances = variances })

abbrev pub seen : Outcome Areas → Outcome Areas
seen o = answer o.number o.areas.figures o.areas.variances

-- a query is accepted, and has these figures and variances
abbrev pub Interpolates : Query → List ℕ → List ℕ → Type 0
Interpolates q figures variances = seen (answer_of q) ≡ answer 0 (fs figures) (fs variances)

-- points 1 and 4 with 2 and 5, targets 2 and 3.5
abbrev pub OnALine : Type 0
OnALine =
    Interpolates (query_of Ordinary 1 (0x4000_0000_0000_0000 ∷ 0x4014_0000_0000_0000 ∷ []) (0x3ff0_0000_0000_0000 ∷ 0x4010_0000_0000_0000 ∷ [])
    (0x4000_0000_0000_0000 ∷ 0x400c_0000_0000_0000 ∷ []))
    (0x4009_3e03_2e1c_9f02 ∷ 0x4010_bf20_1e87_7929 ∷ [])
    (0x3fe4_79f0_1970_e4f7 ∷ 0x3fe2_4b41_82b3_febb ∷ [])

-- values 2, 5, 3.5, 1
abbrev pub four_values : List ℕ
four_values = 0x4000_0000_0000_0000 ∷ 0x4014_0000_0000_0000 ∷ 0x400c_0000_0000_0000 ∷ 0x3ff0_0000_0000_0000 ∷ []

-- at (1, 2), (4, 6), (4, 2), (7, 6), targets (7, 2) and (1, 6)
abbrev pub InThePlane : Type 0
InThePlane =
    Interpolates (query_of Universal 2 four_values
    (0x3ff0_0000_0000_0000 ∷ 0x4000_0000_0000_0000 ∷ 0x4010_0000_0000_0000 ∷ 0x4018_0000_0000_0000
    ∷ 0x4010_0000_0000_0000 ∷ 0x4000_0000_0000_0000 ∷ 0x401c_0000_0000_0000 ∷ 0x4018_0000_0000_0000 ∷ [])
    (0x401c_0000_0000_0000 ∷ 0x4000_0000_0000_0000 ∷ 0x3ff0_0000_0000_0000 ∷ 0x4018_0000_0000_0000 ∷ []))
    (0x4013_ffff_ffff_ffff ∷ 0x4021_ffff_ffff_ffff ∷ [])
    (0x400f_b000_0000_0000 ∷ 0x400f_afff_ffff_fffa ∷ [])

-- at (1, 2, 0.5), (4, 6, 1.5), (4, 2, 3), (7, 6, -1), targets (7, 2, 1) and (1, 6, 2.5)
abbrev pub InSpace : Type 0
InSpace =
    Interpolates (query_of Universal 3 four_values
    (0x3ff0_0000_0000_0000 ∷ 0x4000_0000_0000_0000 ∷ 0x3fe0_0000_0000_0000 ∷ 0x4010_0000_0000_0000 ∷ 0x4018_0000_0000_0000 ∷ 0x3ff8_0000_0000_0000
    ∷ 0x4010_0000_0000_0000 ∷ 0x4000_0000_0000_0000 ∷ 0x4008_0000_0000_0000 ∷ 0x401c_0000_0000_0000 ∷ 0x4018_0000_0000_0000 ∷ 0xbff0_0000_0000_0000 ∷ [])
    (0x401c_0000_0000_0000 ∷ 0x4000_0000_0000_0000 ∷ 0x3ff0_0000_0000_0000 ∷ 0x3ff0_0000_0000_0000 ∷ 0x4018_0000_0000_0000 ∷ 0x4004_0000_0000_0000 ∷ []))
    (0x4014_0000_0000_0002 ∷ 0x4022_0000_0000_0000 ∷ [])
    (0x4013_8b05_05af_bb13 ∷ 0x4011_fa05_c761_5c54 ∷ [])

pub record InterpolationCases : Type 0 where
  pub on_a_line : OnALine
  pub in_the_plane : InThePlane
  pub in_space : InSpace
