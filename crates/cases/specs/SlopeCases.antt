-- Sounding B's wells in exact arithmetic, by hand: its matrix has an exact inverse, and the trend is their mean.
use Rattle.std.specs.Prelude.{◌*◌, ◌^◌, ◌≡◌, cond, [], ◌∷◌, ℤ, pos, negsuc, ◌*ℤ◌}
use Rattle.exact.specs.Units.{units}
use Rattle.ieee.specs.Floats.{zero_float, one_float}
use Rattle.variogram.specs.Model.{variogram}
use Rattle.variogram.specs.declared.VariogramModel.TheVariants.{Spherical}
use Rattle.survey.specs.Survey.{Survey, value_at}
use Rattle.system_theory.specs.System.{Index, Drift}
use Rattle.kriging_theory.specs.System.{system_of}
use Rattle.kriging_theory.specs.LeastSquares.{same, InverseOf, exact_slope}
use Rattle.cases.specs.FitCases.{fs}

-- "(0,0) 2 and (2,0) 6", Constant, Spherical 0, 1, 1, r = 0: the matrix is 0 1 1, 1 0 1, 1 1 0
abbrev pub two_wells : Survey
two_wells = record {
  values = fs (0x4000_0000_0000_0000 ∷ 0x4018_0000_0000_0000 ∷ []);
  coords = fs (0 ∷ 0 ∷ 0x4000_0000_0000_0000 ∷ 0 ∷ []);
  bases = 1 ∷ [];
  external = [];
  nodes = [];
  node_external = [];
  options = record { variogram = variogram Spherical zero_float one_float one_float; regularization = zero_float };
  tolerance = zero_float;
}

-- −1 1 1, 1 −1 1, 1 1 −1, over 2; and a number is its whole multiple of 2^-1074
abbrev pub inverse : Index → Index → ℤ
inverse u v = cond (same u v) (negsuc 0) (pos 1)

abbrev pub over : ℤ
over = pos (2 * 2 ^ 1074)

pub record SlopeCases : Type 0 where
  pub exact : InverseOf (system_of two_wells) inverse over
  -- (2 + 6) / 2: "`trend 4010000000000000`" is 4
  pub trend : exact_slope (system_of two_wells) inverse (λ i. units (value_at two_wells i)) (Drift 0) ≡ over *ℤ pos 4
