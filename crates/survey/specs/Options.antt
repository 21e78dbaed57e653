-- "Named default options: Constant, Spherical 0, 1, 1, r = 1e-10."
use Rattle.std.specs.Prelude.{ℕ, List, [], ◌∷◌}
use Rattle.std.specs.Float.{binary64}
use Rattle.std.specs.Float.Ieee.{of_bits}
use Rattle.ieee.specs.Floats.{zero_float, one_float}
use Rattle.variogram.specs.Model.{variogram}
use Rattle.variogram.specs.declared.VariogramModel.TheVariants.{Spherical}
use Rattle.survey.specs.declared.UniversalKrigingOptions.{UniversalKrigingOptions}

-- Constant
abbrev pub default_bases : List ℕ
default_bases = 1 ∷ []

-- Spherical 0, 1, 1, r = 1e-10: the f64 nearest 1/10^10
abbrev pub default_options : UniversalKrigingOptions
default_options = record {
  variogram = variogram Spherical zero_float one_float one_float;
  regularization = of_bits binary64 0x3ddb_7cdf_d9d7_bdbb;
}
