-- The number of a model in a survey file and in an exported call: "model 1 to 4 in the enum's order".
use Rattle.std.specs.Prelude.{ℕ, zero, suc, Result, Ok, Err}
use Rattle.variogram.specs.declared.VariogramModel.{VariogramModel}
use Rattle.variogram.specs.declared.VariogramModel.TheVariants.{Spherical, Exponential, Gaussian, Linear}
use Rattle.variogram.specs.declared.UnknownModel.{UnknownModel}

abbrev pub model_number : VariogramModel → ℕ
model_number Spherical = 1
model_number Exponential = 2
model_number Gaussian = 3
model_number Linear = 4

-- and the model that a number stands for: none but from 1 to 4
abbrev pub model_of : ℕ → Result VariogramModel UnknownModel
model_of zero = Err (record {})
model_of (suc zero) = Ok Spherical
model_of (suc (suc zero)) = Ok Exponential
model_of (suc (suc (suc zero))) = Ok Gaussian
model_of (suc (suc (suc (suc zero)))) = Ok Linear
model_of (suc (suc (suc (suc (suc number))))) = Err (record {})
