-- A model's code.
use mathlib.Core.Path.{◌≡◌, refl}
use Rattle.std.specs.Prelude.{Ok}
use Rattle.variogram.specs.declared.VariogramModel.{VariogramModel}
use Rattle.variogram.specs.declared.VariogramModel.TheVariants.{Spherical, Exponential, Gaussian, Linear}
use Rattle.variogram.specs.Numbers.{model_of}
use Rattle.survey_file_theory.specs.File.{model_number}

-- "model 1 to 4 in the enum's order", as in the survey file: every model has a code, and it is the file's number
pub as_in_the_file : (model : VariogramModel) → model_of (model_number model) ≡ Ok model
as_in_the_file Spherical = refl
as_in_the_file Exponential = refl
as_in_the_file Gaussian = refl
as_in_the_file Linear = refl
