-- The numbers of the models in a file are those of the variogram.
use Prim.Native.Nat.{ℕ, zero, suc, ◌<◌}
use native.Mathlib.Omega.{arith}
use mathlib.Core.Path.{◌≡◌, refl}
use mathlib.Core.Bool.{true, ◌||◌}
use borrow.Author.Tests.{lt-ltb, le-ltb}
use lib.Dec.{ltb}
use Rattle.std.specs.Result.{is_err, result_unwrap_or}
use Rattle.variogram.specs.declared.VariogramModel.{VariogramModel}
use Rattle.variogram.specs.declared.VariogramModel.TheVariants.{Spherical, Exponential, Gaussian, Linear}
use Rattle.variogram.specs.Numbers as variogram
use Rattle.survey_file_theory.specs.File.{model_number}
use Rattle.survey_file_theory.specs.Reader.{model_of}

pub same_number : (model : VariogramModel) → variogram.model_number model ≡ model_number model
same_number Spherical = refl
same_number Exponential = refl
same_number Gaussian = refl
same_number Linear = refl

-- and the model of a number, where another number than theirs, which is refused, would be the last
pub same_model : (number : ℕ) → result_unwrap_or (variogram.model_of number) Linear ≡ model_of number
same_model zero = refl
same_model (suc zero) = refl
same_model (suc (suc zero)) = refl
same_model (suc (suc (suc zero))) = refl
same_model (suc (suc (suc (suc zero)))) = refl
same_model (suc (suc (suc (suc (suc number))))) = refl

-- the number of no model is one outside 1 to 4
high : (n : ℕ) → 4 < n → true ≡ (ltb n 1 || ltb 4 n)
high n l = rw (le-ltb n 1 (omega (arith, l)), lt-ltb 4 n l)

pub number_of_none : (n : ℕ) → is_err (variogram.model_of n) ≡ (ltb n 1 || ltb 4 n)
number_of_none zero = refl
number_of_none (suc zero) = refl
number_of_none (suc (suc zero)) = refl
number_of_none (suc (suc (suc zero))) = refl
number_of_none (suc (suc (suc (suc zero)))) = refl
number_of_none (suc (suc (suc (suc (suc n))))) = high (suc (suc (suc (suc (suc n))))) (omega arith)
