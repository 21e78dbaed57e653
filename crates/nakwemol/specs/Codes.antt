-- What the codes of an exported call stand for, and how a call ends whose code stands for nothing.
use Rattle.std.specs.Prelude.{ℕ, List, Float, Result, Ok, Err}
use Rattle.variogram.specs.declared.Variogram.{Variogram}
use Rattle.variogram.specs.Model.{variogram, with_same_spot}
use Rattle.variogram.specs.declared.VariogramModel.{VariogramModel}
use Rattle.survey.specs.declared.UniversalKrigingOptions.{UniversalKrigingOptions}
use Rattle.interpolator_theory.specs.declared.KrigingType.{KrigingType}
use Rattle.interpolator_theory.specs.Call.{Query}

-- the number of a call whose code is none: past every number that turns a call away
abbrev pub unknown_code : ℕ
unknown_code = 100

-- a call by what a code stands for, a model or a kriging type: how it ends where the code is none, and how with each that there is
abbrev pub by_code : {K E A : Type 0} → Result K E → A → (K → A) → A
by_code (Err _) away call = away
by_code (Ok known) away call = call known

-- the variogram of a model with "Nugget, sill, range" and the same-spot distance
abbrev pub variogram_of : VariogramModel → Float → Float → Float → Float → Variogram
variogram_of model nugget sill range spot = with_same_spot (variogram model nugget sill range) spot

-- the options with such a variogram and "regularisation r"
abbrev pub options_of : VariogramModel → Float → Float → Float → Float → Float → UniversalKrigingOptions
options_of model nugget sill range spot regularization =
    record { variogram = variogram_of model nugget sill range spot; regularization = regularization }

-- what is asked of the interpolator of such a variogram and a kriging type
abbrev pub query_of : KrigingType → Variogram → List Float → List Float → List Float → ℕ → Query
query_of type v values points targets d =
    record { kriging_type = type; variogram = v; dimension = d; values = values; points = points; targets = targets }
