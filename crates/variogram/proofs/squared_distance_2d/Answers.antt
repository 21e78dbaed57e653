-- `variogram::squared_distance_2d` meets its contract: its operations are the definition's.
use mathlib.Core.Path.{refl}
use Rattle.variogram.specs.Distance.{squared_distance2d}
use Rattle.variogram.proofs.squared_distance_2d.Goals as goal

pub returns : goal.returns
unfolding squared_distance2d
returns c = refl
