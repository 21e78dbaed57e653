-- `variogram::distance_2d` meets its contract: the root of what `squared_distance_2d` gives.
use mathlib.Core.Path.{◌∙◌, ap}
use Rattle.ieee.specs.Root.{sqrt_of}
use Rattle.variogram.specs.Distance.{distance2d}
use Rattle.variogram.proofs.distance_2d.Goals as goal

pub returns : goal.returns
unfolding distance2d
returns c = c.sqrt.ensures ∙ ap sqrt_of c.squared_distance_2d.ensures
