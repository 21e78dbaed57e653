-- `elimination::matrix_inverse` meets its contract: its end is the elimination's, and so its number is.
use mathlib.Core.Bool.{false}
use Rattle.elimination.proofs.Stops.{numbered_there}
use Rattle.elimination.proofs.matrix_inverse.Goals as goal

pub returns : goal.returns
returns c = record {
  equation = c.eliminate.ensures;
  numbered = numbered_there false _ _ _ _ c.eliminate.ensures;
}
