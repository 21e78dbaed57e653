-- `elimination::gauss_jordan_invert_uked` meets its contract: its end is the elimination's, and so its number is.
use mathlib.Core.Bool.{true}
use Rattle.elimination.proofs.Stops.{numbered_there}
use Rattle.elimination.proofs.gauss_jordan_invert_uked.Goals as goal

pub returns : goal.returns
returns c = record {
  equation = c.eliminate.ensures;
  numbered = numbered_there true _ _ _ _ c.eliminate.ensures;
}
