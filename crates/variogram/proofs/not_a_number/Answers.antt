-- `variogram::not_a_number` meets its contract: zero over zero is the NaN, by computation.
use mathlib.Core.Path.{refl}
use lib.Ieee.{of_bits, div}
use Rattle.variogram.proofs.not_a_number.Goals as goal

pub returns : goal.returns
unfolding div of_bits
returns c = refl
