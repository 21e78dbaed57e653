-- `variogram::sum_axes` meets its contract. The loop's invariant: the sum is that over the axes passed.
use Rattle.std.proofs.Common.{refl}
use Rattle.ieee.proofs.Sums.{no_terms, sum_turn}
use Rattle.variogram.proofs.sum_axes.Goals as goal

pub loop-k-init : goal.loop-k-init
loop-k-init c = no_terms _

pub loop-k-preserved : goal.loop-k-preserved
loop-k-preserved c = sum_turn c.loop-k.k _ c.loop-k.dist_sq _ refl c.loop-k.invariant
