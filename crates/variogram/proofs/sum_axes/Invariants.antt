-- `variogram::sum_axes` meets its contract. The loop's invariant: the sum is that over the axes passed.
use Rattle.std.proofs.Common.{◌≡◌}
use Rattle.variogram.specs.Distance.{squares, axis}
use Rattle.variogram.proofs.sum_axes.Given as goal

abbrev pub invariant-loop-k : goal.invariant-loop-k
invariant-loop-k l = l.dist_sq ≡ squares (axis l.a) (axis l.b) l.k
