-- `solution::summed_products` meets its contract: acc is the sum of as many products as pairs were yielded.
use mathlib.Core.Path.{◌≡◌}
use lib.ListN.{length, get_or}
use lib.Ieee.{nan, binary64, mul}
use Rattle.ieee.specs.Sums.{running_sum}
use Rattle.solution.proofs.summed_products.Given as goal

abbrev pub invariant-loop-x : goal.invariant-loop-x
invariant-loop-x l = l.acc ≡ running_sum (length l.yielded) (λ k. mul binary64 (get_or l.xs k nan) (get_or l.ys k nan))
