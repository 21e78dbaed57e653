-- `interpolator::point::sill_less` meets its contract: after i turns acc is the sill less the first i products.
use native.Mathlib.Omega.{arith}
use Rattle.interpolator.proofs.Estimates.{none_taken, taken_turn}
use Rattle.interpolator.proofs.point.sill_less.Goals as goal

-- for i in 0..size
pub loop-i-init : goal.loop-i-init
loop-i-init c = (omega arith, none_taken _ _)

pub loop-i-preserved : goal.loop-i-preserved
loop-i-preserved c = let l = c.loop-i in (omega arith, taken_turn _ l.i _ l.acc l.invariant.1)
