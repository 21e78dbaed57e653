-- `solution::Inverse::fill_last_rows` meets its contract: where z began as the first rows are written, it has i of them.
use native.Mathlib.Omega.{arith}
use lib.ListN.{length-set}
use Rattle.area.proofs.Start.{next_start}
use Rattle.elimination.specs.Inverse.{times_inverse}
use Rattle.solution.proofs.Inverse.fill_last_rows.Goals as goal

pub loop-i-preserved : goal.loop-i-preserved
unfolding times_inverse
loop-i-preserved c =
    let l = c.loop-i in (
      omega arith,
      simp length-set l.invariant.1,
      λ xs h. next_start l.i _ _ l.z _ c.one_row.ensures (l.invariant.2 xs h),
    )
