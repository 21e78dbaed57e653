-- `elimination::layout::fill_mirrored` meets its contract: after j turns the area is what j stores write.
use Prim.Native.Nat.{◌*◌}
use mathlib.Core.Path.{refl}
use native.Mathlib.Omega.{arith}
use lib.ListN.{length-set}
use Rattle.elimination.proofs.Rows.{mirror_turn}
use Rattle.elimination.proofs.layout.fill_mirrored.Goals as goal

pub loop-j-preserved : goal.loop-j-preserved
loop-j-preserved c =
    let h = c in
    let l = h.loop-j in
    let a = h.args in (
      omega arith,
      refl,
      refl,
      simp length-set l.invariant.3,
      omega arith,
      mirror_turn (2 * a.size) a.i l.j a.work.now l.work (omega arith) (omega arith) l.invariant.5,
    )
