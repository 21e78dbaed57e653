-- `elimination::clear_others` meets its contract: after k turns the first k rows are cleared.
use Prim.Native.Nat.{◌*◌, ◌+◌}
use mathlib.Core.Path.{◌≡◌, refl, ap, ◌∙◌}
use mathlib.Core.Logic.{◌≢◌, ◌⊎◌, inl, inr}
use mathlib.Core.Bool.{true, false, not}
use lib.Ieee.{ne}
use borrow.Author.Tests.{ne_eqb}
use Rattle.ieee.specs.Floats.{zero_float}
use native.Mathlib.Omega.{arith}
use lib.ListN.{length}
use Rattle.elimination.specs.Elimination.{at, cleared}
use Rattle.elimination.proofs.Keeps.{kept_cleared}
use Rattle.elimination.proofs.Clear.{own_row, skipped_row, cleared_row}
use Rattle.elimination.proofs.Clear.{skips}
use Rattle.elimination.proofs.clear_others.Goals.{then-k-i+then-not-this, then-not-this-via-then-not-this, then-not-this-via-else-not-this+then-factor, then-k-i+else-not-this+else-factor, else-k-i}
use Rattle.elimination.proofs.clear_others.Goals as goal

-- for k in 0..size
pub loop-k-init : goal.loop-k-init
unfolding cleared
loop-k-init g c = (omega arith, refl, omega arith, omega arith, refl, refl)

pub loop-k-preserved : goal.loop-k-preserved
loop-k-preserved g c =
    let l = c.loop-k in
    let a = c.args in
    let w' = 2 * a.size in
    let xs = a.work.now in
    let e : c.if-k-i.work ≡ cleared (skips g.row.SKIP) w' a.i (l.k + 1) xs =
    elim c.if-k-i.branch [
      | then-k-i+then-not-this w ↦
          let n : l.k ≢ a.i = omega (arith, w.if-k-i.true) in
          let r = elim w.then-not-this.branch as (λ _. (skips g.row.SKIP ≡ false) ⊎ (ne (at w' l.work l.k a.i) zero_float ≡ true)) [
            | then-not-this-via-then-not-this v ↦ inl (ap skips v.if-not-this.true)
            | then-not-this-via-else-not-this+then-factor v ↦ inr v.if-factor.true
          ] in
          w.work-is ∙ cleared_row (skips g.row.SKIP) w' a.i l.k xs _ l.work l.invariant.5 n r w.clear_row.ensures
      | then-k-i+else-not-this+else-factor w ↦
          let n : l.k ≢ a.i = omega (arith, w.if-k-i.true) in
          w.work-is ∙ skipped_row (skips g.row.SKIP) w' a.i l.k xs l.work l.invariant.5 n (ap not (ne_eqb _ _ w.if-not-this.false)) w.if-factor.false
      | else-k-i w ↦
          let own : l.k ≡ a.i = omega (arith, w.if-k-i.false) in
          w.work-is ∙ own_row (skips g.row.SKIP) w' a.i l.k xs l.work l.invariant.5 own
    ] in
    (omega arith, refl, omega arith, omega arith, ap length e ∙ (kept_cleared w' a.size (skips g.row.SKIP) a.i (l.k + 1) xs (omega arith)).len, e)
