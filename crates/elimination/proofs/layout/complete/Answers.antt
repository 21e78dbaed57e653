-- `elimination::layout::complete` meets its contract: after i turns the first i rows are whole.
use Prim.Native.Nat.{ℕ, ◌*◌}
use native.Mathlib.Omega.{arith}
use mathlib.Core.Path.{◌≡◌, ap, sym, ◌∙◌}
use mathlib.Core.Bool.{false}
use lib.Dec.{ltb}
use lib.ListN.{length}
use Rattle.area.specs.Area.{filled}
use Rattle.elimination.specs.Inverse.{beside_identity}
use Rattle.elimination.specs.Rows.{across}
use Rattle.elimination.proofs.Upper.{next_complete, completed_none, completed_all}
use Rattle.elimination.proofs.layout.complete.Goals as goal

-- return;
pub returns-then-too_short : goal.returns-then-too_short
returns-then-too_short c =
    let t = c in
    let a = t.args in
    completed_none a.size a.work.now (sym t.too_short.ensures ∙ c.if-too_short.true)

pub loop-i-preserved : goal.loop-i-preserved
loop-i-preserved c =
    let f = c in
    let m = f in
    let h = m in
    let l = h.loop-i in
    let a = h.args in (
      omega arith,
      l.invariant.1,
      f.fill_identity.auto.work ∙ m.fill_mirrored.auto.work ∙ l.invariant.2,
      next_complete a.size l.i a.work.now l.work _ _ l.invariant.1 (omega arith) l.invariant.3 m.fill_mirrored.ensures f.fill_identity.ensures,
    )

pub returns : goal.returns
returns c =
    let long : (let a = c.args in ltb (length a.work.now) (2 * a.size * a.size) ≡ false) = sym c.too_short.ensures ∙ c.if-too_short.false in
    let h = c in
    let l = h.loop-i in
    let a = h.args in
    let all : l.i ≡ a.size = omega arith in
    l.invariant.3
    ∙ ap (λ (k : ℕ). filled (2 * a.size) k (beside_identity a.size (across a.size a.work.now)) a.work.now) all
    ∙ completed_all a.size a.work.now long
