-- `elimination::eliminate` meets its contract. The invariant: the run from step i on makes of the area in hand what the whole elimination makes of the
-- area that came. The measure is the steps left.
use Prim.Native.Nat.{ℕ, ◌*◌, ◌+◌, ◌-◌}
use mathlib.Core.Path.{◌≡◌, refl, ap, sym, ◌∙◌}
use mathlib.Core.Bool.{true, false}
use native.Mathlib.Omega.{arith}
use borrow.Author.Tests.{ltb-false}
use lib.Dec.{ltb}
use lib.ListN.{length}
use Rattle.elimination.specs.Elimination.{hold, small, swapped, run}
use Rattle.elimination.proofs.Hold.{hold_from, hold_inside}
use Rattle.elimination.proofs.Run.{swap_self, staged, same_test, refuses, begins, stops, goes_on, ends}
use Rattle.elimination.proofs.Clear.{skips}
use Rattle.elimination.proofs.eliminate.Goals.{then-max_row-i, else-max_row-i}
use Rattle.elimination.proofs.eliminate.Goals as goal

-- return Err(Stop::TooShort);
pub returns-then-too_short : goal.returns-then-too_short
returns-then-too_short g c =
    let a = c.args in
    sym (refuses (skips g.row.SKIP) a.size a.work.now (sym c.too_short.ensures ∙ c.if-too_short.true))

-- for i in 0..size
pub loop-i-init : goal.loop-i-init
loop-i-init g c =
    let long : (let a = c.args in ltb (length a.work.now) (2 * a.size * a.size) ≡ false) = sym c.too_short.ensures ∙ c.if-too_short.false in
    let a = c.args in
    (omega arith, refl, ltb-false _ _ long, refl, begins (skips g.row.SKIP) a.size a.work.now long)

pub returns-then-max_val : goal.returns-then-max_val
returns-then-max_val g c =
    let l = c.loop-i in
    let s = c.args.size in
    let tested : small s l.i l.work ≡ true = same_test s l.i c.find_pivot-max_row.result c.abs-max_val.result l.work true c.find_pivot-max_row.ensures c.abs-max_val.ensures c.if-max_val.true in
    sym (l.invariant.4 ∙ stops _ c.args.size l.i l.work (omega arith) tested)

-- swap_rows(work, width, i, max_row);
pub swap_rows-requires : goal.swap_rows-requires
swap_rows-requires g c =
    let l = c.loop-i in
    let chosen = c.find_pivot-max_row in
    (omega (arith, c.if-max_row-i.true, chosen.ensures, hold_from c.args.size l.i l.work), hold_inside c.args.size l.i chosen.result l.work (omega arith) chosen.ensures (omega arith))

pub loop-i-preserved : goal.loop-i-preserved
loop-i-preserved g c =
    let l = c.loop-i in
    let a = c.args in
    let s = a.size in
    let w = 2 * s in
    let chosen = c.find_pivot-max_row in
    let e = ap (λ (r : ℕ). swapped w l.i r l.work) chosen.ensures in
    let swaps : c.if-max_row-i.work ≡ swapped w l.i (hold s l.i l.work) l.work =
    elim c.if-max_row-i.branch [
      | then-max_row-i t ↦ t.work-is ∙ t.swap_rows.ensures ∙ e
      | else-max_row-i t ↦ t.work-is ∙ sym (swap_self w l.i chosen.result l.work t.if-max_row-i.false) ∙ e
    ] in
    let swap-length : length c.if-max_row-i.work ≡ length l.work =
    elim c.if-max_row-i.branch [
      | then-max_row-i t ↦ ap length t.work-is ∙ t.swap_rows.auto.work
      | else-max_row-i t ↦ ap length t.work-is
    ] in
    let tested : small s l.i l.work ≡ false =
    same_test s l.i chosen.result c.abs-max_val.result l.work false chosen.ensures c.abs-max_val.ensures c.if-max_val.false in
    let e = staged (skips g.row.SKIP) s l.i l.work swaps c.divide_row.ensures c.clear_others.ensures in (
      omega arith,
      refl,
      omega arith,
      omega (arith, swap-length),
      l.invariant.4 ∙ goes_on (skips g.row.SKIP) s l.i l.work (omega arith) tested ∙ ap (run (skips g.row.SKIP) s (s - (l.i + 1)) (l.i + 1)) (sym e),
    )

pub returns : goal.returns
returns g c =
    let l = c.loop-i in
    let a = c.args in
    let all : l.i ≡ a.size = omega arith in
    sym (l.invariant.4 ∙ ends (skips g.row.SKIP) a.size l.i l.work all)
