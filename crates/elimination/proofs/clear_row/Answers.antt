-- `elimination::clear_row` meets its contract: after t turns 4 * t numbers of the row are cleared.
use Prim.Native.Nat.{◌*◌, ◌-◌}
use mathlib.Core.Path.{refl, ◌∙◌}
use native.Mathlib.Omega.{arith}
use Rattle.elimination.specs.Parts.{lessened}
use Rattle.elimination.proofs.Rows.{lessened_more, lessened_as, lessened_row}
use Rattle.elimination.proofs.clear_row.Goals as goal

-- for turn in 0..size / 2
pub loop-turn-init : goal.loop-turn-init
unfolding lessened
loop-turn-init c = (omega arith, refl, refl, refl, refl, omega arith, omega arith, refl)

pub loop-turn-preserved : goal.loop-turn-preserved
loop-turn-preserved c =
    let f = c in
    let h = f in
    let l = h.loop-turn in
    let s = h in
    let a = s.args in
    let w = 2 * a.size in
    let more =
    lessened_more w a.i a.k a.factor a.work.now (4 * l.turn) 4 l.work _ s.requires.0 (omega arith) l.invariant.7 f.clear_part.ensures in (
      omega arith,
      refl,
      refl,
      refl,
      f.clear_part.auto.work ∙ l.invariant.4,
      omega arith,
      omega arith,
      lessened_as w a.i a.k a.factor a.work.now (omega arith) more,
    )

pub returns-then-size-eq1 : goal.returns-then-size-eq1
returns-then-size-eq1 c =
    let f = c in
    let h = f in
    let l = h.loop-turn in
    let s = h in
    let a = s.args in
    let j = 2 * (a.size - 1) in
    let w = 2 * a.size in
    let xs = a.work.now in
    let so_far = lessened_as w a.i a.k a.factor xs {n = j} (omega arith) l.invariant.7 in
    lessened_row w a.i a.k a.factor xs (omega arith)
    (lessened_more w a.i a.k a.factor xs j 2 l.work _ s.requires.0 (omega arith) so_far f.clear_part-then-size-eq1.ensures)

pub returns-else-size-eq1 : goal.returns-else-size-eq1
returns-else-size-eq1 c =
    let l = c.loop-turn in
    let a = c.args in
    lessened_row (2 * a.size) a.i a.k a.factor a.work.now (omega arith) l.invariant.7
