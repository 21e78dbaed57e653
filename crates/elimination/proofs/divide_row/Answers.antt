-- `elimination::divide_row` meets its contract: after x-index turns so many of the row's numbers are divided.
use Prim.Native.Nat.{◌*◌, ◌+◌, ◌-◌}
use mathlib.Core.Path.{◌≡◌, refl}
use native.Mathlib.Omega.{arith}
use lib.Ieee.{nan, binary64, div}
use Rattle.area.proofs.Places.{all_turns}
use Rattle.elimination.specs.Elimination.{at, divided}
use Rattle.elimination.proofs.Sections.{part_long, part_turn, part_written}
use Rattle.elimination.proofs.divide_row.Goals as goal

pub loop-x-preserved : goal.loop-x-preserved
loop-x-preserved c =
    let l = c.loop-x in
    let a = c.args in
    let row = a.i * a.width in
    let long = part_long row (row + a.width - row) a.work.now (omega arith) in
    let test = c.loop-x-test.true in (
      omega arith,
      refl,
      refl,
      part_turn row _ l.x-index (λ x. div binary64 x (at a.width a.work.now a.i a.i)) a.work.now l.x-items nan (omega arith) l.invariant.3,
    )

pub returns : goal.returns
unfolding divided
returns c =
    let l = c.loop-x in
    let a = c.args in
    let row = a.i * a.width in
    let long = part_long row (row + a.width - row) a.work.now (omega arith) in
    let test = c.loop-x-test.false in
    let all : l.x-index ≡ a.width = omega arith in
    part_written row _ a.width _ a.work.now l.x-items (omega arith) (omega arith) (all_turns 0 _ _ all l.invariant.3)
