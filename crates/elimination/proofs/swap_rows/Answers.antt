-- `elimination::swap_rows` meets its contract: each part is what the other was, and the two are the area.
use Prim.Native.Nat.{◌*◌, ◌+◌, ◌-◌, ◌≤◌}
use mathlib.Core.Path.{◌≡◌, refl, ap, ap₂, ◌∙◌, sym}
use mathlib.Core.List.{List, ◌++◌}
use native.Mathlib.Omega.{arith}
use lib.ListN.{length, take, drop}
use lib.Seq.{get_or-take, get_or-drop}
use lib.Ieee.{Float, nan}
use borrow.Rule.Slice.PartMut.{mid_of, put_mid}
use Rattle.area.specs.Area.{written}
use Rattle.area.proofs.Turns.{length-written}
use Rattle.area.proofs.Rows.{row_end}
use Rattle.elimination.specs.Elimination.{at, swapped}
use Rattle.elimination.proofs.Sections.{part_long, part_filled, written_before, written_after}
use Rattle.elimination.proofs.swap_rows.Goals as goal

pub returns : goal.returns
unfolding swapped
returns c =
    let a = c.args in
    let w = a.width in
    let xs = a.work.now in
    let row = a.i * w in
    let other = a.r * w in
    let apart : row + w ≤ other = row_end w a.i a.r c.requires.0 in
    let cut = c.split_at_mut-above.ensures in
    let above = c.split_at_mut-above.result.0.now in
    let below = c.split_at_mut-above.result.1.now in
    let up = cut.front_len in
    let down = cut.back_len in
    let n = row + w - row in
    let upper : length (mid_of row n above) ≡ n = part_long row n above (omega arith) in
    let lower : length (mid_of 0 w below) ≡ w = part_long 0 w below (omega arith) in
    let trade = c.swap_with_slice.ensures in
    let l = trade.len in
    let m = trade.other_len in
    let first : put_mid row n above c.swap_with_slice.new.self ≡ written row w (at w xs a.r) above =
    part_filled row n w (at w xs a.r) above _ nan (omega arith) (omega arith) (omega arith)
    (λ j b. rw (trade.after, cut.back) (get_or-take w (drop other xs) j nan b ∙ get_or-drop other xs j nan)) in
    let second : put_mid 0 w below c.swap_with_slice.new.other ≡ written 0 w (at w xs a.i) below =
    part_filled 0 w w (at w xs a.i) below _ nan refl (omega arith) (omega arith)
    (λ j b. rw (trade.other_after, cut.front) (get_or-take n (drop row (take other xs)) j nan (omega arith) ∙ get_or-drop row (take other xs) j nan ∙ get_or-take other xs (row + j) nan (omega arith))) in
    ap₂ (λ (ys zs : List Float). ys ++ zs) first second
    ∙ written_after other w (at w xs a.i) (written row w (at w xs a.r) above) below (length-written row w _ above ∙ up)
    ∙ ap (λ (ys : List Float). written other w (at w xs a.i) ys) (written_before row w (at w xs a.r) above below (omega arith))
    ∙ ap (λ (ys : List Float). written other w (at w xs a.i) (written row w (at w xs a.r) ys)) (sym cut.value)
