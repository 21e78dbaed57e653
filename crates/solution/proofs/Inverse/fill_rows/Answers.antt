-- `solution::Inverse::fill_rows` meets its contract: after so many turns z has four times as many rows.
use Prim.Native.Nat.{◌*◌, ◌+◌, ◌-◌}
use native.Mathlib.Nat.{zero-add}
use native.Mathlib.Omega.{arith}
use mathlib.Core.Path.{◌≡◌, ap, refl, sym, ◌∙◌}
use lib.ListN.{length, get_or}
use lib.Ieee.{nan}
use borrow.Rule.Slice.PartMut.{put_mid}
use Rattle.area.specs.Area.{written}
use Rattle.area.proofs.Turns.{length-written}
use Rattle.elimination.proofs.Rows.{fill_more}
use Rattle.elimination.proofs.Sections.{part_filled}
use Rattle.solution.proofs.Terms.{rows}
use Rattle.solution.proofs.Inverse.fill_rows.Goals as goal

pub loop-turn-preserved : goal.loop-turn-preserved
loop-turn-preserved c =
    let a = c.args in
    let l = c.loop-turn in
    let k = 4 * l.turn in
    let f = rows a.self.now.size a.self.now.work.now a.b.now in
    let copied = c.copy_from_slice.ensures in
    let four : put_mid k (k + 4 - k) l.z c.copy_from_slice.new.self ≡ written k 4 (λ j. f (k + j)) l.z =
    part_filled k (k + 4 - k) 4 _ l.z _ nan (omega arith) (omega arith) (omega (arith, copied.len))
    (λ j b. ap (λ xs. get_or xs j nan) copied.after ∙ c.four_rows.ensures j b) in
    let all : put_mid k (k + 4 - k) l.z c.copy_from_slice.new.self ≡ written 0 (4 * (l.turn + 1)) f a.z.now =
    fill_more 0 k 4 {n = 4 * (l.turn + 1)} f (λ j. f (k + j)) a.z.now l.z _ (omega arith) (λ j b. refl) l.invariant.2
    (four ∙ ap (λ p. written p 4 (λ j. f (k + j)) l.z) (sym (zero-add k))) in
    (refl, ap length all ∙ length-written 0 (4 * (l.turn + 1)) f a.z.now, all)
