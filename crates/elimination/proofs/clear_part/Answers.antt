-- `elimination::clear_part` meets its contract: all is read before it is written, so that each number stored is made of what was there.
use Prim.Native.Nat.{◌+◌, ◌-◌}
use mathlib.Core.Path.{◌≡◌, ap, ◌∙◌, sym}
use native.Mathlib.Omega.{arith}
use lib.ListN.{length}
use lib.Ieee.{nan}
use Rattle.area.proofs.Start.{from_start}
use Rattle.area.proofs.Turns.{length-written}
use Rattle.elimination.specs.Parts.{lessened}
use Rattle.elimination.proofs.Sections.{part_filled}
use Rattle.elimination.proofs.clear_part.Goals as goal

pub returns : goal.returns
unfolding lessened
returns g c =
    let a = c.args in
    let l = c.loop-j in
    let all : l.j ≡ g.row.N = omega arith in
    let room = sym (length-written 0 l.j _ _) ∙ ap length (sym l.invariant.2) ∙ l.invariant.0 in
    let copied = c.copy_from_slice.ensures in
    part_filled a.other (a.other + g.row.N - a.other) g.row.N _ a.work.now _ nan (omega arith) (omega arith) (omega (arith, copied.len))
    (λ j b. rw (copied.after, l.invariant.2) (from_start l.j _ _ j nan (omega arith) (omega (arith, room))))
