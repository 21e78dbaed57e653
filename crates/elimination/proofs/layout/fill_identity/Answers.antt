-- `elimination::layout::fill_identity` meets its contract: zeros, and the one comes last.
use Prim.Native.Nat.{◌*◌, ◌+◌, ◌-◌}
use mathlib.Core.Path.{◌≡◌}
use native.Mathlib.Omega.{arith}
use lib.ListN.{length, get_or-replicate}
use lib.Ieee.{nan}
use borrow.Rule.Slice.PartMut.{mid_of}
use Rattle.ieee.specs.Floats.{zero_float}
use Rattle.elimination.proofs.RowParts.{identity_one}
use Rattle.elimination.proofs.Sections.{part_long, part_filled}
use Rattle.elimination.proofs.layout.fill_identity.Goals as goal

pub returns : goal.returns
returns c =
    let a = c.args in
    let from = a.i * (2 * a.size) + a.size in
    let n = from + a.size - from in
    let long : length (mid_of from n a.work.now) ≡ n = part_long from n a.work.now (omega arith) in
    let same = c.fill.ensures.len in
    let zeros = c.fill.ensures.after (λ y e. e) in
    identity_one from a.size a.i a.work.now _ (omega arith)
    (part_filled from n a.size (λ _. zero_float) a.work.now c.fill.new.self nan (omega arith) (omega arith) (omega arith)
    (λ j b. rw zeros (get_or-replicate (length (mid_of from n a.work.now)) j zero_float nan (omega arith))))
