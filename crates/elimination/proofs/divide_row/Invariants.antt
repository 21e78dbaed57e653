-- `elimination::divide_row` meets its contract: after x-index turns so many of the row's numbers are divided.
use Prim.Native.Nat.{◌*◌, ◌+◌, ◌-◌, ◌≤◌}
use mathlib.Core.Path.{◌≡◌}
use lib.Ieee.{binary64, div}
use borrow.Rule.Slice.PartMut.{mid_of}
use Rattle.area.specs.Area.{written}
use Rattle.elimination.specs.Elimination.{at}
use Rattle.elimination.proofs.divide_row.Given as goal

abbrev pub invariant-loop-x : goal.invariant-loop-x
invariant-loop-x l =
    (l.x-index ≤ l.width) × (l.row ≡ l.i * l.width) × (l.pivot ≡ at l.width l.fn.work l.i l.i)
    × (l.x-items ≡ written 0 l.x-index (λ k. div binary64 (at l.width l.fn.work l.i k) (at l.width l.fn.work l.i l.i))
    (mid_of (l.i * l.width) (l.i * l.width + l.width - l.i * l.width) l.fn.work))
