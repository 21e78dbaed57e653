-- `elimination::clear_part` meets its contract: after j turns the first j numbers are made, of what was there.
use Prim.Native.Nat.{◌+◌}
use mathlib.Core.Path.{◌≡◌}
use lib.ListN.{length, get_or}
use lib.Ieee.{nan, binary64, sub, mul}
use Rattle.area.specs.Area.{written}
use Rattle.elimination.proofs.clear_part.Given as goal

abbrev pub invariant-loop-j : goal.invariant-loop-j
invariant-loop-j g l =
    (length l.part ≡ g.row.N) × (l.j-end ≡ g.row.N)
    × (l.part ≡ written 0 l.j (λ k. sub binary64 (get_or l.fn.work (l.other + k) nan) (mul binary64 l.factor (get_or l.fn.work (l.row + k) nan))) l.initial.part)
