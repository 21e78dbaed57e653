-- `interpolator::point::sill_less` meets its contract: after i turns acc is the sill less the first i products.
use Prim.Native.Nat.{◌≤◌, ◌-◌}
use mathlib.Core.Path.{◌≡◌}
use lib.ListN.{get_or}
use lib.Ieee.{nan, binary64, mul}
use Rattle.ieee.specs.Sums.{less_each}
use Rattle.interpolator.proofs.point.sill_less.Given as goal

abbrev pub invariant-loop-i : goal.invariant-loop-i
invariant-loop-i l =
    (l.i ≤ l.size) × (l.acc ≡ less_each l.sill l.i (λ k. mul binary64 (get_or l.z k nan) (get_or l.b k nan)))

abbrev pub decreases-loop-i : goal.decreases-loop-i
decreases-loop-i l = l.size - l.i
