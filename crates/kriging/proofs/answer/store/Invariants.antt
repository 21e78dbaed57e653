-- `kriging::answer::store` meets its contract: after j turns the area is what j stores write.
use Prim.Native.Nat.{◌≤◌}
use mathlib.Core.Path.{◌≡◌}
use lib.ListN.{length, get_or}
use lib.Ieee.{nan}
use Rattle.area.specs.Area.{written}
use Rattle.kriging.proofs.answer.store.Given as goal

abbrev pub invariant-loop-j : goal.invariant-loop-j
invariant-loop-j l =
    (l.j ≤ length l.numbers) × (l.j-end ≡ length l.numbers) × (length l.area ≡ length l.initial.area) × (l.area ≡ written l.at l.j (λ k. get_or l.numbers k nan) l.initial.area)
