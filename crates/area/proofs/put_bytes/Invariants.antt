-- After j turns the area is what j stores write.
use Rattle.std.proofs.Common.{◌≡◌, ◌≤◌, ◌+◌, length, get_or}
use Rattle.area.specs.Area.{written}
use Rattle.area.proofs.put_bytes.Given as goal

abbrev pub invariant-loop-j : goal.invariant-loop-j
invariant-loop-j l =
    (l.j ≤ length l.bytes) × (l.j-end ≡ length l.bytes) × (length l.area ≡ length l.initial.area) × (l.at + length l.bytes ≤ length l.initial.area)
    × (l.area ≡ written l.at l.j (λ k. get_or l.bytes k 0) l.initial.area)
