-- `vectors::replay` meets its contract: so many turns gave records.
use Rattle.std.proofs.Common.{◌≡◌, Bool, List, length, Some}
use Rattle.std.specs.List.{FoldsTo}
use Rattle.vectors.specs.Tallied.{tallied}
use Rattle.vectors.proofs.replay.Given as goal

abbrev pub invariant-loop : goal.invariant-loop
invariant-loop g l =
    goal.F-IsAlwaysCallable g l.turn
    × ((records : List Bool)
    × FoldsTo (λ p agrees q. goal.F-step g p (Some agrees) q) l.initial.turn records l.turn
    × (l.tally ≡ tallied records)
    × (length records ≡ l.counter))
