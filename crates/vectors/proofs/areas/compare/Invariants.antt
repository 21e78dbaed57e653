-- `vectors::areas::compare` meets its contract: after so many turns the first places are compared.
use Rattle.std.proofs.Common.{◌≡◌, ◌≤◌, length, map, get_or}
use Rattle.vectors.specs.Lent.{compared_to}
use Rattle.vectors.proofs.areas.compare.Given as goal

abbrev pub invariant-loop-at : goal.invariant-loop-at
invariant-loop-at g l =
    ((l.part, l.calls)
    ≡ compared_to (λ i. g.T.Place.pattern_of (get_or l.area i g.T.Place.none)) g.T.Place.marked (map g.W.Place.pattern_of l.told)
    l.written l.at
    (l.initial.part, l.initial.calls))
    × (l.at ≤ l.at-end)
    × (l.at-end ≡ length l.area)
