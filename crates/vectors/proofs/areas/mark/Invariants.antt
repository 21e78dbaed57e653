-- `vectors::areas::mark` meets its contract: after so many turns the first places hold their marks.
use Rattle.std.proofs.Common.{◌≡◌, ◌≤◌, length}
use Rattle.area.specs.Area.{written}
use Rattle.vectors.proofs.areas.mark.Given as goal

abbrev pub invariant-loop-at : goal.invariant-loop-at
invariant-loop-at g l =
    (l.area ≡ written 0 l.at (λ i. g.T.Place.of_word (g.T.Place.marked i)) l.initial.area)
    × (length l.area ≡ length l.initial.area)
    × (l.at ≤ l.at-end)
    × (l.at-end ≡ length l.initial.area)
