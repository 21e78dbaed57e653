-- `variogram::calculate_distance` meets its contract: where a point does not lie in its list the definition is a NaN too.
use Rattle.std.proofs.Common.{ap, sym, ◌∙◌}
use Rattle.ieee.specs.Root.{sqrt_of}
use Rattle.variogram.proofs.Distance.{past_end, past_start, point_offered, point_within, distance_offered}
use Rattle.variogram.proofs.Parts.{taken_squares}
use Rattle.variogram.proofs.calculate_distance.Goals as goal

pub returns-in_default : goal.returns-in_default
returns-in_default c = c.not_a_number.ensures ∙ sym (past_start _ _ _ _ _ c.in_default.ensures)

pub returns-in_default-point : goal.returns-in_default-point
returns-in_default-point c = c.not_a_number-in_default-point.ensures ∙ sym (past_end _ _ _ _ _ c.in_default-point.ensures)

pub returns : goal.returns
returns c =
    let a = c.args in
    let within = point_within a.p1.now a.i a.d c.in-Some.ensures.0 in
    rw (c.sqrt.ensures, c.sum_axes.ensures, c.in-Some.ensures.1, c.in-Some-point.ensures.1)
    (ap sqrt_of (taken_squares a.p1.now a.p2.now _ _ a.d within)
    ∙ sym (distance_offered _ _ _ _ _ (point_offered a.p1.now a.i a.d c.in-Some.ensures.0)))
