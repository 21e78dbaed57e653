-- `interpolator::refusals::interpolation_refusal` meets its contract: part after part.
use Rattle.interpolator.specs.Lent.{query_lent, areas_lent}
use Rattle.interpolator.proofs.Parts.{some_axis_asked}
use Rattle.interpolator.proofs.refusals.interpolation_refusal.Goals as goal

-- area_refusal(interpolator, query, areas)
pub area_refusal-requires : goal.area_refusal-requires
area_refusal-requires c =
    let a = c.args in
    some_axis_asked a.limits (query_lent a.interpolator a.query.now) (areas_lent a.areas.now) c.in_ok-query_refusal.ensures
