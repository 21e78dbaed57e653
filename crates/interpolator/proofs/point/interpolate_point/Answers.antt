-- `interpolator::point::interpolate_point` meets its contract: b and z stand in the first places of their arrays.
use native.Mathlib.Omega.{arith}
use mathlib.Core.Path.{refl, ap, ◌∙◌}
use Rattle.ieee.specs.Floats.{not_below_zero}
use Rattle.solution.proofs.Room.{solved_is}
use Rattle.interpolator.specs.Lent.{query_lent}
use Rattle.interpolator.proofs.Estimates.{filled_solved, figure_is, variance_is}
use Rattle.interpolator.proofs.point.interpolate_point.Goals as goal

-- Estimate { value, variance }
pub returns : goal.returns
returns c =
    let a = c.args in
    let known = a.known.now in
    let query = query_lent known.interpolator known.query in
    let long = c.requires.1 in
    let places = c.fill_right_side.auto.b in
    let rows = c.fill_z.ensures ∙ solved_is known.size a.areas.now.work.now _ _ c.requires.2 (omega (arith, places)) (omega arith) in
    let solved = filled_solved query a.areas.now.work.now a.t known.size _ _ _ _ _ known.sized refl c.fill_right_side.ensures rows (omega arith) (omega arith) in
    record {
      value = figure_is query a.areas.now.work.now a.t known.size _ _ solved c.weighted_sum-value.ensures;
      variance = variance_is query a.areas.now.work.now a.t known.size _ _ solved (c.max-variance.ensures ∙ ap not_below_zero c.sill_less.ensures);
    }
