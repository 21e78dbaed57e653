-- `kriging::node::fill_gamma` meets its contract: after i turns b is what i stores write.
use Rattle.std.proofs.Common.{◌∙◌, ap, ap₂, length-set}
use lib.Ieee.{Float}
use Rattle.area.proofs.Start.{next_start}
use Rattle.variogram.specs.Model.{semivariance}
use Rattle.variogram.specs.Distance.{distance2d}
use Rattle.kriging_theory.specs.Node.{gamma_to}
use Rattle.kriging.proofs.node.fill_gamma.Goals as goal

pub loop-i-preserved : goal.loop-i-preserved
unfolding gamma_to
loop-i-preserved c =
    let at = c.args.at in
    let well = c.well-well.ensures in
    let value =
    c.evaluate_with.ensures
    ∙ ap (semivariance c.args.taken.now.survey.now.options.variogram)
    (c.distance_2d-h.ensures ∙ ap₂ (λ (x y : Float). distance2d x y at.x at.y) well.x well.y) in
    record {
      long = simp length-set c.loop-i.invariant.long;
      filled = next_start c.loop-i.i _ _ _ _ value c.loop-i.invariant.filled;
    }
