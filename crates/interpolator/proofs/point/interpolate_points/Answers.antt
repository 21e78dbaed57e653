-- `interpolator::point::interpolate_points` meets its contract: after t turns the answer areas hold the first t targets'.
use Prim.Native.Nat.{◌/◌}
use native.Mathlib.Omega.{arith}
use mathlib.Core.Path.{◌≡◌, ap, ◌∙◌}
use lib.ListN.{length}
use Rattle.interpolator_theory.specs.Call.{areas_of}
use Rattle.interpolator.specs.Lent.{query_lent, areas_lent}
use Rattle.interpolator.proofs.Estimates.{all_answered}
use Rattle.interpolator.proofs.point.interpolate_points.Goals as goal

pub returns-clause-answered : goal.returns-clause-answered
returns-clause-answered c =
    let a = c.args in
    let known = a.known.now in
    let l = c.loop-t in
    let all : l.t ≡ length known.query.targets.now / known.query.d = omega (arith, l.invariant.0, l.invariant.1, c.loop-t-test.false) in
    ap (λ work. areas_of work l.areas.figures.now l.areas.variances.now) l.invariant.6
    ∙ all_answered (query_lent known.interpolator known.query) (areas_lent a.areas.now) all l.invariant.4 l.invariant.5
