-- `interpolator::point::interpolate_points` meets its contract: after t turns the answer areas hold the first t targets'.
use Prim.Native.Nat.{◌/◌, ◌≤◌}
use mathlib.Core.Path.{◌≡◌}
use lib.ListN.{length}
use Rattle.area.specs.Area.{written}
use Rattle.interpolator.specs.Lent.{query_lent, StillLent}
use Rattle.interpolator_theory.specs.Interpolation.{figure, variance}
use Rattle.interpolator.proofs.point.interpolate_points.Given as goal

abbrev pub invariant-loop-t : goal.invariant-loop-t
invariant-loop-t l =
    let q = query_lent l.known.interpolator l.known.query in
    let work = l.initial.areas.work.now in
    (l.t ≤ l.t-end) × (l.t-end ≡ length l.known.query.targets.now / l.known.query.d)
    × (length l.areas.figures.now ≡ length l.initial.areas.figures.now) × (length l.areas.variances.now ≡ length l.initial.areas.variances.now)
    × (l.areas.figures.now ≡ written 0 l.t (figure q work) l.initial.areas.figures.now)
    × (l.areas.variances.now ≡ written 0 l.t (variance q work) l.initial.areas.variances.now)
    × (l.areas.work.now ≡ work) × StillLent l.initial.areas l.areas
