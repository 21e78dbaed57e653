-- `interpolator::known::Known::column_entry` meets its contract: a known point's covariance, or a term of the trend.
use Rattle.interpolator.specs.Lent.{query_lent}
use Rattle.interpolator.proofs.Entries.{of_points_lem, of_trend}
use Rattle.interpolator.proofs.known.Known.column_entry.Goals as goal

pub returns-then-i-n : goal.returns-then-i-n
returns-then-i-n c =
    let a = c.args in
    of_points_lem (query_lent a.self.now.interpolator a.self.now.query) a.ys.now a.j a.i c.if-i-n.true c.covariance.ensures

pub returns : goal.returns
returns c =
    let a = c.args in
    of_trend (query_lent a.self.now.interpolator a.self.now.query) a.ys.now a.j a.i c.if-i-n.false c.trend_term.ensures
