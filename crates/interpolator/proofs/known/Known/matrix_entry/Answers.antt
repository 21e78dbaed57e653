-- `interpolator::known::Known::matrix_entry` meets its contract: by the part of the matrix that the entry stands in.
use Rattle.interpolator.specs.Lent.{query_lent}
use Rattle.interpolator.proofs.Entries.{left, upper_right, lower_right}
use Rattle.interpolator.proofs.known.Known.matrix_entry.Goals as goal

pub returns-then-j-n : goal.returns-then-j-n
returns-then-j-n c =
    let a = c.args in
    left (query_lent a.self.now.interpolator a.self.now.query) a.i a.j c.if-j-n.true c.column_entry.ensures

pub returns-then-i-n : goal.returns-then-i-n
returns-then-i-n c =
    let a = c.args in
    upper_right (query_lent a.self.now.interpolator a.self.now.query) a.i a.j c.if-j-n.false c.if-i-n.true c.trend_term.ensures

-- 0.0
pub returns : goal.returns
returns c =
    let a = c.args in
    lower_right (query_lent a.self.now.interpolator a.self.now.query) a.i a.j c.if-j-n.false c.if-i-n.false
