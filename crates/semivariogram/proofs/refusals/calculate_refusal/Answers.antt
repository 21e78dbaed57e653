-- `semivariogram::refusals::calculate_refusal` meets its contract: test after test.
use Rattle.std.proofs.Common.{arith}
use Rattle.semivariogram.proofs.Told.{refusal_is}
use Rattle.semivariogram.proofs.refusals.calculate_refusal.Goals as goal

pub returns-then-not_finite : goal.returns-then-not_finite
returns-then-not_finite c = grind (arith, refusal_is, c.not_finite.ensures, c.if-not_finite.true)
