-- `survey_checks::counts::is_product` meets its contract: the quotient is k where nothing is left over.
use mathlib.Core.Path.{sym}
use Rattle.survey.proofs.Codes.{no_product}
use Rattle.survey_checks.proofs.counts.is_product.Goals as goal

-- return false;
pub returns-then-len-n-ne0 : goal.returns-then-len-n-ne0
returns-then-len-n-ne0 c = let a = c.args in sym (no_product a.len a.k a.n c.if-len-n-ne0.true)
