-- `solution::weighted_sum` meets its contract: the lists that are summed are the first numbers of those that are lent.
use mathlib.Core.Path.{sym, ◌∙◌, ap₂}
use lib.Ieee.{div, of_bits, nan, binary64, mul}
use lib.Seq.{get_or-take, length-take-le}
use Rattle.ieee.proofs.Sums.{same_sum, all_terms}
use Rattle.solution.proofs.Terms.{past_first, past_second}
use Rattle.solution.proofs.weighted_sum.Goals as goal

-- return 0.0 / 0.0;
pub returns-then-z-count : goal.returns-then-z-count
unfolding div of_bits
returns-then-z-count c = let a = c.args in sym (past_first a.z.now a.numbers.now a.count c.if-z-count.true)

pub returns-then-numbers-count : goal.returns-then-numbers-count
unfolding div of_bits
returns-then-numbers-count c = let a = c.args in sym (past_second a.z.now a.numbers.now a.count c.if-numbers-count.true)

pub returns : goal.returns
returns c =
    let a = c.args in
    all_terms _ (length-take-le a.count a.z.now c.if-z-count.false) c.summed_products.ensures
    ∙ same_sum a.count _ _ (λ k b. ap₂ (mul binary64) (get_or-take a.count a.z.now k nan b) (get_or-take a.count a.numbers.now k nan b))
