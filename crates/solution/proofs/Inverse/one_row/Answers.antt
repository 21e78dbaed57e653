-- `solution::Inverse::one_row` meets its contract: what is summed are the row's first numbers and those of b.
use native.Mathlib.Omega.{arith}
use mathlib.Core.Path.{ap₂, ◌∙◌}
use lib.Seq.{get_or-take, length-take-le}
use lib.Ieee.{nan, binary64, mul}
use Rattle.ieee.proofs.Sums.{same_sum, all_terms}
use Rattle.solution.proofs.Inverse.one_row.Goals as goal

pub returns : goal.returns
returns c =
    let a = c.args in
    let long = c.row.ensures.long in
    all_terms _ (length-take-le a.count c.row.result.now (omega arith)) c.summed_products.ensures
    ∙ same_sum a.count _ _
    (λ j b. ap₂ (mul binary64)
    (get_or-take a.count c.row.result.now j nan b ∙ c.row.ensures.entries j (omega arith))
    (get_or-take a.count a.b.now j nan b))
