-- `exponential::FractionTable::exp_neg` meets its contract: its entries are the table's, and by those e^−u comes out.
use Rattle.std.proofs.Common.{ℕ, List, ap, ◌∙◌}
use Rattle.exponential.specs.Exponential.{exp_neg_by}
use Rattle.exponential.proofs.Lent.{by_table}
use Rattle.exponential.proofs.FractionTable.exp_neg.Goals as goal

pub returns : goal.returns
returns c = c.exp_neg_by.ensures
    ∙ ap (λ (lent : List ℕ). exp_neg_by lent c.args.u) c.args.self.now.own
    ∙ by_table c.args.u
