-- `variogram::Variogram::evaluate_with` meets its contract: by the table itself, lent.
use Prim.Native.Nat.{ℕ}
use mathlib.Core.Path.{ap, ◌∙◌}
use mathlib.Core.List.{List}
use Rattle.variogram.specs.Model.{semivariance_by}
use Rattle.variogram.proofs.Model.{by_own_table}
use Rattle.variogram.proofs.Variogram.evaluate_with.Goals as goal

pub returns : goal.returns
returns c =
    c.evaluate_by.ensures
    ∙ ap (λ (lent : List ℕ). semivariance_by lent c.args.self c.args.h) c.args.table.now.own
    ∙ by_own_table c.args.self c.args.h
