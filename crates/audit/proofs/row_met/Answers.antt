-- `audit::row_met` meets its contract: what sums with rounding show is so, and else the exact sums are asked.
use Rattle.std.proofs.Common.{rules, length, sym, ap₂, ◌∙◌}
use lib.Ieee.{Float, fits, binary64}
use Rattle.ieee.proofs.Zero.{holds}
use Rattle.estimate.specs.Estimate.{clearly}
use Rattle.audit.proofs.ClearRow.{clear_row}
use Rattle.audit.proofs.row_met.Goals as goal

-- return true;
pub returns-then-clearly_met : goal.returns-then-clearly_met
returns-then-clearly_met c =
    let a = c.args.row.now in
    let r = c.rounded_sums-sums in
    let shown = sym (ap₂ (λ (x y : Float). clearly (length a.weights.now) x y a.target a.tolerance) r.ensures.sum r.ensures.size)
    ∙ sym c.clearly_met.ensures ∙ c.if-clearly_met.true in
    sym (clear_row a.weights.now a.numbers.now r.ensures.lists.0 r.ensures.lists.1 a.column a.width a.target a.tolerance
    (holds (fits binary64 a.target) (search rules)) (holds (fits binary64 a.tolerance) (search rules)) (holds _ shown))
