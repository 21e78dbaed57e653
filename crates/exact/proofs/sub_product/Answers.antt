-- `exact::sub_product` meets its contract: minus x times y is added.
use Rattle.std.proofs.Common.{ℤ, ◌+ℤ◌, ◌*ℤ◌, ap, ◌∙◌}
use lib.Ieee.{fits, binary64}
use Rattle.ieee.proofs.Zero.{holds}
use Rattle.exact.specs.Units.{units}
use Rattle.words.specs.Words.{reading, held}
use Rattle.words.proofs.Whole.{negℤ_*ℤ}
use Rattle.exact.proofs.Units.{units_neg}
use Rattle.exact.proofs.sub_product.Goals as goal

pub returns : goal.returns
returns c =
    let a = c.args in
    c.add_product.ensures
    ∙ ap (λ (z : ℤ). held (reading a.sum +ℤ z)) (ap (λ (w : ℤ). w *ℤ units a.y)
    (units_neg a.x (holds (fits binary64 a.x) c.well_formed.1.0.1)) ∙ negℤ_*ℤ (units a.x) (units a.y))
