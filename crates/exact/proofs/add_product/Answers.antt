-- `exact::add_product` meets its contract: a sum of one product.
use Rattle.std.proofs.Common.{ℤ, ◌+ℤ◌, ◌*ℤ◌, ap, ◌∙◌}
use lib.IntN.{+ℤ_idl}
use Rattle.exact.specs.Units.{units}
use Rattle.words.specs.Words.{reading, held}
use Rattle.exact.specs.Products.{dotted}
use Rattle.exact.proofs.add_product.Goals as goal

pub returns : goal.returns
unfolding dotted
returns c =
    let a = c.args in
    c.add_products.ensures ∙ ap (λ (z : ℤ). held (reading a.sum +ℤ z)) (+ℤ_idl (units a.x *ℤ units a.y))
