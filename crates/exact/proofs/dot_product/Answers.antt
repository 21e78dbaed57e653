-- `exact::dot_product` meets its contract: the products are added to 0.
use Rattle.std.proofs.Common.{ℕ, List, pos, ◌+ℤ◌, ap, ◌∙◌}
use lib.IntN.{+ℤ_idl}
use Rattle.words.specs.Words.{reading, held}
use Rattle.exact.specs.Products.{dotted}
use Rattle.words.proofs.Held.{held_zero, held_add}
use Rattle.exact.proofs.dot_product.Goals as goal

pub returns : goal.returns
returns c =
    let a = c.args in
    let d = dotted a.z.now a.f.now a.column a.width in
    c.add_products.ensures ∙ ap (λ (ws : List ℕ). held (reading ws +ℤ d)) held_zero ∙ held_add (pos 0) d ∙ ap held (+ℤ_idl d)
