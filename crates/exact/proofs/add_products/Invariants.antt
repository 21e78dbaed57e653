-- `exact::add_products` meets its contract. The invariant: the words hold the sum and the products so far, and at is the place in f of the next.
use Rattle.std.proofs.Common.{◌≡◌, ◌+◌, ◌*◌, length}
use Rattle.words.proofs.Words.{Words}
use Rattle.exact.proofs.Products.{summed}
use Rattle.exact.proofs.add_products.Given as goal

abbrev pub invariant-loop-x : goal.invariant-loop-x
invariant-loop-x l =
    (l.at ≡ l.column + l.x-index * l.width) × Words l.total × (length l.total ≡ 67) × (l.total ≡ summed l.z l.f l.column l.width l.fn.sum l.x-index)
