-- `audit::exactly_met` meets its contract: a slice has too few numbers for its exact sum to wrap.
use Rattle.std.proofs.Common.{rules}
use Prim.Native.Nat.{◌*◌, ◌^◌, ◌<◌}
use native.Mathlib.Omega.{arith}
use mathlib.Core.Path.{◌∙◌, sym, ap}
use lib.ListN.{length}
use lib.IntN.{◌+ℤ◌, ◌*ℤ◌}
use lib.Ieee.{Float, fits, binary64}
use Rattle.ieee.proofs.Zero.{holds}
use Rattle.exact.specs.Units.{units}
use Rattle.words.specs.Words.{reading, held}
use Rattle.words.specs.Compared.{is_at_most}
use Rattle.words.proofs.Compared.{at_most}
use Rattle.audit.proofs.ExactRow.{row_is}
use Rattle.audit.proofs.exactly_met.Goals as goal

pub returns : goal.returns
returns c =
    let compared = c.compare-compared in
    let allowed = c.add_product-allowed in
    let missing = c.sub_product-missing in
    let sum = c.dot_product-sum in
    let a = c.args.row.now in
    let few : length a.weights.now * 8 < 2 ^ 63 = omega arith in
    let same = ap (λ (y : Float). held (reading c.add_product-one.result +ℤ units a.tolerance *ℤ units y)) c.abs.ensures in
    c.is_at_most.ensures ∙ ap is_at_most compared.ensures.order ∙ sym (at_most (reading c.magnitude.result) (reading allowed.result))
    ∙ row_is a.weights.now a.numbers.now a.column a.width a.target (omega arith) a.tolerance
    (holds (fits binary64 a.target) (search rules))
    sum.result missing.result c.magnitude.result c.add_product-one.result allowed.result
    sum.ensures missing.ensures c.magnitude.ensures c.add_product-one.ensures (allowed.ensures ∙ same)
