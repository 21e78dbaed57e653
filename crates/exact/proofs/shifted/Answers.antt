-- `exact::shifted` meets its contract: what leaves a word at the top goes to the next.
use Rattle.std.proofs.Common.{◌^◌, refl, arith}
use Rattle.exact.proofs.Halves.{shift_splits, joins, shifts}
use Rattle.exact.proofs.shifted.Goals as goal

pub overflow_add-result : goal.overflow_add-result
overflow_add-result c =
    let a = c.args in
    record { fits = joins a.shift (omega arith) a.product.high a.product.low c.well_formed.0.1.1.0.1 }

pub returns : goal.returns
returns c =
    let a = c.args in
    let s = shift_splits a.shift (omega arith) in
    record {
      value = shifts (2 ^ 64) (2 ^ a.shift) a.product.low a.product.high _ _ _ _ (s a.product.low) (s a.product.high);
      same = (refl, refl);
    }
