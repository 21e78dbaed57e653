-- `report::room::decimal_length` meets its contract: the kit writes the fewest digits, and those are the text.
use native.Mathlib.Omega.{arith}
use mathlib.Core.Path.{◌≡◌, ap, ◌∙◌}
use lib.Dec.{lit<}
use lib.ListN.{length}
use Rattle.report.specs.Numerals.{decimal_text}
use Rattle.report.proofs.Numerals.{is_decimal, decimal_length_lem}
use Rattle.report.proofs.room.decimal_length.Goals as goal

-- fn decimal_length(n: u64) -> usize
pub returns : goal.returns
returns c =
    let called = c in
    let told = c.decimal.ensures in
    let n = called.args.n in
    let e : c.decimal.result ≡ length (decimal_text n) = told.in_bounds.1 ∙ ap length (told.digits ∙ is_decimal c.decimal.result n told.len) in
    (e, omega (arith, decimal_length_lem 20 n (lit< tt) (omega (arith, called.ranges.n))))
