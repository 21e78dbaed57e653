-- `report::put::put_decimal` meets its contract: the kit writes the fewest digits, and those are the text.
use mathlib.Core.Path.{◌∙◌}
use Rattle.area.proofs.Placed.{puts_named}
use Rattle.report.proofs.Numerals.{is_decimal}
use Rattle.report.proofs.put.put_decimal.Goals as goal

pub returns : goal.returns
returns c =
    let count = c.decimal-count in
    puts_named (count.ensures.digits ∙ is_decimal count.result c.args.n count.ensures.len) c.requires c.put_bytes.ensures
