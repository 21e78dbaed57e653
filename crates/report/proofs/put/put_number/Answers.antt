-- `report::put::put_number` meets its contract: a byte, and the digits past it.
use Rattle.report.specs.Numerals.{ascii, decimal_text}
use Rattle.area.proofs.Placed.{puts_then, puts_with_room, has_room_first}
use Rattle.report.proofs.put.put_number.Goals as goal

pub returns : goal.returns
returns c = puts_then (puts_with_room c.put_bytes.ensures (has_room_first (ascii " ") (decimal_text c.args.n) c.args.out.now c.requires)) c.put_decimal.ensures
