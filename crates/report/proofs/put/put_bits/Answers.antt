-- `report::put::put_bits` meets its contract: a byte, and past it the digits of the pattern, 16 of them.
use mathlib.Core.Path.{◌≡◌, ap, ◌∙◌}
use lib.ListN.{take}
use Rattle.report.specs.Numerals.{ascii, hex_text, bits_text}
use Rattle.area.proofs.Placed.{puts_then, puts_with_room, puts_named, has_room_first, has_room_then}
use Rattle.report.proofs.Numerals.{is_hex, bits_are}
use Rattle.report.proofs.put.put_bits.Goals as goal

pub returns : goal.returns
unfolding bits_text
returns c =
    let x = c.args.x in
    let count = c.hex-count in
    let digits_are : take count.result count.new.out ≡ bits_text x =
    count.ensures.digits ∙ is_hex c.pattern.result count.result c.pattern.type_inv count.ensures.len ∙ ap hex_text (c.pattern.ensures ∙ bits_are x) in
    let space = puts_with_room c.put_bytes.ensures (has_room_first (ascii " ") (bits_text x) c.args.out.now c.requires) in
    puts_then space (puts_named digits_are (has_room_then (bits_text x) c.requires space) c.put_bytes-2.ensures)
