-- `report::put::put_bits_line` meets its contract: three texts, each past the one before.
use mathlib.Core.List.{◌++◌}
use Rattle.report.specs.Numerals.{ascii, bits_text}
use Rattle.report.specs.Listing.{spaced}
use Rattle.area.proofs.Placed.{puts_then, puts_more, puts_with_room, has_room_first, has_room_then}
use Rattle.report.proofs.put.put_bits_line.Goals as goal

pub put_bits-requires : goal.put_bits-requires
put_bits-requires c =
    let word = c.args.word.now in
    let figure = spaced (bits_text c.args.x) in
    let two = has_room_first (word ++ figure) (ascii "\n") c.args.out.now c.requires in
    has_room_then figure two (puts_with_room c.put_bytes.ensures (has_room_first word figure c.args.out.now two))

pub returns : goal.returns
returns c =
    let word = c.args.word.now in
    let figure = spaced (bits_text c.args.x) in
    let two = has_room_first (word ++ figure) (ascii "\n") c.args.out.now c.requires in
    let named = puts_with_room c.put_bytes.ensures (has_room_first word figure c.args.out.now two) in
    puts_more (ascii "\n") c.requires (puts_then named c.put_bits.ensures) c.put_bytes-2.ensures
