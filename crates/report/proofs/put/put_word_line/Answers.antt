-- `report::put::put_word_line` meets its contract: three texts, each past the one before.
use mathlib.Core.List.{◌++◌}
use Rattle.report.specs.Numerals.{ascii, decimal_text}
use Rattle.report.specs.Listing.{spaced}
use Rattle.area.proofs.Placed.{puts_then, puts_more, puts_with_room, has_room_first, has_room_then}
use Rattle.report.proofs.put.put_word_line.Goals as goal

pub put_number-requires : goal.put_number-requires
put_number-requires c =
    let word = c.args.word.now in
    let number = spaced (decimal_text c.args.n) in
    let two = has_room_first (word ++ number) (ascii "\n") c.args.out.now c.requires in
    has_room_then number two (puts_with_room c.put_bytes.ensures (has_room_first word number c.args.out.now two))

pub returns : goal.returns
returns c =
    let word = c.args.word.now in
    let number = spaced (decimal_text c.args.n) in
    let two = has_room_first (word ++ number) (ascii "\n") c.args.out.now c.requires in
    let named = puts_with_room c.put_bytes.ensures (has_room_first word number c.args.out.now two) in
    puts_more (ascii "\n") c.requires (puts_then named c.put_number.ensures) c.put_bytes-2.ensures
