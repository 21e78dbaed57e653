-- `report::put::put_node` meets its contract: five texts, each past the one before.
use mathlib.Core.List.{◌++◌}
use Rattle.report.specs.Numerals.{ascii, decimal_text, bits_text}
use Rattle.report.specs.Listing.{spaced}
use Rattle.area.proofs.Placed.{puts_then, puts_more, has_room_first, has_room_then}
use Rattle.report.proofs.put.put_node.Goals as goal

pub put_bits-requires : goal.put_bits-requires
put_bits-requires c =
    let a = c.args in
    let figure = spaced (bits_text a.figure) in
    let variance = spaced (bits_text a.variance) in
    let verdict = spaced (decimal_text a.verdict) in
    let two = decimal_text a.number ++ figure in
    let out = c.args.out.now in
    let four = has_room_first (two ++ variance ++ verdict) (ascii "\n") out c.requires in
    has_room_then figure (has_room_first two variance out (has_room_first (two ++ variance) verdict out four)) c.put_decimal.ensures

pub put_bits-requires-2 : goal.put_bits-requires-2
put_bits-requires-2 c =
    let a = c.args in
    let variance = spaced (bits_text a.variance) in
    let verdict = spaced (decimal_text a.verdict) in
    let three = decimal_text a.number ++ spaced (bits_text a.figure) ++ variance in
    has_room_then variance (has_room_first three verdict c.args.out.now (has_room_first (three ++ verdict) (ascii "\n") c.args.out.now c.requires))
    (puts_then c.put_decimal.ensures c.put_bits.ensures)

pub put_number-requires : goal.put_number-requires
put_number-requires c =
    let a = c.args in
    let verdict = spaced (decimal_text a.verdict) in
    let four = decimal_text a.number ++ spaced (bits_text a.figure) ++ spaced (bits_text a.variance) ++ verdict in
    has_room_then verdict (has_room_first four (ascii "\n") c.args.out.now c.requires)
    (puts_then (puts_then c.put_decimal.ensures c.put_bits.ensures) c.put_bits-2.ensures)

pub returns : goal.returns
returns c =
    puts_more (ascii "\n") c.requires
    (puts_then (puts_then (puts_then c.put_decimal.ensures c.put_bits.ensures) c.put_bits-2.ensures) c.put_number.ensures)
    c.put_bytes.ensures
