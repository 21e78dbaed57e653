-- `report::put::put_bits_lines` meets its contract: after so many turns as many lines stand there.
use lib.ListN.{length}
use native.Mathlib.Omega.{arith}
use Rattle.report.specs.Listing.{bits_at}
use Rattle.report.proofs.Lines.{puts_line, has_room_line}
use Rattle.report.proofs.put.put_bits_lines.Goals as goal

pub put_bits_line-requires : goal.put_bits_line-requires
put_bits_line-requires c =
    let l = c.loop-x in
    let numbers = c.args.numbers.now in
    has_room_line (bits_at c.args.word.now numbers) l.x-index (length numbers) (omega arith) c.requires l.invariant

pub loop-x-preserved : goal.loop-x-preserved
loop-x-preserved c = puts_line (bits_at c.args.word.now c.args.numbers.now) c.loop-x.x-index c.loop-x.invariant c.put_bits_line.ensures
