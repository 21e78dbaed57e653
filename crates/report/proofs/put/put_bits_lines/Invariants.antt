-- `report::put::put_bits_lines` meets its contract: after so many turns as many lines stand there.
use Rattle.report.specs.Listing.{lines, bits_at}
use Rattle.area.specs.Cursor.{Puts}
use Rattle.report.proofs.put.put_bits_lines.Given as goal

abbrev pub invariant-loop-x : goal.invariant-loop-x
invariant-loop-x l = Puts (lines l.x-index (bits_at l.word l.numbers)) l.initial.out l.out
