-- `survey_file_writer::bytes::fill` meets its contract: the bytes of the numbers so far are put.
use lib.ListN.{take}
use Rattle.ieee.specs.Bytes.{f64_bytes}
use Rattle.area.specs.Placed.{Put}
use Rattle.survey_file_writer.proofs.bytes.fill.Given as goal

abbrev pub invariant-loop-number : goal.invariant-loop-number
invariant-loop-number l = Put l.at (f64_bytes (take l.number-index l.numbers)) l.initial.area l.next l.area
