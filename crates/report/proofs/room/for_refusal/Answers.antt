-- `report::room::for_refusal` meets its contract: the digits of the number, and 9 bytes more.
use native.Mathlib.Omega.{arith}
use mathlib.Core.Path.{refl}
use Rattle.report.specs.Numerals.{ascii}
use Rattle.report.specs.Listing.{refused_text}
use Rattle.report.proofs.Lengths.{word_line_length}
use Rattle.report.proofs.room.for_refusal.Goals as goal

pub returns-then-decimal_length-size : goal.returns-then-decimal_length-size
unfolding refused_text
returns-then-decimal_length-size c = (refl, omega (arith, word_line_length (ascii "refused") c.args.number))

pub returns : goal.returns
unfolding refused_text
returns c = omega (arith, word_line_length (ascii "refused") c.args.number)
