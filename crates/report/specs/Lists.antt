-- The lists of a listing, made of an answer that is even.
use Rattle.std.specs.Prelude.{◌≡◌, Result, Ok, Err}
use Rattle.report.specs.declared.Answer.{Answer}
use Rattle.report.specs.declared.lists.Lists.{Lists}
use Rattle.report.specs.declared.Unprinted.{Unprinted}
use Rattle.report.specs.declared.Unprinted.TheVariants.{Uneven}
use Rattle.report.specs.Printed.{Even}
use Rattle.report.specs.Judged.{of_answer}

abbrev pub Makes : Answer → Result Lists Unprinted → Type 0
Makes a (Ok lists) = lists.answer.now ≡ a
Makes a (Err u) = (u ≡ Uneven) × ¬ of_answer Even a
