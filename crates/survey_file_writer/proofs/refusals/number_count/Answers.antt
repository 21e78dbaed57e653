-- `survey_file_writer::refusals::number_count` meets its contract: each list of f64 has fewer than 2^60 numbers, so that no sum of five wraps.
use mathlib.Core.Path.{sym, ap}
use lib.ListN.{length}
use Rattle.survey.specs.Lent.{survey_lent}
use Rattle.survey_file_writer.proofs.Lengths.{length-numbers}
use Rattle.survey_file_writer.proofs.refusals.number_count.Goals as goal

pub returns : goal.returns
returns c = let h = ap length c.taken_externals-taken.ensures in rw h (sym (length-numbers (survey_lent c.args.survey.now)))
