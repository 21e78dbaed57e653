-- `survey_file_writer::refusals::is_other_spot` meets its contract: nothing but 2^-52 compares equal to it.
use lib.Ieee.{ne}
use mathlib.Core.Path.{refl}
use Rattle.survey_file_writer.proofs.Fit.{only_epsilon}
use Rattle.survey_file_writer.proofs.refusals.is_other_spot.Goals as goal

pub returns-clause-test : goal.returns-clause-test
unfolding ne
returns-clause-test c = refl

pub returns-clause-only : goal.returns-clause-only
unfolding ne
returns-clause-only c = only_epsilon c.args.same_spot c.well_formed.0.1
