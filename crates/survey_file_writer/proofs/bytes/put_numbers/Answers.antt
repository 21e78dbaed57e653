-- `survey_file_writer::bytes::put_numbers` meets its contract: the numbers are put, and the place is past them.
use mathlib.Core.Path.{refl}
use Rattle.survey_file_writer.proofs.Fit.{each_fits}
use Rattle.survey_file_writer.proofs.bytes.put_numbers.Goals as goal

pub returns-clause-put : goal.returns-clause-put
returns-clause-put c = record { put = c.fill-place.ensures; same_area = refl }

pub returns-clause-fit : goal.returns-clause-fit
returns-clause-fit c = each_fits c.args.numbers.now c.type_inv.numbers
