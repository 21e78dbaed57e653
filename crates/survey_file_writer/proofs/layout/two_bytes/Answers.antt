-- `survey_file_writer::layout::two_bytes` meets its contract.
use mathlib.Core.Path.{◌∙◌}
use Rattle.survey_file_writer.proofs.Placed.{two_bytes}
use Rattle.survey_file_writer.proofs.layout.two_bytes.Goals as goal

pub returns : goal.returns
returns c = c.to_le_bytes.ensures ∙ two_bytes c.args.count
