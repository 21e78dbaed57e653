-- `survey_file_writer::layout::put_trailer` meets its contract: its 14 bytes are the trailer's.
use mathlib.Core.Path.{ap, ◌∙◌}
use Rattle.ieee.specs.Bytes.{little_endian}
use Rattle.survey.specs.Lent.{survey_lent}
use Rattle.survey_file_theory.specs.File.{newest_version, version_for}
use Rattle.survey_file_theory.proofs.Models.{same_number}
use Rattle.survey_file_writer.proofs.Body.{trailer_put}
use Rattle.survey_file_writer.proofs.layout.put_trailer.Goals as goal

pub returns : goal.returns
returns c =
    trailer_put (survey_lent c.args.survey.now)
    (c.two_bytes.ensures ∙ ap (little_endian 2) c.wells-2.ensures)
    (c.two_bytes-2.ensures ∙ ap (little_endian 2) c.node_count.ensures)
    c.two_bytes-3.ensures
    (c.from-model.ensures ∙ same_number c.args.survey.now.options.variogram.model)
    (c.version_of-version.ensures ∙ ap (version_for newest_version) c.wells.ensures)
    c.requires c.put_bytes.ensures c.put_bytes-2.ensures c.put_bytes-3.ensures c.put_bytes-4.ensures c.put_bytes-5.ensures
