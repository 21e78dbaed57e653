-- `survey_file_reader::trailer::Trailer::wells` meets its contract.
use mathlib.Core.Path.{◌∙◌}
use Rattle.survey_file_reader.proofs.Places.{number_in_lem}
use Rattle.survey_file_reader.proofs.trailer.Trailer.wells.Goals as goal

pub returns : goal.returns
returns c = let e = c.number.ensures in (e.0 ∙ number_in_lem c.args.self.now.bytes.now 4 2 c.place.ensures, e.1)
