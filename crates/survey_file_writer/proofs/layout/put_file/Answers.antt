-- `survey_file_writer::layout::put_file` meets its contract: the numbers, then the codes, then the trailer.
use Rattle.survey.specs.Lent.{survey_lent}
use Rattle.survey_file_writer.proofs.Body.{room_numbers, codes_put, room_trailer, file_put}
use Rattle.survey_file_writer.proofs.layout.put_file.Goals as goal

pub put_all_numbers-requires : goal.put_all_numbers-requires
put_all_numbers-requires c = room_numbers (survey_lent c.args.survey.now) c.args.place.now c.requires

-- put_trailer(survey, place);
pub put_trailer-requires : goal.put_trailer-requires
put_trailer-requires c =
    let s = survey_lent c.args.survey.now in
    room_trailer s c.requires (codes_put s c.requires c.put_all_numbers.ensures.put c.put_bytes.ensures)

pub returns-clause-put : goal.returns-clause-put
returns-clause-put c =
    let s = survey_lent c.args.survey.now in
    file_put s (codes_put s c.requires c.put_all_numbers.ensures.put c.put_bytes.ensures) c.put_trailer.ensures
