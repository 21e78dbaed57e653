-- `survey_file_writer::write_survey` meets its contract: turned away as its rules say, or written.
-- All that the contract says follows from the equation.
use mathlib.Core.Path.{◌≡◌, refl, ap, ◌∙◌}
use Rattle.std.proofs.Common.{rules, Ok}
use Rattle.std.proofs.lemmas.Result.{err_from_is_err_and}
use Rattle.error.specs.Numbers.{number_of}
use Rattle.survey.specs.Lent.{survey_lent}
use Rattle.survey_file_theory.specs.File.{newest_version}
use Rattle.survey_file_theory.specs.Writer.{outcome_of, writer}
use Rattle.survey_file_writer.proofs.Promised.{refused_there, room_there, written_there, promised}
use Rattle.survey_file_writer.proofs.write_survey.Goals as goal

pub returns-in_err-writer_refusal : goal.returns-in_err-writer_refusal
returns-in_err-writer_refusal c =
    let p = err_from_is_err_and c.from_residual.result c.from_residual.ensures.1 in
    refused_there (survey_lent c.args.survey.now) c.args.file.now p.0 p.1 (ap number_of p.2 ∙ c.in_err-writer_refusal.ensures.judged)

-- put_file(survey, &mut place);
pub put_file-requires : goal.put_file-requires
put_file-requires c = room_there (survey_lent c.args.survey.now) c.args.file.now c.in_ok-writer_refusal.ensures.judged

pub returns : goal.returns
returns c =
    let s = survey_lent c.args.survey.now in
    let file = c.args.file.now in
    let place = c.put_file.new.place in
    let none = c.in_ok-writer_refusal.ensures in
    let written : outcome_of (Ok place.at) place.area.now ≡ writer newest_version s file = written_there s file none.judged c.put_file.ensures.put.put in
    promised s file c.put_file.ensures.fit (none.spot refl) (search rules)
