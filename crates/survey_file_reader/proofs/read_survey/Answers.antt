-- `survey_file_reader::read_survey` meets its contract: its parts are those of the definition, one after the other.
use mathlib.Core.Path.{ap, sym, ◌∙◌}
use Rattle.std.proofs.lemmas.Result.{err_from_is_err_and}
use Rattle.error.specs.Numbers.{number_of}
use Rattle.survey_file_theory.specs.File.{newest_version}
use Rattle.survey_file_theory.specs.Lent.{areas_lent}
use Rattle.survey_file_reader.proofs.Whole.{accepted, refused_is, done_is, has_ends}
use Rattle.survey_file_reader.proofs.read_survey.Goals as goal

pub returns-in_err-reader_refusal-clause-equation : goal.returns-in_err-reader_refusal-clause-equation
returns-in_err-reader_refusal-clause-equation c =
    let p = err_from_is_err_and c.from_residual.result c.from_residual.ensures.1 in
    refused_is newest_version _ (areas_lent c.args.areas.now) p.0 p.1 (ap number_of p.2 ∙ c.in_err-reader_refusal.ensures)

pub returns-in_err-reader_refusal-clause-ends : goal.returns-in_err-reader_refusal-clause-ends
returns-in_err-reader_refusal-clause-ends c = has_ends newest_version _ _ (returns-in_err-reader_refusal-clause-equation c)

-- read_lists(
pub read_lists-requires : goal.read_lists-requires
read_lists-requires c = accepted newest_version _ _ (sym c.in_ok-reader_refusal.ensures)

-- Ok(read_header(bytes))
pub read_header-requires : goal.read_header-requires
read_header-requires c = (accepted newest_version _ _ (sym c.in_ok-reader_refusal.ensures)).0

pub returns-clause-equation : goal.returns-clause-equation
returns-clause-equation c =
    done_is newest_version c.args.bytes.now (areas_lent c.args.areas.now) (sym c.in_ok-reader_refusal.ensures) c.read_header.ensures c.read_lists.ensures.filled

pub returns-clause-ends : goal.returns-clause-ends
returns-clause-ends c = has_ends newest_version _ _ (returns-clause-equation c)
