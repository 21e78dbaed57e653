-- `survey_file_writer::refusals::writer_refusal` meets its contract: the lists' lengths, the numbers, the same-spot distance, the file's length and the
-- room, in that order.
use mathlib.Core.Path.{sym, ◌∙◌}
use Rattle.survey.specs.Lent.{survey_lent}
use Rattle.survey_file_writer.proofs.Lengths.{long_is, short_is}
use Rattle.survey_file_writer.proofs.Refused.{found, passed, none_left, past_spot}
use Rattle.survey_file_writer.proofs.refusals.writer_refusal.Goals as goal

pub returns-then-is_too_long-clause-judged : goal.returns-then-is_too_long-clause-judged
returns-then-is_too_long-clause-judged c =
    let s = survey_lent c.args.survey.now in
    let left =
    past_spot s c.args.file.now c.in_ok-length_refusal.ensures c.some_number_not_finite.ensures c.if-some_number_not_finite.false
    c.is_other_spot.ensures.test c.if-is_other_spot.false in
    let long = long_is s c.number_count-count.ensures c.wells.ensures c.is_too_long.ensures in
    found left (sym long ∙ c.if-is_too_long.true)

pub returns-then-longer-clause-judged : goal.returns-then-longer-clause-judged
returns-then-longer-clause-judged c =
    let s = survey_lent c.args.survey.now in
    let left =
    past_spot s c.args.file.now c.in_ok-length_refusal.ensures c.some_number_not_finite.ensures c.if-some_number_not_finite.false
    c.is_other_spot.ensures.test c.if-is_other_spot.false in
    let long = long_is s c.number_count-count.ensures c.wells.ensures c.is_too_long.ensures in
    let short = short_is s c.args.file.now c.number_count-count.ensures c.longer.ensures in
    found (passed left (sym long ∙ c.if-is_too_long.false)) (sym short ∙ c.if-longer.true)

-- Ok(())
pub returns-clause-judged : goal.returns-clause-judged
returns-clause-judged c =
    let s = survey_lent c.args.survey.now in
    let left =
    past_spot s c.args.file.now c.in_ok-length_refusal.ensures c.some_number_not_finite.ensures c.if-some_number_not_finite.false
    c.is_other_spot.ensures.test c.if-is_other_spot.false in
    let long = long_is s c.number_count-count.ensures c.wells.ensures c.is_too_long.ensures in
    let short = short_is s c.args.file.now c.number_count-count.ensures c.longer.ensures in
    none_left (passed (passed left (sym long ∙ c.if-is_too_long.false)) (sym short ∙ c.if-longer.false))
