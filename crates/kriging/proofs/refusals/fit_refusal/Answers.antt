-- `kriging::refusals::fit_refusal` meets its contract.
use Rattle.std.proofs.Common.{arith}
use Rattle.survey.specs.Lent.{survey_lent}
use Rattle.kriging.specs.Lent.{areas_lent}
use Rattle.kriging.proofs.Refusing.{by_work, by_answer, by_none}
use Rattle.kriging.proofs.refusals.fit_refusal.Goals as goal

pub returns-then-too_short : goal.returns-then-too_short
returns-then-too_short c =
    let a = c.args in
    by_work a.limits (survey_lent a.survey.now) (areas_lent a.areas.now) c.in_ok-survey_refusal.ensures (omega arith) c.wells.result c.drift_columns-p.result
    c.wells.ensures c.drift_columns-p.ensures c.too_short.result c.too_short.ensures c.if-too_short.true

pub returns-then-short_answer : goal.returns-then-short_answer
returns-then-short_answer c =
    let a = c.args in
    by_answer a.limits (survey_lent a.survey.now) (areas_lent a.areas.now) c.in_ok-survey_refusal.ensures (omega arith) c.wells.result c.drift_columns-p.result
    c.wells.ensures c.drift_columns-p.ensures c.too_short.result c.too_short.ensures c.if-too_short.false c.short_answer.result c.short_answer.ensures
    c.if-short_answer.true

pub returns : goal.returns
returns c =
    let a = c.args in
    by_none a.limits (survey_lent a.survey.now) (areas_lent a.areas.now) c.in_ok-survey_refusal.ensures (omega arith) c.wells.result c.drift_columns-p.result
    c.wells.ensures c.drift_columns-p.ensures c.too_short.result c.too_short.ensures c.if-too_short.false c.short_answer.result c.short_answer.ensures
    c.if-short_answer.false
