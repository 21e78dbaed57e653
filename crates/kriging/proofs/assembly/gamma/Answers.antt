-- `kriging::assembly::gamma` meets its contract: by the wells, the same or two.
use Rattle.survey.specs.Lent.{survey_lent}
use Rattle.kriging.proofs.Entries.{between_own, between_others}
use Rattle.kriging.proofs.assembly.gamma.Goals as goal

pub returns-then-i-j : goal.returns-then-i-j
returns-then-i-j c = let s = survey_lent c.args.taken.now.survey.now in between_own s.options s.coords c.args.i c.args.j c.if-i-j.true

pub returns : goal.returns
returns c =
    let s = survey_lent c.args.taken.now.survey.now in
    let others = between_others s.options s.coords c.args.i c.args.j c.if-i-j.false in
    cc
