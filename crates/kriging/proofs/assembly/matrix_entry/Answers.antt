-- `kriging::assembly::matrix_entry` meets its contract: by the part of the matrix that the entry stands in.
use Rattle.std.proofs.Common.{◌∙◌, sym, ap, ℕ, ◌+◌, ◌-◌, ◌*◌, arith, get_or}
use lib.Ieee.{nan}
use Rattle.survey.specs.Lent.{survey_lent}
use Rattle.survey.specs.Survey.{wells}
use Rattle.kriging.proofs.Entries.{between_wells, drift_entry, zero_entry}
use Rattle.kriging.proofs.assembly.matrix_entry.Goals as goal

pub returns-then-j-n : goal.returns-then-j-n
returns-then-j-n c =
    c.gamma.ensures ∙ between_wells (survey_lent c.args.drift.now.taken.now.survey.now) c.args.i c.args.j (omega arith) (omega arith)

pub returns-then-i-n : goal.returns-then-i-n
returns-then-i-n c =
    let d = c.args.drift.now in
    let s = survey_lent d.taken.now.survey.now in
    let i = c.args.i in
    let j = c.args.j in
    ap (λ (n : ℕ). get_or d.entries.now (i * d.taken.now.p + (j - n)) nan) c.wells-n.ensures
    ∙ ap (λ (p : ℕ). get_or d.entries.now (i * p + (j - wells s)) nan) (sym d.taken.now.columns)
    ∙ d.laid i (j - wells s) (omega arith) (omega arith)
    ∙ drift_entry s i j (omega arith) (omega arith)

pub returns : goal.returns
returns c = zero_entry (survey_lent c.args.drift.now.taken.now.survey.now) c.args.i c.args.j (omega arith) (omega arith)
