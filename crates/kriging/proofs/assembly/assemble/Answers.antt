-- `kriging::assembly::assemble` meets its contract: after i turns the area holds the first i rows from the diagonal on.
use Rattle.std.proofs.Common.{◌≡◌, ap, ap₂, ◌∙◌, arith, ℕ}
use Rattle.elimination.specs.Rows.{completed}
use Rattle.elimination.proofs.Rows.{row_inside}
use Rattle.elimination.proofs.Upper.{upper, completed_upper}
use Rattle.survey.specs.Lent.{survey_lent}
use Rattle.survey.specs.Survey.{size}
use Rattle.kriging_theory.specs.Assembly.{entry}
use Rattle.kriging.proofs.Entries.{entry_back}
use Rattle.kriging.proofs.assembly.assemble.Goals as goal

pub fill_from_diagonal-requires : goal.fill_from_diagonal-requires
fill_from_diagonal-requires c =
    let s = survey_lent c.args.drift.now.taken.now.survey.now in
    (omega arith, row_inside (size s) c.loop-i.i _ (omega arith) (omega (arith, c.requires, c.loop-i.invariant.long)))

pub returns : goal.returns
returns c =
    let s = survey_lent c.args.drift.now.taken.now.survey.now in
    let all : c.loop-i.i ≡ size s = omega arith in
    c.complete.ensures
    ∙ ap₂ completed c.size-size.ensures (c.loop-i.invariant.filled ∙ ap (λ (k : ℕ). upper (size s) (entry s) k c.args.work.now) all)
    ∙ completed_upper (size s) (entry s) c.args.work.now c.requires (λ i j. entry_back s i j)
