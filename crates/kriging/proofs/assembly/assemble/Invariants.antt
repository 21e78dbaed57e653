-- `kriging::assembly::assemble` meets its contract: after i turns the area holds the first i rows from the diagonal on.
use Rattle.std.proofs.Common.{◌≡◌, length}
use Rattle.elimination.proofs.Upper.{upper}
use Rattle.survey.specs.Lent.{survey_lent}
use Rattle.survey.specs.Survey.{size}
use Rattle.kriging_theory.specs.Assembly.{entry}
use Rattle.kriging.proofs.assembly.assemble.Given as goal

abbrev pub invariant-loop-i : goal.invariant-loop-i
invariant-loop-i l =
    let s = survey_lent l.drift.taken.now.survey.now in
    record {
      long : length l.work ≡ length l.initial.work;
      filled : l.work ≡ upper (size s) (entry s) l.i l.initial.work;
    }
