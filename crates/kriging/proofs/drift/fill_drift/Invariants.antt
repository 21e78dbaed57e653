-- `kriging::drift::fill_drift` meets its contract: after i turns the list holds the first i rows of F.
use Rattle.std.proofs.Common.{◌≡◌, length}
use Rattle.area.specs.Area.{filled}
use Rattle.survey.specs.Lent.{survey_lent}
use Rattle.survey.specs.Survey.{columns}
use Rattle.kriging_theory.specs.Drift.{drift}
use Rattle.kriging.proofs.drift.fill_drift.Given as goal

abbrev pub invariant-loop-i : goal.invariant-loop-i
invariant-loop-i l =
    let s = survey_lent l.taken.survey.now in
    record {
      long : length l.entries ≡ length l.initial.entries;
      filled : l.entries ≡ filled (columns s) l.i (drift s) l.initial.entries;
    }
