-- `kriging::answer::krige_nodes` meets its contract: after q turns the areas are what the trend and q nodes leave.
use Rattle.std.proofs.Common.{◌≡◌, length}
use Rattle.survey.specs.Lent.{survey_lent}
use Rattle.kriging_theory.specs.Node.{node_of}
use Rattle.kriging.specs.Lent.{areas_lent, StillLent}
use Rattle.kriging.proofs.Progress.{Progress}
use Rattle.kriging.proofs.answer.krige_nodes.Given as goal

abbrev pub invariant-loop-q : goal.invariant-loop-q
invariant-loop-q l =
    let s = survey_lent l.drift.taken.now.survey.now in
    record {
      lent : StillLent l.initial.areas l.areas;
      work : length l.areas.work.now ≡ length l.initial.areas.work.now;
      predicted : length l.areas.predicted.now ≡ length l.initial.areas.predicted.now;
      variance : length l.areas.variance.now ≡ length l.initial.areas.variance.now;
      verdicts : length l.areas.verdicts.now ≡ length l.initial.areas.verdicts.now;
      weights : length l.areas.weights.now ≡ length l.initial.areas.weights.now;
      multipliers : length l.areas.multipliers.now ≡ length l.initial.areas.multipliers.now;
      progress : Progress s (areas_lent l.fn.areas) (node_of s l.fn.areas.work.now) l.q (areas_lent l.areas);
    }
