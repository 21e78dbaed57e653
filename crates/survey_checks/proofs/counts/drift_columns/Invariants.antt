-- `survey_checks::counts::drift_columns` meets its contract. The invariant: the columns counted and those of the codes left are p.
use Prim.Native.Nat.{◌+◌, ◌^◌, ◌<◌}
use mathlib.Core.Path.{◌≡◌}
use lib.ListN.{drop}
use Rattle.survey.specs.Survey.{column_sum}
use Rattle.survey_checks.proofs.counts.drift_columns.Given as goal

abbrev pub invariant-loop-code : goal.invariant-loop-code
invariant-loop-code l =
    (l.p < 2 ^ 60) × (l.p + column_sum (drop l.code-index l.bases) ≡ column_sum l.bases)
