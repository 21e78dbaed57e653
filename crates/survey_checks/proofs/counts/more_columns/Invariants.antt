-- `survey_checks::counts::more_columns` meets its contract.
use Prim.Native.Nat.{◌+◌}
use mathlib.Core.Path.{◌≡◌}
use lib.ListN.{drop}
use Rattle.survey.specs.Survey.{column_sum}
use Rattle.survey_checks.proofs.counts.more_columns.Given as goal

abbrev pub invariant-loop-code : goal.invariant-loop-code
invariant-loop-code l =
    (l.left + column_sum l.bases ≡ l.most + column_sum (drop l.code-index l.bases))
