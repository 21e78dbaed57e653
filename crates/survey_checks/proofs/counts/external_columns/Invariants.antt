-- `survey_checks::counts::external_columns` meets its contract. The invariant: the codes 4 counted and those of the codes left are k.
use Prim.Native.Nat.{◌+◌, ◌≤◌}
use mathlib.Core.Path.{◌≡◌}
use lib.ListN.{drop}
use Rattle.survey.specs.Survey.{external_count}
use Rattle.survey_checks.proofs.counts.external_columns.Given as goal

abbrev pub invariant-loop-code : goal.invariant-loop-code
invariant-loop-code l =
    (l.k ≤ l.code-index) × (l.k + external_count (drop l.code-index l.bases) ≡ external_count l.bases)
