-- `kriging::drift::fill_row` meets its contract. The invariant: to store the columns of the codes that are left into the row in hand makes what storing
-- those of all codes makes of the row that came.
use Rattle.std.proofs.Common.{◌≡◌, ◌+◌, ◌≤◌, length, drop}
use Rattle.survey.specs.Survey.{column_sum, external_count}
use Rattle.kriging.proofs.DriftRows.{values, rowed}
use Rattle.kriging.proofs.drift.fill_row.Given as goal

abbrev pub invariant-loop-code : goal.invariant-loop-code
invariant-loop-code l =
    let left = drop l.code-index l.bases in
    let e = values l.external.values.now l.external.first l.external.step in
    record {
      long : length l.row ≡ length l.initial.row;
      room : l.col + column_sum left ≤ length l.initial.row;
      taken : l.used + external_count left ≡ external_count l.bases;
      rowed : rowed left l.at.x l.at.y e l.used l.col l.row ≡ rowed l.bases l.at.x l.at.y e 0 0 l.initial.row;
    }
