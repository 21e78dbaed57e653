-- `kriging::drift::fill_drift` meets its contract: one row more.
use Rattle.std.proofs.Common.{arith, ℕ, ◌+◌, ◌-◌, ◌*◌, length, sym, ap, ◌∙◌}
use Rattle.area.specs.Area.{written}
use Rattle.area.proofs.Turns.{length-written}
use Rattle.area.proofs.Rows.{row_end}
use Rattle.area.proofs.Filled.{next_row}
use Rattle.elimination.proofs.Sections.{part_written}
use Rattle.survey.specs.Lent.{survey_lent}
use Rattle.survey.specs.Survey.{wells, columns}
use Rattle.kriging_theory.specs.Drift.{drift}
use Rattle.kriging.proofs.drift.fill_drift.Goals as goal

pub loop-i-preserved : goal.loop-i-preserved
loop-i-preserved c =
    let taken = c.args.taken.now in
    let s = survey_lent taken.survey.now in
    let p = taken.p in
    let l = c.loop-i in
    let inside = row_end p l.i (wells s) (omega arith) in
    let row =
    part_written (l.i * p) ((l.i + 1) * p - l.i * p) (columns s) (drift s l.i) l.entries _ (omega arith) (omega (arith, c.requires, inside))
    c.fill_drift_row.ensures
    ∙ ap (λ (k : ℕ). written (l.i * k) (columns s) (drift s l.i) l.entries) (sym taken.columns) in
    record {
      long = ap length row ∙ length-written (l.i * columns s) (columns s) (drift s l.i) l.entries ∙ l.invariant.long;
      filled = next_row (columns s) l.i (drift s) _ l.entries _ l.invariant.filled row;
    }
