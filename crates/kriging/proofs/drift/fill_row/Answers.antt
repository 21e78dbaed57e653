-- `kriging::drift::fill_row` meets its contract: one code's columns more are stored where the next ones of the row belong.
use Rattle.std.proofs.Common.{arith, ◌≡◌, ℕ, ◌+◌, ◌-◌, length, get_or, drop, sym, ap, ap₂, ◌∙◌, List}
use borrow.Rule.Slice.PartMut.{put_mid}
use lib.Ieee.{Float, nan}
use Rattle.survey.specs.Survey.{code_columns}
use Rattle.survey.proofs.Codes.{externals_at_most}
use Rattle.elimination.proofs.Sections.{part_written}
use Rattle.kriging_theory.specs.Drift.{block}
use Rattle.kriging.proofs.DriftRows.{values, rowed, coded, length-coded, columns_from, externals_from, rowed_from}
use Rattle.kriging.proofs.drift.fill_row.Goals as goal

pub overflow_add-used : goal.overflow_add-used
overflow_add-used c =
    let bases = c.args.bases.now in
    omega (arith, externals_at_most bases, c.fill_code-used.ensures.taken, externals_from bases c.loop-code.code-index c.loop-code-test.true)

pub loop-code-preserved : goal.loop-code-preserved
loop-code-preserved c =
    let a = c.args in
    let l = c.loop-code in
    let codes = a.bases.now in
    let code : ℕ = get_or codes l.code-index 0 in
    let e = values a.external.now.values.now a.external.now.first a.external.now.step in
    let t = c.loop-code-test.true in
    let width = columns_from codes l.code-index t in
    let row : List Float = put_mid l.col (length l.row - l.col) l.row c.fill_code-used.new.row in
    let stored : row ≡ coded code a.at.x a.at.y (e l.used) l.col l.row =
    part_written l.col (length l.row - l.col) (code_columns code) (λ j. get_or (block code a.at.x a.at.y (e l.used)) j nan) l.row _ (omega arith) (omega arith)
    c.fill_code-used.ensures.row in
    let turned = rowed_from codes l.code-index t a.at.x a.at.y e l.used l.col l.row row stored in
    record {
      long = ap length stored ∙ length-coded code a.at.x a.at.y (e l.used) l.col l.row ∙ l.invariant.long;
      room = omega (arith, c.drift_basis_columns-col.ensures);
      taken = omega (arith, c.fill_code-used.ensures.taken, externals_from codes l.code-index t);
      rowed =
          ap₂ (λ (v w : ℕ). rowed (drop (l.code-index + 1) codes) a.at.x a.at.y e (l.used + v) (l.col + w) row) c.fill_code-used.ensures.taken
          c.drift_basis_columns-col.ensures
          ∙ sym turned
          ∙ l.invariant.rowed;
    }
