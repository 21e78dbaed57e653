-- `kriging::fit_taken` meets its contract: F and the matrix are the paper's, and the call ends as its elimination does.
use Rattle.std.proofs.Common.{ℕ, ◌+◌, ◌*◌, ◌≤◌, ◌<◌, ◌≡◌, ap, ap₂, sym, ◌∙◌, subst, true, List, length, replicate, Ok, arith}
use Rattle.std.proofs.lemmas.Result.{err_from_is_err_and}
use lib.Ieee.{Float}
use Rattle.area.proofs.Rows.{row_end}
use Rattle.ieee.specs.Floats.{zero_float}
use Rattle.error.specs.Outcome.{outcome}
use Rattle.elimination.specs.Call.{after_elimination}
use Rattle.elimination.specs.Elimination.{eliminated}
use Rattle.audit.specs.Audit.{drift_finite}
use Rattle.audit.specs.Lists.{entry_in}
use Rattle.survey.specs.Limits.{library, most_drift}
use Rattle.survey.specs.Lent.{survey_lent}
use Rattle.survey.specs.Survey.{Survey, wells, node_count, columns}
use Rattle.kriging_theory.specs.Areas.{Areas}
use Rattle.kriging_theory.specs.Refusals.{refusal}
use Rattle.kriging_theory.specs.Fit.{answered}
use Rattle.kriging.specs.Lent.{areas_lent}
use Rattle.kriging.proofs.Tested.{few_wells, few_columns, columns_counted, coords_twice, externals_whole, node_externals_lem, work_long, answer_long}
use Rattle.kriging.proofs.Fitting.{drift_laid, taken_there, stopped_there}
use Rattle.kriging.proofs.fit_taken.Goals as goal

-- F has room in an area for the most wells and columns
fits : (s : Survey) (a : Areas) → refusal library s a ≡ 0 → wells s * columns s ≤ most_drift
fits s a t =
    let n = few_wells s a t in
    let p = few_columns s a t in
    let l : wells s < library.wells + 1 = omega arith in
    omega (arith, row_end (columns s) (wells s) (library.wells + 1) l, p)

pub invariant_of-taken : goal.invariant_of-taken
invariant_of-taken c =
    let s = survey_lent c.args.survey.now in
    let a = areas_lent c.args.areas.now in
    let t = c.requires in
    let p : columns s ≡ c.drift_columns.result = sym (c.drift_columns.ensures ∙ columns_counted s a t) in
    let k = sym c.external_columns.ensures in
    record {
      columns = p;
      externals = k;
      few = few_wells s a t;
      narrow = subst (λ (m : ℕ). m ≤ library.columns) p (few_columns s a t);
      coords = coords_twice s a t;
      external = externals_whole s a t ∙ ap (λ (m : ℕ). m * wells s) k;
      node_external = subst (λ (m : ℕ). m * node_count s ≤ length s.node_external) k (node_externals_lem s a t);
    }

pub invariant_of-drift : goal.invariant_of-drift
invariant_of-drift c =
    let s = survey_lent c.args.survey.now in
    let a = areas_lent c.args.areas.now in
    let t = c.requires in
    let p : columns s ≡ c.drift_columns.result = sym (c.drift_columns.ensures ∙ columns_counted s a t) in
    record {
      long = subst (λ (m : ℕ). wells s * m ≤ length c.fill_drift.new.entries) p (omega (arith, fits s a t, c.fill_drift.auto.entries));
      laid = drift_laid s c.fill_drift.new.entries (replicate most_drift zero_float) (omega (arith, fits s a t)) c.fill_drift.ensures;
      scanned =
          c.drift_finite.ensures
          ∙ ap₂ (λ (n m : ℕ). drift_finite n m (entry_in c.fill_drift.new.entries m)) c.wells.ensures (sym p);
    }

pub assemble-requires : goal.assemble-requires
assemble-requires c = work_long (survey_lent c.args.survey.now) (areas_lent c.args.areas.now) c.requires

pub returns-in_err-gauss_jordan_invert_uked-clause-fitted : goal.returns-in_err-gauss_jordan_invert_uked-clause-fitted
returns-in_err-gauss_jordan_invert_uked-clause-fitted c =
    let s = survey_lent c.args.survey.now in
    let a = areas_lent c.args.areas.now in
    let work : List Float = c.gauss_jordan_invert_uked.new.work in
    let stop = c.in_err-gauss_jordan_invert_uked.field-0.0 in
    let matrix =
    c.in_err-gauss_jordan_invert_uked.ensures.equation
    ∙ ap₂ (λ (k : ℕ) (xs : List Float). eliminated true k xs) c.size.ensures c.assemble.ensures in
    let p = err_from_is_err_and c.from_residual.result c.from_residual.ensures.1 in
    rw (p.1, p.2) (stopped_there s a stop work c.requires (work_long s a c.requires) matrix)

pub krige_nodes-requires-clause-room : goal.krige_nodes-requires-clause-room
krige_nodes-requires-clause-room c = answer_long (survey_lent c.args.survey.now) (areas_lent c.args.areas.now) c.requires

pub returns-clause-fitted : goal.returns-clause-fitted
unfolding after_elimination answered
returns-clause-fitted c =
    let s = survey_lent c.args.survey.now in
    let a = areas_lent c.args.areas.now in
    let work : List Float = c.gauss_jordan_invert_uked.new.work in
    let matrix =
    c.in_ok-gauss_jordan_invert_uked.ensures.equation
    ∙ ap₂ (λ (k : ℕ) (xs : List Float). eliminated true k xs) c.size.ensures c.assemble.ensures in
    ap (outcome 0) c.krige_nodes.ensures.answered ∙ taken_there s a (Ok tt) work c.requires matrix
