-- `kriging::answer::krige_nodes` meets its contract: after q turns the areas are what the trend and q nodes leave.
use Rattle.std.proofs.Common.{refl, ◌≡◌, ◌≤◌, ◌<◌, ◌∙◌, ap, ap₂, sym, ℕ, ◌+◌, ◌*◌, List, length, length-set, get_or, replicate, arith}
use native.Mathlib.Nat.{mul_comm}
use lib.Seq.{get_or-take}
use lib.Ieee.{Float, nan}
use Rattle.ieee.specs.Floats.{zero_float}
use Rattle.area.proofs.Turns.{length-written}
use Rattle.area.proofs.Rows.{row_end}
use Rattle.solution.specs.Slopes.{estimated}
use Rattle.survey.specs.Lent.{survey_lent}
use Rattle.survey.specs.Survey.{wells, node_count, columns, size}
use Rattle.kriging_theory.specs.Node.{Node, node_of}
use Rattle.kriging.specs.Lent.{areas_lent}
use Rattle.kriging.proofs.Progress.{none_yet, one_more, all_nodes}
use Rattle.kriging.proofs.Stored.{zeros_stored, trend_stored, multipliers_stored, weights_stored}
use Rattle.kriging.proofs.answer.krige_nodes.Goals as goal

pub loop-q-init : goal.loop-q-init
loop-q-init c =
    let t = c.args.drift.now.taken.now in
    let s = survey_lent t.survey.now in
    let lent = areas_lent c.args.areas.now in
    let room = c.requires.room in
    let whole : c.wells-n.result + t.p ≡ size s = omega (arith, t.columns, c.wells-n.ensures) in
    let found = c.fill_trend.ensures ∙ ap₂ (λ (k : ℕ) (work : List Float). estimated k work s.values (replicate 12 zero_float)) whole c.finished.ensures in
    record {
      lent = record { work = refl; predicted = refl; variance = refl; verdicts = refl; weights = refl; multipliers = refl; trend = refl };
      work = refl;
      predicted = refl;
      variance = refl;
      verdicts = refl;
      weights = refl;
      multipliers = refl;
      progress = none_yet s lent (node_of s lent.work)
          (zeros_stored s t.p t.columns lent.multipliers _ (omega (arith, t.columns, room.1.1.1.1.0)) (c.fill.ensures.after (λ y e. e)))
          (trend_stored s t.p t.columns lent.trend _ (omega (arith, t.columns, room.1.1.1.1.1.0)) lent.work (replicate 12 zero_float) _
          c.requires.work (omega (arith, t.narrow)) found c.copy_from_slice.ensures.after);
    }

pub loop-q-preserved : goal.loop-q-preserved
loop-q-preserved c =
    let t = c.args.drift.now.taken.now in
    let s = survey_lent t.survey.now in
    let lent = areas_lent c.args.areas.now in
    let v = c.loop-q.invariant in
    let held = areas_lent c.loop-q.areas in
    let q = c.loop-q.q in
    let is = c.krige_node-node.ensures in
    let z : List Float = c.krige_node-node.result.z in
    let node : ℕ → Node = node_of s lent.work in
    let work = c.finished-in-loop-q.ensures ∙ v.progress.work in
    let same : (j : ℕ) → j < size s → get_or z j nan ≡ get_or (node q).z j nan =
    λ j l. sym (get_or-take (size s) z j nan l) ∙ ap (λ (zs : List Float). get_or zs j nan) (is.z ∙ ap (λ (w : List Float). (node_of s w q).z) work) in
    let weights =
    c.store.ensures ∙ weights_stored s held.weights z (node q).z (omega (arith, is.places, t.few, t.narrow)) (λ j l. same j (omega arith)) q
    c.wells-n.result c.wells-n.ensures in
    let multipliers =
    multipliers_stored s t.p t.columns held.multipliers _ (omega (arith, t.columns, c.requires.room.1.1.1.1.0, v.multipliers)) z (node q).z
    (omega (arith, is.places, t.few, t.narrow)) same c.wells-n.result c.wells-n.ensures c.copy_from_slice-in-loop-q.ensures.after in
    record {
      lent = record {
        work = v.lent.work;
        predicted = v.lent.predicted;
        variance = v.lent.variance;
        verdicts = v.lent.verdicts;
        weights = v.lent.weights;
        multipliers = v.lent.multipliers;
        trend = v.lent.trend;
      };
      work = v.work;
      predicted = simp length-set v.predicted;
      variance = simp length-set v.variance;
      verdicts = simp length-set v.verdicts;
      weights = ap length weights ∙ length-written (q * wells s) (wells s) (λ j. get_or (node q).z j nan) held.weights ∙ v.weights;
      multipliers = ap length multipliers ∙ length-written 0 (columns s) (λ j. get_or (node q).z (wells s + j) nan) held.multipliers ∙ v.multipliers;
      progress = one_more s lent node q held _ _ _ _ _
          (is.figure ∙ ap (λ (w : List Float). (node_of s w q).figure) work)
          (is.variance ∙ ap (λ (w : List Float). (node_of s w q).variance) work)
          (c.number.ensures ∙ is.verdict ∙ ap (λ (w : List Float). (node_of s w q).verdict) work)
          weights multipliers v.progress;
    }

pub returns-clause-answered : goal.returns-clause-answered
returns-clause-answered c =
    let s = survey_lent c.args.drift.now.taken.now.survey.now in
    let lent = areas_lent c.args.areas.now in
    all_nodes s lent (node_of s lent.work) c.loop-q.q (areas_lent c.loop-q.areas) (omega arith) c.loop-q.invariant.progress
