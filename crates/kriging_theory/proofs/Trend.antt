-- DEMAND 3 of every fit, read off its areas at exit.
use Prim.Native.Nat.{ℕ, ◌≤◌, ◌<◌}
use native.Mathlib.Nat.{le_trans}
use mathlib.Core.Path.{◌≡◌, refl, sym, ◌∙◌, subst}
use lib.Dec.{lit≤}
use lib.Ieee.{nan}
use Rattle.survey.specs.declared.Limits.{Limits}
use Rattle.survey.specs.Limits.{library}
use Rattle.survey.specs.Survey.{Survey, node_count}
use Rattle.audit.specs.Audit.{Audited, verdict_of}
use Rattle.audit.specs.Trend.{Verdict}
use Rattle.audit.proofs.Same.{same_verdict}
use Rattle.audit.proofs.Verdict.{verdict_is, trend_bound}
use Rattle.kriging_theory.specs.Areas.{Areas}
use Rattle.kriging_theory.specs.Node.{audit_of, solution_of, node_with, node_of}
use Rattle.kriging_theory.specs.Fit.{worked, fitted}
use Rattle.kriging_theory.specs.Trend.{TrendKept, at_exit, verdict_at_exit}
use Rattle.kriging_theory.proofs.Endings.{few_columns, finite_tolerance, finite_values}
use Rattle.kriging_theory.proofs.Exit.{figure_at, verdict_at, weight_at}

module _ (limits : Limits) (s : Survey) (a : Areas) where
  exit : ℕ → Audited
  exit q = at_exit s (fitted limits s a).areas q

  -- the verdict that stands there is that of the weights and of the figure that stand there
  own_verdict : (fitted limits s a).number ≡ 0 → (q : ℕ) → q < node_count s → verdict_of (exit q) ≡ verdict_at_exit (fitted limits s a).areas q
  unfolding exit node_of node_with solution_of verdict_of
  own_verdict e q l =
      let node = node_of s (worked s a) q in
      same_verdict (exit q) (audit_of s q node.z node.figure)
      (record { n = refl; p = refl; tolerance = refl; weight = λ i m. weight_at limits s a e q i nan l m; drift = λ i j m k. refl; node_drift = λ j k. refl })
      (λ i m. refl) (figure_at limits s a e q nan l)
      ∙ sym (verdict_at limits s a e q 255 l)

  -- at every survey, whatever its size and model, and whatever areas are lent; p is at most 253 in every limit that a verdict's byte can name
  pub trend_kept : limits.columns ≤ 253 → TrendKept s (fitted limits s a)
  unfolding exit
  trend_kept few = record {
    verdict = λ e q l. subst (Verdict (exit q)) (own_verdict e q l) (verdict_is (exit q) (le_trans (few_columns limits s a e) few));
    trend = λ e q l v. trend_bound (exit q) (own_verdict e q l ∙ v);
    values = finite_values limits s a;
    tolerance = finite_tolerance limits s a;
  }

-- DEMAND 3, of every fit of the library: every survey and whatever areas, with nothing asked
pub trend_in_the_library : (s : Survey) (a : Areas) → TrendKept s (fitted library s a)
trend_in_the_library s a = trend_kept library s a (lit≤ tt)
