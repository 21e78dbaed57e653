-- An accepted fit's areas place by place: the finished elimination, and at node q its figure, variance, verdict and weights; the multipliers and the trend.
use Prim.Native.Nat.{ℕ, ◌+◌, ◌*◌, ◌<◌}
use native.Mathlib.Omega.{arith}
use mathlib.Core.Path.{◌≡◌, ap, ap₂, ◌∙◌}
use lib.Arith.{digits_div, digits_mod}
use lib.ListN.{get_or}
use lib.Ieee.{Float, nan}
use Rattle.area.proofs.Start.{from_start}
use Rattle.area.proofs.Rows.{row_end}
use Rattle.system_theory.specs.Slopes.{slope}
use Rattle.survey.specs.declared.Limits.{Limits}
use Rattle.survey.specs.Survey.{Survey, wells, node_count, columns, size}
use Rattle.kriging_theory.specs.Areas.{Areas}
use Rattle.kriging_theory.specs.Node.{node_of}
use Rattle.kriging_theory.specs.Fit.{multiplier, answered, worked, fitted}
use Rattle.kriging_theory.proofs.Endings.{fit_ends, predicted_long, variance_long, verdicts_long, weights_long, multipliers_long, trend_long}

inside : (n m q i : ℕ) → q < m → i < n → q * n + i < n * m
inside n m q i h b = let e = row_end n q m h in omega arith

module _ (limits : Limits) (s : Survey) (a : Areas) (accepted : (fitted limits s a).number ≡ 0) where
  at_exit : {A : Type 0} (f : Areas → A) → f (fitted limits s a).areas ≡ f (answered s a (worked s a) (node_of s (worked s a)))
  at_exit f = ap f ((fit_ends limits s a).accepted_areas accepted)

  -- "On success the work area holds the finished elimination"
  pub work_at : (fitted limits s a).areas.work ≡ worked s a
  unfolding answered
  work_at = at_exit (λ e. e.work)

  pub figure_at : (q : ℕ) (d : Float) → q < node_count s → get_or (fitted limits s a).areas.predicted q d ≡ (node_of s (worked s a) q).figure
  unfolding answered
  figure_at q d h = at_exit (λ e. get_or e.predicted q d) ∙ from_start (node_count s) _ a.predicted q d (predicted_long limits s a accepted) h

  pub variance_at : (q : ℕ) (d : Float) → q < node_count s → get_or (fitted limits s a).areas.variance q d ≡ (node_of s (worked s a) q).variance
  unfolding answered
  variance_at q d h = at_exit (λ e. get_or e.variance q d) ∙ from_start (node_count s) _ a.variance q d (variance_long limits s a accepted) h

  pub verdict_at : (q d : ℕ) → q < node_count s → get_or (fitted limits s a).areas.verdicts q d ≡ (node_of s (worked s a) q).verdict
  unfolding answered
  verdict_at q d h = at_exit (λ e. get_or e.verdicts q d) ∙ from_start (node_count s) _ a.verdicts q d (verdicts_long limits s a accepted) h

  -- "n·m weights (node after node)": "The first n entries of z are the weights"
  pub weight_at : (q i : ℕ) (d : Float) → q < node_count s → i < wells s
      → get_or (fitted limits s a).areas.weights (q * wells s + i) d ≡ get_or (node_of s (worked s a) q).z i nan
  unfolding answered
  weight_at q i d h b =
      at_exit (λ e. get_or e.weights (q * wells s + i) d)
      ∙ from_start (wells s * node_count s) _ a.weights (q * wells s + i) d (weights_long limits s a accepted) (inside (wells s) (node_count s) q i h b)
      ∙ ap₂ (λ (k j : ℕ). get_or (node_of s (worked s a) k).z j nan) (digits_div q b) (digits_mod q b)

  pub multiplier_at : (j : ℕ) (d : Float) → j < columns s → get_or (fitted limits s a).areas.multipliers j d ≡ multiplier s (node_of s (worked s a)) j
  unfolding answered
  multiplier_at j d h = at_exit (λ e. get_or e.multipliers j d) ∙ from_start (columns s) _ a.multipliers j d (multipliers_long limits s a accepted) h

  pub trend_at_lem : (j : ℕ) (d : Float) → j < columns s → get_or (fitted limits s a).areas.trend j d ≡ slope (size s) (worked s a) s.values j
  unfolding answered
  trend_at_lem j d h = at_exit (λ e. get_or e.trend j d) ∙ from_start (columns s) _ a.trend j d (trend_long limits s a accepted) h
