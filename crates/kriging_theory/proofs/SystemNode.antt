-- What a node gets, in the terms of the kriging system: z is the inverse times the system's right-hand side, the figure is Σ λ_i value_i, the variance
-- Σ_i λ_i γ(x_i, x_0) + Σ_l μ_l f_l(x_0), clamped, and the multipliers are the μ of the last node; and the trend, from the same inverse. Read off the areas
-- of every accepted fit.
use Prim.Native.Nat.{ℕ, ◌+◌, ◌-◌}
use native.Mathlib.Omega.{arith}
use mathlib.Core.Path.{◌≡◌, refl, ap, ◌∙◌}
use mathlib.Core.Bool.{Bool, cond}
use mathlib.Core.List.{List}
use borrow.Author.Tests.{eq-eqb, ne_eqb}
use lib.ListN.{get_or}
use lib.Ieee.{Float, nan, binary64, mul}
use Rattle.area.proofs.Tables.{table_at}
use Rattle.ieee.specs.Floats.{zero_float, not_below_zero}
use Rattle.ieee.proofs.Sums.{same_sum}
use Rattle.system_theory.specs.System.{Index, Well, Drift, Within, right_of, estimate_of, row_of}
use Rattle.system_theory.proofs.Rows.{row_below}
use Rattle.system_theory.proofs.System.{same_over, slope_is, unknown_is as timed-unknown}
use Rattle.survey.specs.declared.Limits.{Limits}
use Rattle.survey.specs.Survey.{Survey, wells, node_count, size, value_at}
use Rattle.kriging_theory.specs.Areas.{Areas}
use Rattle.kriging_theory.specs.Node.{z_of, figure_of, variance_of, right_hand, solution_of, node_with, node_of}
use Rattle.kriging_theory.specs.Fit.{worked, fitted}
use Rattle.kriging_theory.specs.System.{node_place, system_of, variance_sum, unknown_at, Kriged}
use Rattle.kriging_theory.proofs.Endings.{work_long}
use Rattle.kriging_theory.proofs.SystemDrift.{drift_count, rows_are}
use Rattle.kriging_theory.proofs.System.{matrix_at, right_is, variance_is}
use Rattle.kriging_theory.proofs.Exit.{work_at, figure_at, variance_at, weight_at, multiplier_at, trend_at_lem}

module _ (s : Survey) (work : List Float) (q : ℕ) where
  -- "z = inverse times b, summed from 0 by rising column", b the right-hand side of the system
  pub unknown_is : (u : Index) → Within (system_of s) u → get_or (node_of s work q).z (row_of (system_of s) u) nan ≡ unknown_at s work q u
  unfolding node_of node_with solution_of z_of
  unknown_is u h =
      table_at (size s) _ (row_of (system_of s) u) nan (rw (rows_are s) (row_below (system_of s) u h))
      ∙ timed-unknown (system_of s) (size s) (rows_are s) (node_place s q) (λ i. get_or (right_hand s q) i nan) (right_is s q) work u

  -- "Figure: Σ z_i·value_i"
  pub figure_is : (node_of s work q).figure ≡ estimate_of (system_of s) (value_at s) (unknown_at s work q)
  unfolding node_of node_with figure_of estimate_of
  figure_is = same_sum (wells s) _ _ (λ i b. ap (λ (x : Float). mul binary64 x (value_at s i)) (unknown_is (Well i) b))

  -- "Variance: Σ z·b over all s entries", clamped
  pub node_variance : (node_of s work q).variance ≡ not_below_zero (variance_sum s (node_place s q) (unknown_at s work q))
  unfolding node_of node_with solution_of variance_of variance_sum
  node_variance =
      ap not_below_zero
      (variance_is s q (z_of (size s) work (right_hand s q))
      ∙ same_over (system_of s) _ _ (λ u h. ap (λ (x : Float). mul binary64 x (right_of (system_of s) (node_place s q) u)) (unknown_is u h)))

-- THE SYSTEM, in every accepted fit: the matrix that it eliminates, and what the areas hold at exit, node by node
pub kriged : (limits : Limits) (s : Survey) (a : Areas) → (fitted limits s a).number ≡ 0 → Kriged s a (fitted limits s a).areas
kriged limits s a e =
    let w : (fitted limits s a).areas.work ≡ worked s a = work_at limits s a e in
    record {
      rows = rows_are s;
      matrix = matrix_at s a.work (work_long limits s a e);
      weight = λ q i l m. rw w (weight_at limits s a e q i nan l m ∙ unknown_is s (worked s a) q (Well i) m);
      figure = λ q l. rw w (figure_at limits s a e q nan l ∙ figure_is s (worked s a) q);
      variance = λ q l. rw w (variance_at limits s a e q nan l ∙ node_variance s (worked s a) q);
      multiplier = λ j l m.
          rw w
          (multiplier_at limits s a e j nan m
          ∙ ap (λ (b : Bool). cond b zero_float (get_or (node_of s (worked s a) (node_count s - 1)).z (wells s + j) nan)) (ne_eqb (node_count s) 0 (omega arith))
          ∙ unknown_is s (worked s a) (node_count s - 1) (Drift j) (rw (drift_count s) m));
      trend = λ j m. rw w (trend_at_lem limits s a e j nan m ∙ slope_is (system_of s) (size s) (rows_are s) (worked s a) s.values refl j);
      no_nodes = λ j z m.
          multiplier_at limits s a e j nan m
          ∙ ap (λ (b : Bool). cond b zero_float (get_or (node_of s (worked s a) (node_count s - 1)).z (wells s + j) nan)) (eq-eqb (node_count s) 0 z);
    }
