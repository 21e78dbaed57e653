-- The multipliers say nothing of the values: two accepted fits of surveys that differ at most in them, in whatever areas, have the same. So they are no
-- slopes: however a plain is tilted, they stay.
use Prim.Native.Nat.{ℕ, ◌+◌, ◌-◌, ◌/◌}
use mathlib.Core.Path.{◌≡◌, ap, ap₂, sym, ◌∙◌}
use mathlib.Core.Bool.{cond}
use mathlib.Core.List.{List}
use lib.Dec.{eqb}
use lib.ListN.{length, get_or}
use lib.Ieee.{Float, nan}
use Rattle.ieee.specs.Floats.{zero_float}
use Rattle.survey.specs.declared.Limits.{Limits}
use Rattle.survey.specs.Survey.{Survey, node_count, columns, column_sum, size}
use Rattle.kriging_theory.specs.Areas.{Areas}
use Rattle.kriging_theory.specs.Node.{right_hand, Solution, solution_of, node_with, node_of}
use Rattle.kriging_theory.specs.Fit.{worked, fitted}
use Rattle.kriging_theory.specs.Alike.{SameButValues, SameMultipliers}
use Rattle.kriging_theory.proofs.Worked.{worked_agree}
use Rattle.kriging_theory.proofs.Exit.{multiplier_at}
use Rattle.kriging_theory.proofs.NodesAlone.{z_agree}
use Rattle.kriging_theory.proofs.Values.{assembly_without_values, solution_without_values}

module _
    (limits limits' : Limits) (s t : Survey) (same : SameButValues s t) (a b : Areas)
    (accepted : (fitted limits s a).number ≡ 0) (accepted' : (fitted limits' t b).number ≡ 0) where
  columns_same : columns s ≡ columns t
  columns_same = ap column_sum same.bases

  size_same : size s ≡ size t
  size_same = ap₂ (λ (n p : ℕ). n + p) same.wells columns_same

  z_same : (q : ℕ) → (node_of s (worked s a) q).z ≡ (node_of t (worked t b) q).z
  unfolding node_of node_with solution_of
  z_same q =
      z_agree (size s) (worked s a) (worked t b) (right_hand s q)
      (worked_agree limits limits' s t a b accepted accepted' size_same (assembly_without_values s t same))
      ∙ ap (λ (v : Solution). v.z) (solution_without_values s t same (worked t b) q)

  -- THE MULTIPLIERS DO NOT READ THE VALUES
  pub multipliers_alone : SameMultipliers s (fitted limits s a).areas (fitted limits' t b).areas
  multipliers_alone j h =
      multiplier_at limits s a accepted j nan h
      ∙ (λ i. let m = nodes_same i in cond (eqb m 0) zero_float (get_or (z_same (m - 1) i) (same.wells i + j) nan))
      ∙ sym (multiplier_at limits' t b accepted' j nan (rw columns_same at h))
    where
      nodes_same : node_count s ≡ node_count t
      nodes_same = ap (λ (xs : List Float). length xs / 2) same.nodes
