-- Node by node, at exit: two accepted fits of surveys that differ at most in their nodes, in whatever areas, have the same figure, variance, verdict and
-- weights wherever two nodes are alike; and the same trend, whatever their nodes.
use Prim.Native.Nat.{ℕ, ◌+◌, ◌*◌, ◌<◌}
use native.Mathlib.Omega.{arith}
use mathlib.Core.Path.{◌≡◌, refl, ap, sym, ◌∙◌, subst}
use mathlib.Core.List.{List}
use lib.ListN.{length, get_or}
use lib.Ieee.{Float, nan, binary64, mul}
use Rattle.area.proofs.Tables.{same_table}
use Rattle.area.proofs.Rows.{row_end}
use Rattle.ieee.proofs.Sums.{same_sum}
use Rattle.elimination.specs.Elimination.{Agree}
use Rattle.elimination.specs.Inverse.{inverse_at}
use Rattle.elimination.proofs.Agree.{same_inverse}
use Rattle.system_theory.specs.Slopes.{slope}
use Rattle.survey.specs.declared.Limits.{Limits}
use Rattle.survey.specs.Survey.{Survey, wells, node_count, columns, size, value_at}
use Rattle.kriging_theory.specs.Areas.{Areas}
use Rattle.kriging_theory.specs.Node.{right_hand, z_of, Node, solution_of, node_with, node_of}
use Rattle.kriging_theory.specs.Fit.{worked, fitted}
use Rattle.kriging_theory.specs.Alike.{SameWells, SameNode, SameAnswer, SameTrend}
use Rattle.kriging_theory.proofs.Nodes.{renamed, node_alone, size_same, entry_same}
use Rattle.kriging_theory.proofs.Worked.{worked_agree}
use Rattle.kriging_theory.proofs.Exit.{figure_at, variance_at, verdict_at, weight_at, trend_at_lem}

-- a node reads the right half of the matrix alone
pub z_agree : (s : ℕ) (xs ys b : List Float) → Agree (s * (2 * s)) xs ys → z_of s xs b ≡ z_of s ys b
unfolding z_of
z_agree s xs ys b h = same_table s _ _ (λ i l. same_inverse s xs ys (λ j. get_or b j nan) i l h)

node_agree : (s : Survey) (xs ys : List Float) (q : ℕ) → Agree (size s * (2 * size s)) xs ys → node_of s xs q ≡ node_of s ys q
unfolding node_of node_with solution_of
node_agree s xs ys q h = rw (z_agree (size s) xs ys (right_hand s q) h)

module _
    (limits limits' : Limits) (s t : Survey) (same : SameWells s t) (a b : Areas)
    (accepted : (fitted limits s a).number ≡ 0) (accepted' : (fitted limits' t b).number ≡ 0) where
  eliminations_agree : Agree (size s * (2 * size s)) (worked s a) (worked t b)
  eliminations_agree = worked_agree limits limits' s t a b accepted accepted' (size_same s t same) (entry_same s t same)

  nodes_agree : (q r : ℕ) → SameNode s t q r → node_of s (worked s a) q ≡ node_of t (worked t b) r
  nodes_agree q r h = node_agree s (worked s a) (worked t b) q eliminations_agree ∙ node_alone s t q r same h (worked t b)

  pub answer_alone : (q r : ℕ) → q < node_count s → r < node_count t → SameNode s t q r
      → SameAnswer s t q r (fitted limits s a).areas (fitted limits' t b).areas
  answer_alone q r hq hr h =
      record {
        figure = figure_at limits s a accepted q nan hq ∙ ap (λ (n : Node). n.figure) (nodes_agree q r h) ∙ sym (figure_at limits' t b accepted' r nan hr);
        variance =
            variance_at limits s a accepted q nan hq ∙ ap (λ (n : Node). n.variance) (nodes_agree q r h) ∙ sym (variance_at limits' t b accepted' r nan hr);
        verdict = verdict_at limits s a accepted q 0 hq ∙ ap (λ (n : Node). n.verdict) (nodes_agree q r h) ∙ sym (verdict_at limits' t b accepted' r 0 hr);
        weight = λ i hi.
            weight_at limits s a accepted q i nan hq hi
            ∙ ap (λ (n : Node). get_or n.z i nan) (nodes_agree q r h)
            ∙ sym (weight_at limits' t b accepted' r i nan hr (subst (λ (xs : List Float). i < length xs) same.values hi));
      }

  inverse_agree : (i j : ℕ) → i < size s → j < size s → inverse_at (size s) (worked s a) i j ≡ inverse_at (size s) (worked t b) i j
  inverse_agree i j hi hj = eliminations_agree.same (i * (2 * size s) + (size s + j)) (let e = row_end (2 * size s) i (size s) hi in omega arith)

  -- THE TREND DOES NOT READ THE NODES: whatever they are, and if there are none
  pub trend_alone : SameTrend s (fitted limits s a).areas (fitted limits' t b).areas
  unfolding slope
  trend_alone j h =
      let n : columns s ≡ columns t = ap columns (renamed same) in
      trend_at_lem limits s a accepted j nan h
      ∙ same_sum (wells s) _ _ (λ i l. ap (λ (x : Float). mul binary64 x (value_at s i)) (inverse_agree (wells s + j) i (omega arith) (omega arith)))
      ∙ ap (λ (u : Survey). slope (size u) (worked t b) u.values j) (renamed same)
      ∙ sym (trend_at_lem limits' t b accepted' j nan (rw n at h))

-- and so have two nodes of one fit that are alike
pub answer_again : (limits : Limits) (s : Survey) (a : Areas) → (fitted limits s a).number ≡ 0 → (q r : ℕ) → q < node_count s → r < node_count s → SameNode s s q r
    → SameAnswer s s q r (fitted limits s a).areas (fitted limits s a).areas
answer_again limits s a accepted q r hq hr h =
    let itself : SameWells s s = record { values = refl; coords = refl; bases = refl; external = refl; options = refl; tolerance = refl } in
    answer_alone limits limits s s itself a a accepted accepted q r hq hr h
