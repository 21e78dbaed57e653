-- The areas node after node: what q nodes have left in them, one node more, and what all have left is the answer.
use Rattle.std.proofs.Common.{ℕ, ◌+◌, ◌-◌, ◌*◌, ◌/◌, ◌%◌, ◌≤◌, ◌<◌, ◌≡◌, refl, ap, sym, ◌∙◌, Bool, cond, eqb, List, get_or, set, arith}
use native.Mathlib.Nat.{mul_comm}
use borrow.Author.Tests.{ne_eqb}
use lib.Ieee.{Float, nan}
use Rattle.area.specs.Area.{written, filled}
use Rattle.area.proofs.Start.{next_start}
use Rattle.area.proofs.Places.{same_values, written_over}
use Rattle.area.proofs.Rows.{row_end}
use Rattle.area.proofs.Filled.{next_row, one_fill}
use Rattle.ieee.specs.Floats.{zero_float}
use Rattle.survey.specs.Survey.{Survey, wells, node_count, columns, size}
use Rattle.kriging_theory.specs.Areas.{Areas, areas_of}
use Rattle.kriging_theory.specs.Node.{Node}
use Rattle.system_theory.specs.Slopes.{slope}
use Rattle.kriging_theory.specs.Fit.{answered}

-- a row of so many of a list's numbers lies inside
pub row_inside : (w q m len : ℕ) → q < m → w * m ≤ len → q * w + w ≤ len
row_inside w q m len h k = omega (arith, row_end w q m h, mul_comm w m)

-- multiplier j after q nodes: the last one's, and 0 where there is none
abbrev last_of : Survey → (ℕ → Node) → ℕ → ℕ → Float
last_of s node q j = cond (eqb q 0) zero_float (get_or (node (q - 1)).z (wells s + j) nan)

later : (s : Survey) (node : ℕ → Node) (q j : ℕ) → last_of s node (q + 1) j ≡ get_or (node q).z (wells s + j) nan
later s node q j =
    let e : q + 1 - 1 ≡ q = omega arith in
    ap (λ (b : Bool). cond b zero_float (get_or (node (q + 1 - 1)).z (wells s + j) nan)) (ne_eqb (q + 1) 0 (λ z. omega arith))
    ∙ ap (λ (r : ℕ). get_or (node r).z (wells s + j) nan) e

-- what the trend and q nodes have left in the areas
pub record Progress (s : Survey) (a : Areas) (node : ℕ → Node) (q : ℕ) (e : Areas) : Type 0 where
  pub work : e.work ≡ a.work
  pub predicted : e.predicted ≡ written 0 q (λ r. (node r).figure) a.predicted
  pub variance : e.variance ≡ written 0 q (λ r. (node r).variance) a.variance
  pub verdicts : e.verdicts ≡ written 0 q (λ r. (node r).verdict) a.verdicts
  pub weights : e.weights ≡ filled (wells s) q (λ r c. get_or (node r).z c nan) a.weights
  pub multipliers : e.multipliers ≡ written 0 (columns s) (last_of s node q) a.multipliers
  pub trend : e.trend ≡ written 0 (columns s) (slope (size s) a.work s.values) a.trend

module _ (s : Survey) (a : Areas) (node : ℕ → Node) where
  -- before the first node, where the multipliers are zeros
  pub none_yet : {ms ts : List Float} → ms ≡ written 0 (columns s) (λ j. zero_float) a.multipliers
      → ts ≡ written 0 (columns s) (slope (size s) a.work s.values) a.trend
      → Progress s a node 0 (areas_of a.work a.predicted a.variance a.verdicts a.weights ms ts)
  none_yet m t = record { work = refl; predicted = refl; variance = refl; verdicts = refl; weights = refl; multipliers = m; trend = t }

  -- one node more: its figure, variance and verdict stored, the first places of its z to the weights, the next ones to the multipliers
  pub one_more : (q : ℕ) (e : Areas) (ws ms : List Float) (figure variance : Float) (verdict : ℕ)
      → figure ≡ (node q).figure → variance ≡ (node q).variance → verdict ≡ (node q).verdict
      → ws ≡ written (q * wells s) (wells s) (λ j. get_or (node q).z j nan) e.weights
      → ms ≡ written 0 (columns s) (λ j. get_or (node q).z (wells s + j) nan) e.multipliers
      → Progress s a node q e
      → Progress s a node (q + 1)
      (areas_of e.work (set e.predicted q figure) (set e.variance q variance) (set e.verdicts q verdict) ws ms e.trend)
  one_more q e ws ms figure variance verdict hf hv hd hw hm h = record {
    work = h.work;
    predicted = next_start q _ _ e.predicted figure hf h.predicted;
    variance = next_start q _ _ e.variance variance hv h.variance;
    verdicts = next_start q _ _ e.verdicts verdict hd h.verdicts;
    weights = next_row (wells s) q _ _ e.weights ws h.weights hw;
    multipliers =
        hm
        ∙ same_values 0 (columns s) _ (last_of s node (q + 1)) e.multipliers (λ j l. sym (later s node q j))
        ∙ ap (λ (xs : List Float). written 0 (columns s) (last_of s node (q + 1)) xs) h.multipliers
        ∙ written_over 0 (columns s) (last_of s node q) (last_of s node (q + 1)) a.multipliers;
    trend = h.trend;
  }

  -- and all of them
  pub all_nodes : (q : ℕ) (e : Areas) → q ≡ node_count s → Progress s a node q e → e ≡ answered s a a.work node
  unfolding answered
  all_nodes q e m h i = record {
    work = h.work i;
    predicted = (h.predicted ∙ ap (λ (k : ℕ). written 0 k (λ r. (node r).figure) a.predicted) m) i;
    variance = (h.variance ∙ ap (λ (k : ℕ). written 0 k (λ r. (node r).variance) a.variance) m) i;
    verdicts = (h.verdicts ∙ ap (λ (k : ℕ). written 0 k (λ r. (node r).verdict) a.verdicts) m) i;
    weights =
        (h.weights
        ∙ one_fill (wells s) q _ a.weights
        ∙ ap (λ (k : ℕ). written 0 k (λ t. get_or (node (t / wells s)).z (t % wells s) nan) a.weights) (mul_comm q (wells s) ∙ ap (λ (k : ℕ). wells s * k) m))
        i;
    multipliers = (h.multipliers ∙ ap (λ (k : ℕ). written 0 (columns s) (last_of s node k) a.multipliers) m) i;
    trend = h.trend i;
  }
