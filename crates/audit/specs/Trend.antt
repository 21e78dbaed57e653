-- What an audit promises of a node: when it has which verdict, and the trend bound of a node that passed. Paper 01, "Audit (added)".
-- All is exact: a number is its whole multiple of 2^-1074 (`units`), a product of two numbers is over 2^-2148, and `unit` is 1.
use Rattle.std.specs.Prelude.{ℕ, suc, ◌+◌, ◌≤◌, ◌<◌, ◌≡◌, ◌↔◌, T, ℤ, pos, nat_abs, ◌+ℤ◌, ◌-ℤ◌, ◌*ℤ◌, ◌≤ℤ◌, Float}
use Rattle.std.specs.Float.Ieee.Scale.{finite}
use Rattle.exact.specs.Units.{units}
use Rattle.exact.specs.Whole.{sumℤ}
use Rattle.audit.specs.Audit.{Weighed, Audited, unit}

-- ---- the trend

-- "A trend in demand 3 is any p coefficients a_j ..: any whole numbers over one positive whole denominator, and the bound is stated multiplied through by it."
-- Coefficient j (from 0) is A j over D, and each definition is D times what it names.

-- "At well i the trend is Σ a_j·F_ij, .. over j from 1 to p, unrounded"
abbrev pub trend_at_well : Weighed → (ℕ → ℤ) → ℕ → ℤ
trend_at_well w A i = sumℤ w.p (λ j. A j *ℤ units (w.drift i j))

-- "at the node Σ a_j·f0_j"
abbrev pub trend_at_node : Weighed → (ℕ → ℤ) → ℤ
trend_at_node w A = sumℤ w.p (λ j. A j *ℤ units (w.node_drift j))

-- "what it leaves over at well i is value_i less the trend there"
abbrev pub left_over : Audited → (ℕ → ℤ) → ℕ → ℕ → ℤ
left_over a A D i = pos D *ℤ units (a.value i) -ℤ trend_at_well a.weighed A i

-- the trend at the node and the weighted sum of what it leaves over at the wells
abbrev pub from_trend : Audited → (ℕ → ℤ) → ℕ → ℤ
from_trend a A D = trend_at_node a.weighed A *ℤ unit +ℤ sumℤ a.weighed.n (λ i. units (a.weighed.weight i) *ℤ left_over a A D i)

-- t·(1 + |figure|) + t·Σ |a_j|·(1 + |f0_j|)
abbrev pub allowance : Audited → (ℕ → ℤ) → ℕ → ℤ
allowance a A D =
    units a.weighed.tolerance *ℤ (pos D *ℤ (unit +ℤ pos (nat_abs (units a.figure))))
    +ℤ units a.weighed.tolerance *ℤ sumℤ a.weighed.p (λ j. pos (nat_abs (A j)) *ℤ (unit +ℤ pos (nat_abs (units (a.weighed.node_drift j)))))

-- For every trend the figure is within the allowance of it:
-- |figure − (trend at the node + Σ w_i·(value_i − trend at well i))| ≤ t·(1 + |figure|) + t·Σ |a_j|·(1 + |f0_j|)
pub record TrendBound (a : Audited) : Type 0 where
  pub bound : (A : ℕ → ℤ) (D : ℕ) → 0 < D → pos (nat_abs (pos D *ℤ units a.figure *ℤ unit -ℤ from_trend a A D)) ≤ℤ allowance a A D

-- ---- the verdict

-- all that a verdict asks to be finite
pub record AllFinite (a : Audited) : Type 0 where
  pub weights : (i : ℕ) → i < a.weighed.n → T (finite (a.weighed.weight i))
  pub drift : (i j : ℕ) → i < a.weighed.n → j < a.weighed.p → T (finite (a.weighed.drift i j))
  pub node_drift : (j : ℕ) → j < a.weighed.p → T (finite (a.weighed.node_drift j))
  pub figure : T (finite a.figure)

-- "a weight, an F entry, an f0 entry or the figure is not finite"
pub data SomeNotFinite (a : Audited) : Type 0 where
  a_weight : (i : ℕ) → i < a.weighed.n → ¬ T (finite (a.weighed.weight i)) → SomeNotFinite a
  an_entry : (i j : ℕ) → i < a.weighed.n → j < a.weighed.p → ¬ T (finite (a.weighed.drift i j)) → SomeNotFinite a
  a_node_entry : (j : ℕ) → j < a.weighed.p → ¬ T (finite (a.weighed.node_drift j)) → SomeNotFinite a
  the_figure : ¬ T (finite a.figure) → SomeNotFinite a

-- "|Σ z_i·x_i − target| ≤ t·(1 + |target|)", the sum "over the n weights"
abbrev pub Close : Weighed → (ℕ → Float) → Float → Type 0
Close w x target =
    pos (nat_abs (sumℤ w.n (λ i. units (w.weight i) *ℤ units (x i)) -ℤ units target *ℤ unit))
    ≤ℤ (units w.tolerance *ℤ (unit +ℤ pos (nat_abs (units target))))

-- "Row j of 1..p: |Σ z_i·F_ij − f0_j| ≤ t·(1 + |f0_j|). Row p+1: |Σ z_i·value_i − figure| ≤ t·(1 + |figure|)."
pub record Met (a : Audited) (j : ℕ) : Type 0 where
  pub column : (c : ℕ) → c < a.weighed.p → j ≡ suc c → Close a.weighed (λ i. a.weighed.drift i c) (a.weighed.node_drift c)
  pub figure : j ≡ suc a.weighed.p → Close a.weighed a.value a.figure

-- the rows from 1 on and before row k are met
abbrev pub MetBefore : Audited → ℕ → Type 0
MetBefore a k = (j : ℕ) → 1 ≤ j → j < k → Met a j

-- "Verdict 255 if a weight, an F entry, an f0 entry or the figure is not finite; else the first row missed; else 0, passed." Each exactly when.
pub record Verdict (a : Audited) (v : ℕ) : Type 0 where
  pub passed : v ≡ 0 ↔ (AllFinite a × MetBefore a (a.weighed.p + 2))
  pub missed : (j : ℕ) → 1 ≤ j → j ≤ a.weighed.p + 1 → v ≡ j ↔ (AllFinite a × MetBefore a j × ¬ Met a j)
  pub not_finite : v ≡ 255 ↔ SomeNotFinite a
