-- The audit of one node: paper 01, "Audit (added)". All sums are exact, over whole multiples of 2^-1074 and, for products, of 2^-2148.
-- It is in two parts: what does not depend on the values, rows 1 to p, and what does, row p + 1.
use Rattle.std.specs.Prelude.{ℕ, zero, suc, ◌+◌, ◌-◌, ◌^◌, ◌<◌, ◌≡◌, Bool, ◌&&◌, cond, eqb, ℤ, pos, nat_abs, ◌+ℤ◌, ◌-ℤ◌, ◌*ℤ◌, Float}
use Rattle.std.specs.Int.Signed.{le_z}
use Rattle.std.specs.Float.Ieee.Scale.{finite}
use Rattle.error.specs.Tests.{all}
use Rattle.audit.specs.declared.Finding.{Finding}
use Rattle.audit.specs.declared.Finding.TheVariants.{Passed, Missed, NotFinite}
use Rattle.exact.specs.Units.{units}
use Rattle.exact.specs.Whole.{sumℤ}

-- what the audit reads that does not depend on the values: n weights, the F entries of n wells and p columns, the node's f0, and the tolerance
pub record Weighed : Type 0 where
  pub n : ℕ
  pub p : ℕ
  pub weight : ℕ → Float
  pub drift : ℕ → ℕ → Float
  pub node_drift : ℕ → Float
  pub tolerance : Float

-- and all that it reads: the values and the node's figure too
pub record Audited : Type 0 where
  pub weighed : Weighed
  pub value : ℕ → Float
  pub figure : Float

-- 1.0 as a multiple of 2^-1074
abbrev pub unit : ℤ
unit = pos (2 ^ 1074)

-- "Σ z_i·F_ij", "Σ z_i·value_i": exact, "over the n weights"
unfoldable pub weighted : Weighed → (ℕ → Float) → ℤ
unfolding units
weighted w f = sumℤ w.n (λ i. units (w.weight i) *ℤ units (f i))

-- "|Σ − target| ≤ t·(1 + |target|)"
unfoldable pub within : Float → ℤ → Float → Bool
unfolding units
within t sum target = le_z (pos (nat_abs (sum -ℤ units target *ℤ unit))) (units t *ℤ (unit +ℤ pos (nat_abs (units target))))

-- the first of k rows from row j on that is missed, and 0 where all are met
unfoldable pub first_missed : ℕ → ℕ → (ℕ → Bool) → ℕ
first_missed zero j met = 0
first_missed (suc k) j met = let later = first_missed k (j + 1) met in cond (met j) later j

-- ---- without the values

-- no "F entry .. is not finite": the same for every node
unfoldable pub drift_finite : ℕ → ℕ → (ℕ → ℕ → Float) → Bool
unfolding all
drift_finite n p drift = all n (λ i. all p (λ j. finite (drift i j)))

-- no "weight, .. F entry, .. f0 entry .. is not finite", where `finite_drift` says it of F
unfoldable pub finite_given : Bool → Weighed → Bool
unfolding all
finite_given finite_drift w = all w.n (λ i. finite (w.weight i)) && finite_drift && all w.p (λ j. finite (w.node_drift j))

unfoldable pub columns_finite : Weighed → Bool
unfolding finite_given drift_finite
columns_finite w = finite_given (drift_finite w.n w.p w.drift) w

-- "Row j of 1..p: |Σ z_i·F_ij − f0_j| ≤ t·(1 + |f0_j|)": column j - 1
unfoldable pub column_met : Weighed → ℕ → Bool
unfolding weighted within
column_met w j = within w.tolerance (weighted w (λ i. w.drift i (j - 1))) (w.node_drift (j - 1))

-- 255 where a weight, an F entry or an f0 entry is not finite; else the first row of 1..p missed; else 0: where `finite_drift` says that F is finite
unfoldable pub column_verdict_given : Bool → Weighed → ℕ
unfolding finite_given column_met first_missed
column_verdict_given finite_drift w = cond (finite_given finite_drift w) (first_missed w.p 1 (column_met w)) 255

-- and where F itself is looked at
unfoldable pub column_verdict : Weighed → ℕ
unfolding drift_finite column_verdict_given
column_verdict w = column_verdict_given (drift_finite w.n w.p w.drift) w

-- the verdict that a finding is: "0, passed", "the first row missed", "255"
abbrev pub number_of : Finding → ℕ
number_of Passed = 0
number_of (Missed row) = row
number_of NotFinite = 255

-- ---- with the values

-- "Row p+1: |Σ z_i·value_i − figure| ≤ t·(1 + |figure|)"
unfoldable pub figure_met : Audited → Bool
unfolding weighted within
figure_met a = within a.weighed.tolerance (weighted a.weighed a.value) a.figure

-- the verdict, where v is that of rows 1 to p: 255 where the figure is not finite; else v where it is not 0; else row p + 1 if it is missed; else 0
unfoldable pub verdict_with : ℕ → Audited → ℕ
unfolding figure_met
verdict_with v a =
    let last = cond (figure_met a) 0 (a.weighed.p + 1) in
    cond (finite a.figure) (cond (eqb v 0) last v) 255

-- "Verdict 255 if a weight, an F entry, an f0 entry or the figure is not finite; else the first row missed; else 0, passed."
unfoldable pub verdict_of : Audited → ℕ
unfolding column_verdict verdict_with
verdict_of a = verdict_with (column_verdict a.weighed) a

-- ---- two audits that read the same
-- the same n, p and tolerance, and the same numbers where they are read
pub record SameWeighed (v w : Weighed) : Type 0 where
  pub n : v.n ≡ w.n
  pub p : v.p ≡ w.p
  pub tolerance : v.tolerance ≡ w.tolerance
  pub weight : (i : ℕ) → i < v.n → v.weight i ≡ w.weight i
  pub drift : (i j : ℕ) → i < v.n → j < v.p → v.drift i j ≡ w.drift i j
  pub node_drift : (j : ℕ) → j < v.p → v.node_drift j ≡ w.node_drift j
