-- The rows of an audit, as facts: the first that is missed, and when a row is met.
use Prim.Native.Nat.{ℕ, zero, suc, ◌+◌, ◌-◌, ◌≤◌, ◌<◌}
use native.Mathlib.Decide.{dec_lt}
use native.Mathlib.Omega.{arith}
use mathlib.Core.Path.{◌≡◌, refl, sym, ap, subst}
use mathlib.Core.Bool.{Bool, true, false, cond}
use lib.Ieee.{Float}
use Rattle.error.specs.Tests.{Tells}
use Rattle.audit.specs.Audit.{Weighed, Audited, weighted, within, first_missed, column_met, figure_met}
use Rattle.audit.specs.Trend.{Close}

-- ---- the first row missed

-- what v says of the rows from `low` up to before `high`: 0 where all are met, else the first that is missed
pub data First (met : ℕ → Bool) (low high v : ℕ) : Type 0 where
  none : v ≡ 0 → ((i : ℕ) → low ≤ i → i < high → met i ≡ true) → First met low high v
  one : low ≤ v → v < high → met v ≡ false → ((i : ℕ) → low ≤ i → i < v → met i ≡ true) → First met low high v

pub first_missed_lem : (k j : ℕ) (met : ℕ → Bool) → First met j (j + k) (first_missed k j met)
unfolding first_missed
first_missed_lem zero j met = none refl (λ i l m. absurd (clash i l m))
  where
    clash : (i : ℕ) → j ≤ i → i < j + zero → ⊥
    clash i l m = omega arith
first_missed_lem (suc k) j met = by (met j) refl (first_missed_lem k (j + 1) met)
  where
    here : met j ≡ false → First met j (j + suc k) (first_missed (suc k) j met)
    here e =
        let is : first_missed (suc k) j met ≡ j = ap (λ (b : Bool). cond b (first_missed k (j + 1) met) j) e in
        subst (First met j (j + suc k)) (sym is) (one (omega arith) (omega arith) e (λ i l m. absurd (clash i l m)))
      where
        clash : (i : ℕ) → j ≤ i → i < j → ⊥
        clash i l m = omega arith

    on : met j ≡ true → First met (j + 1) (j + 1 + k) (first_missed k (j + 1) met) → First met j (j + suc k) (first_missed (suc k) j met)
    on e rest =
        let is : first_missed (suc k) j met ≡ first_missed k (j + 1) met = ap (λ (b : Bool). cond b (first_missed k (j + 1) met) j) e in
        subst (First met j (j + suc k)) (sym is) (wider (first_missed k (j + 1) met) rest)
      where
        more : (v i : ℕ) → ((i : ℕ) → j + 1 ≤ i → i < v → met i ≡ true) → j ≤ i → i < v → met i ≡ true
        more v i h l m = elim (dec_lt j i) [ yes b ↦ h i (omega arith) m | no b ↦ let s : j ≡ i = omega arith in subst (λ (z : ℕ). met z ≡ true) s e ]

        wider : (v : ℕ) → First met (j + 1) (j + 1 + k) v → First met j (j + suc k) v
        wider v (none z h) = none z (λ i l m. more (j + 1 + k) i h l (omega arith))
        wider v (one l m n h) = one (omega arith) (omega arith) n (λ i b c. more v i h b c)

    by : (b : Bool) → met j ≡ b → First met (j + 1) (j + 1 + k) (first_missed k (j + 1) met) → First met j (j + suc k) (first_missed (suc k) j met)
    by true e rest = on e rest
    by false e rest = here e

-- ---- a row
close_told : (w : Weighed) (x : ℕ → Float) (target : Float) → Tells (within w.tolerance (weighted w x) target) (Close w x target)
unfolding within weighted
close_told w x target = record { then = λ h. record { le = h }; back = λ h. h.le }

-- row c + 1, of column c
pub column_told : (w : Weighed) (c : ℕ) → Tells (column_met w (suc c)) (Close w (λ i. w.drift i c) (w.node_drift c))
unfolding column_met
column_told w c =
    let e : suc c - 1 ≡ c = omega arith in
    rw e (close_told w (λ i. w.drift i c) (w.node_drift c))

-- row p + 1
pub figure_told : (a : Audited) → Tells (figure_met a) (Close a.weighed a.value a.figure)
unfolding figure_met
figure_told a = close_told a.weighed a.value a.figure
