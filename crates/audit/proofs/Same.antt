-- An audit reads n weights, n rows of p columns, p entries of f0 and n values, and no more: the same numbers there have the same verdict.
use Prim.Native.Nat.{ℕ, zero, suc, ◌+◌, ◌-◌, ◌≤◌, ◌<◌}
use native.Mathlib.Omega.{arith}
use mathlib.Core.Path.{◌≡◌, refl, ap, ap₂, ◌∙◌}
use mathlib.Core.Bool.{Bool, ◌&&◌, cond}
use lib.Dec.{eqb}
use lib.IntN.{ℤ, ◌*ℤ◌}
use lib.Ieee.{Float}
use lib.Ieee.Scale.{finite}
use Rattle.error.proofs.Tells.{same_all}
use Rattle.exact.specs.Units.{units}
use Rattle.exact.proofs.Sums.{sumℤ_same}
use Rattle.audit.specs.Audit.{SameWeighed, Weighed, Audited, weighted, within, first_missed, drift_finite}
use Rattle.audit.specs.Audit.{finite_given, column_met, column_verdict_given, column_verdict, figure_met, verdict_with, verdict_of}

same_missed : (k j : ℕ) (f g : ℕ → Bool) → ((i : ℕ) → j ≤ i → i < j + k → f i ≡ g i) → first_missed k j f ≡ first_missed k j g
unfolding first_missed
same_missed zero j f g h = refl
same_missed (suc k) j f g h =
    ap₂ (λ (b : Bool) (later : ℕ). cond b later j) (h j (omega arith) (omega arith)) (same_missed k (j + 1) f g (λ i l m. h i (omega arith) (omega arith)))

pub same_drift : (n p : ℕ) (F G : ℕ → ℕ → Float) → ((i j : ℕ) → i < n → j < p → F i j ≡ G i j) → drift_finite n p F ≡ drift_finite n p G
unfolding drift_finite
same_drift n p F G h = same_all n _ _ (λ i l. same_all p _ _ (λ j m. ap finite (h i j l m)))

-- v with w's counts and tolerance
abbrev counted : Weighed → Weighed → Weighed
counted v w = record { n = w.n; p = w.p; weight = v.weight; drift = v.drift; node_drift = v.node_drift; tolerance = w.tolerance }

module _ {v w : Weighed} (h : SameWeighed v w) where
  counts : v ≡ counted v w
  counts = λ i. record { n = h.n i; p = h.p i; weight = v.weight; drift = v.drift; node_drift = v.node_drift; tolerance = h.tolerance i }

  same_weighted : (x y : ℕ → Float) → ((i : ℕ) → i < v.n → x i ≡ y i) → weighted v x ≡ weighted w y
  unfolding weighted
  same_weighted x y g =
      ap (λ (u : Weighed). weighted u x) counts
      ∙ sumℤ_same w.n _ _ (λ i l. ap₂ (λ (z c : Float). units z *ℤ units c) (h.weight i (rw h.n l)) (g i (rw h.n l)))

  same_within : (x y : ℕ → Float) (c d : Float) → ((i : ℕ) → i < v.n → x i ≡ y i) → c ≡ d
      → within v.tolerance (weighted v x) c ≡ within w.tolerance (weighted w y) d
  same_within x y c d g e =
      ap₂ (λ (t : Float) (z : ℤ). within t z c) h.tolerance (same_weighted x y g) ∙ ap (within w.tolerance (weighted w y)) e

  -- where both tests of F come out alike
  same_finite : (b c : Bool) → b ≡ c → finite_given b v ≡ finite_given c w
  unfolding finite_given
  same_finite b c e =
      ap (finite_given b) counts
      ∙ ap₂ (λ (x y : Bool). x && y)
      (ap₂ (λ (x y : Bool). x && y) (same_all w.n _ _ (λ i l. ap finite (h.weight i (rw h.n l)))) e)
      (same_all w.p _ _ (λ j m. ap finite (h.node_drift j (rw h.p m))))

  same_met : (j : ℕ) → 1 ≤ j → j < 1 + v.p → column_met v j ≡ column_met w j
  unfolding column_met
  same_met j l m =
      same_within (λ i. v.drift i (j - 1)) (λ i. w.drift i (j - 1)) (v.node_drift (j - 1)) (w.node_drift (j - 1))
      (λ i b. h.drift i (j - 1) b (omega arith)) (h.node_drift (j - 1) (omega arith))

  pub same_given : (b c : Bool) → b ≡ c → column_verdict_given b v ≡ column_verdict_given c w
  unfolding column_verdict_given
  same_given b c e =
      ap₂ (λ (x : Bool) (k : ℕ). cond x k 255) (same_finite b c e)
      (same_missed v.p 1 (column_met v) (column_met w) same_met ∙ ap (λ (k : ℕ). first_missed k 1 (column_met w)) h.p)

  pub same_columns : column_verdict v ≡ column_verdict w
  unfolding column_verdict
  same_columns =
      same_given (drift_finite v.n v.p v.drift) (drift_finite w.n w.p w.drift)
      (ap (λ (u : Weighed). drift_finite u.n u.p u.drift) counts
      ∙ same_drift w.n w.p v.drift w.drift (λ i j l m. h.drift i j (rw h.n l) (rw h.p m)))

-- and the same with the values
module _
    (a b : Audited)
    (h : SameWeighed a.weighed b.weighed)
    (g : (i : ℕ) → i < a.weighed.n → a.value i ≡ b.value i)
    (e : a.figure ≡ b.figure) where
  pub same_joined : (u v : ℕ) → u ≡ v → verdict_with u a ≡ verdict_with v b
  unfolding verdict_with figure_met
  same_joined u v k =
      ap₂ (λ (c : Bool) (k : ℕ). cond c k 255) (ap finite e)
      (ap₂ (λ (v : ℕ) (last : ℕ). cond (eqb v 0) last v) k
      (ap₂ (λ (c : Bool) (p : ℕ). cond c 0 (p + 1)) (same_within h a.value b.value a.figure b.figure g e) h.p))

  pub same_verdict : verdict_of a ≡ verdict_of b
  unfolding verdict_of
  same_verdict = same_joined (column_verdict a.weighed) (column_verdict b.weighed) (same_columns h)
