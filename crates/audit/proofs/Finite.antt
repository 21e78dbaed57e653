-- All that the verdict asks to be finite is, or something is not: each as its test tells.
use Prim.Native.Nat.{ℕ, ◌<◌}
use mathlib.Core.Logic.{◌⊎◌, inl, inr}
use mathlib.Core.Bool.{Bool, not, ◌&&◌}
use lib.Dec.{T}
use lib.Ieee.{Float}
use lib.Ieee.Scale.{finite}
use Rattle.error.specs.Tests.{all, Tells}
use Rattle.error.proofs.Tells.{told_as, opposite, both, not_both, each, one_fails, passes}
use Rattle.audit.specs.Audit.{Audited, drift_finite, finite_given, columns_finite}
use Rattle.audit.specs.Trend.{AllFinite, SomeNotFinite, a_weight, an_entry, a_node_entry, the_figure}

-- every number below k has a finite f, and one of them has not
abbrev Each : ℕ → (ℕ → Float) → Type 0
Each k f = (i : ℕ) → i < k → T (finite (f i))

abbrev One : ℕ → (ℕ → Float) → Type 0
One k f = (i : ℕ) × (i < k) × (¬ T (finite (f i)))

each_finite : (k : ℕ) (f : ℕ → Float) → Tells (all k (λ i. finite (f i))) (Each k f)
each_finite k f = each k (λ i. finite (f i)) (λ i. T (finite (f i))) (λ i l. passes (finite (f i)))

one_not : (k : ℕ) (f : ℕ → Float) → Tells (not (all k (λ i. finite (f i)))) (One k f)
one_not k f = one_fails k (λ i. finite (f i)) (λ i. T (finite (f i))) (λ i l. passes (finite (f i)))

-- F, row by row
module _ (n p : ℕ) (drift : ℕ → ℕ → Float) where
  drift_told : Tells (drift_finite n p drift) ((i j : ℕ) → i < n → j < p → T (finite (drift i j)))
  unfolding drift_finite
  drift_told =
      told_as (each n (λ i. all p (λ j. finite (drift i j))) (λ i. Each p (drift i)) (λ i l. each_finite p (drift i)))
      (λ h i j l m. h i l j m) (λ h i l j m. h i j l m)

  drift_not : Tells (not (drift_finite n p drift)) ((i : ℕ) × (i < n) × One p (drift i))
  unfolding drift_finite
  drift_not =
      told_as (one_fails n (λ i. all p (λ j. finite (drift i j))) (λ i. Each p (drift i)) (λ i l. each_finite p (drift i)))
      (λ x. (x.0, x.1, (one_not p (drift x.0)).then ((opposite (each_finite p (drift x.0))).back x.2)))
      (λ x. (x.0, x.1, λ h. x.2.2 (h x.2.0 x.2.1)))

module _ (a : Audited) where
  -- the figure's test beside the columns'
  abbrev pub everything : Bool
  everything = columns_finite a.weighed && finite a.figure

  pub finite_told : Tells everything (AllFinite a)
  unfolding columns_finite finite_given
  finite_told =
      told_as
      (both (both (both (each_finite a.weighed.n a.weighed.weight) (drift_told a.weighed.n a.weighed.p a.weighed.drift))
      (each_finite a.weighed.p a.weighed.node_drift)) (passes (finite a.figure)))
      (λ h. record { weights = h.0.0.0; drift = h.0.0.1; node_drift = h.0.1; figure = h.1 })
      (λ f. (((f.weights, f.drift), f.node_drift), f.figure))

  abbrev Cause : Type 0
  Cause =
      ((One a.weighed.n a.weighed.weight ⊎ ((i : ℕ) × (i < a.weighed.n) × One a.weighed.p (a.weighed.drift i)))
      ⊎ One a.weighed.p a.weighed.node_drift) ⊎ (¬ T (finite a.figure))

  pub not_finite_told : Tells (not everything) (SomeNotFinite a)
  unfolding columns_finite finite_given
  not_finite_told =
      let w = a.weighed in
      let x : Bool = all w.n (λ i. finite (w.weight i)) in
      let y : Bool = drift_finite w.n w.p w.drift in
      let z : Bool = all w.p (λ j. finite (w.node_drift j)) in
      told_as
      (not_both (x && y && z) (finite a.figure)
      (not_both (x && y) z (not_both x y (one_not w.n w.weight) (drift_not w.n w.p w.drift)) (one_not w.p w.node_drift))
      (opposite (passes (finite a.figure))))
      there from
    where
      there : Cause → SomeNotFinite a
      there (inl (inl (inl x))) = a_weight x.0 x.1 x.2
      there (inl (inl (inr x))) = an_entry x.0 x.2.0 x.1 x.2.1 x.2.2
      there (inl (inr x)) = a_node_entry x.0 x.1 x.2
      there (inr x) = the_figure x

      from : SomeNotFinite a → Cause
      from (a_weight i l n) = inl (inl (inl (i, l, n)))
      from (an_entry i j l m n) = inl (inl (inr (i, l, (j, m, n))))
      from (a_node_entry j m n) = inl (inr (j, m, n))
      from (the_figure n) = inr n

-- not both
pub finite_clash : {a : Audited} → AllFinite a → SomeNotFinite a → ⊥
finite_clash f (a_weight i l n) = n (f.weights i l)
finite_clash f (an_entry i j l m n) = n (f.drift i j l m)
finite_clash f (a_node_entry j m n) = n (f.node_drift j m)
finite_clash f (the_figure n) = n f.figure
