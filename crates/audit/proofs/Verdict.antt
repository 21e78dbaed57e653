-- The verdict of an audit, each exactly when; and the trend bound of what passed.
use Prim.Native.Nat.{ℕ, zero, suc, ◌+◌, ◌≤◌, ◌<◌}
use native.Mathlib.Decide.{dec_lt}
use native.Mathlib.Omega.{arith}
use mathlib.Core.Path.{◌≡◌, refl, subst}
use mathlib.Core.Bool.{Bool, true, false, not, ◌&&◌, cond}
use borrow.Author.Tests.{ne_eqb}
use lib.Dec.{T, eqb}
use lib.Ieee.Scale.{finite}
use Rattle.error.specs.Tests.{Tells}
use Rattle.exact.specs.Units.{units}
use Rattle.audit.specs.Audit.{Audited, unit, columns_finite, column_met, first_missed, column_verdict_given, column_verdict, figure_met, verdict_with, verdict_of}
use Rattle.audit.specs.Trend.{AllFinite, SomeNotFinite, Close, Met, MetBefore, Verdict, TrendBound}
use Rattle.audit.proofs.Finite.{finite_told, not_finite_told, finite_clash}
use Rattle.audit.proofs.Rows.{First, none, one, first_missed_lem, column_told, figure_told}
use Rattle.audit.proofs.TrendSums.{within_allowance}

-- the three ways in which an audit ends with the verdict v
data Way (a : Audited) (v : ℕ) : Type 0 where
  bad : SomeNotFinite a → v ≡ 255 → Way a v
  good : AllFinite a → MetBefore a (a.weighed.p + 2) → v ≡ 0 → Way a v
  miss : AllFinite a → 1 ≤ v → v ≤ a.weighed.p + 1 → MetBefore a v → ¬ Met a v → Way a v

module _ (a : Audited) where
  -- a row of a column, by its column
  column_met_lem : (c : ℕ) → c < a.weighed.p → Close a.weighed (λ i. a.weighed.drift i c) (a.weighed.node_drift c) → Met a (suc c)
  column_met_lem c l h = record {
    column = λ d m e. let s : c ≡ d = omega arith in subst (λ (d : ℕ). Close a.weighed (λ i. a.weighed.drift i d) (a.weighed.node_drift d)) s h;
    figure = λ e. absurd (let z : c ≡ a.weighed.p = omega arith in omega arith);
  }

  last_met : Close a.weighed a.value a.figure → Met a (suc a.weighed.p)
  last_met h = record { column = λ d m e. absurd (let z : d ≡ a.weighed.p = omega arith in omega arith); figure = λ e. h }

  met_of : (j : ℕ) → 1 ≤ j → j < 1 + a.weighed.p → column_met a.weighed j ≡ true → Met a j
  met_of zero l m e = elim l [ ]
  met_of (suc c) l m e = column_met_lem c (omega arith) ((column_told a.weighed c).then (rw e tt))

  missed_of : (j : ℕ) → 1 ≤ j → j < 1 + a.weighed.p → column_met a.weighed j ≡ false → ¬ Met a j
  missed_of zero l m e h = elim l [ ]
  missed_of (suc c) l m e h = subst T e ((column_told a.weighed c).back (h.column c (omega arith) refl))

  -- everything is finite: the rows of the columns, and then the last
  walk : AllFinite a → (v : ℕ) → First (column_met a.weighed) 1 (1 + a.weighed.p) v → Way a (cond (eqb v 0) (cond (figure_met a) 0 (a.weighed.p + 1)) v)
  walk f v (one l m n h) =
      rw (ne_eqb v 0 (omega arith)) (miss f l (omega arith) (λ j b c. met_of j b (omega arith) (h j b c)) (missed_of v l m n))
  walk f v (none z h) = rw z (by (figure_met a) (figure_told a))
    where
      before : (j : ℕ) → 1 ≤ j → j < 1 + a.weighed.p → Met a j
      before j l m = met_of j l m (h j l m)

      rows : Met a (suc a.weighed.p) → MetBefore a (a.weighed.p + 2)
      rows last j l m =
          elim (dec_lt j (1 + a.weighed.p)) [ yes b ↦ before j l b | no b ↦ let e : suc a.weighed.p ≡ j = omega arith in subst (Met a) e last ]

      by : (b : Bool) → Tells b (Close a.weighed a.value a.figure) → Way a (cond b 0 (a.weighed.p + 1))
      by true t = good f (rows (last_met (t.then tt))) refl
      by false t =
          let e : suc a.weighed.p ≡ a.weighed.p + 1 = omega arith in
          subst (Way a) e (miss f (omega arith) (omega arith) (λ j l m. before j l (omega arith)) (λ m. t.back (m.figure refl)))

  way : Way a (verdict_of a)
  unfolding verdict_of verdict_with column_verdict column_verdict_given columns_finite
  way = by (columns_finite a.weighed) (finite a.figure) (finite_told a) (not_finite_told a)
    where
      rows : ℕ
      rows = first_missed a.weighed.p 1 (column_met a.weighed)

      by : (b c : Bool) → Tells (b && c) (AllFinite a) → Tells (not (b && c)) (SomeNotFinite a)
          → Way a (cond c (cond (eqb (cond b rows 255) 0) (cond (figure_met a) 0 (a.weighed.p + 1)) (cond b rows 255)) 255)
      by true true t u = walk (t.then tt) rows (first_missed_lem a.weighed.p 1 (column_met a.weighed))
      by true false t u = bad (u.then tt) refl
      by false true t u = bad (u.then tt) refl
      by false false t u = bad (u.then tt) refl

-- ---- each exactly when

-- a verdict is 0, 255 or a row exactly when it should be; with at most 253 columns 255 is no row
way_verdict : (a : Audited) → a.weighed.p ≤ 253 → (v : ℕ) → Way a v → Verdict a v
way_verdict a few v (bad s e) = record {
  passed = (λ z. absurd (row_0 z), λ h. absurd (finite_clash h.0 s));
  missed = λ j l m. (λ z. absurd (row j l m z), λ h. absurd (finite_clash h.0 s));
  not_finite = (λ z. s, λ h. e);
}
  where
    row_0 : v ≡ 0 → ⊥
    row_0 z = omega arith

    row : (j : ℕ) → 1 ≤ j → j ≤ a.weighed.p + 1 → v ≡ j → ⊥
    row j l m z = omega arith
way_verdict a few v (good f h e) = record {
  passed = (λ z. (f, h), λ k. e);
  missed = λ j l m. (λ z. absurd (row j l z), λ k. absurd (k.2 (h j l (omega arith))));
  not_finite = (λ z. absurd (row_255 z), λ s. absurd (finite_clash f s));
}
  where
    row : (j : ℕ) → 1 ≤ j → v ≡ j → ⊥
    row j l z = omega arith

    row_255 : v ≡ 255 → ⊥
    row_255 z = omega arith
way_verdict a few v (miss f l m h n) = record {
  passed = (λ z. absurd (row_0 z), λ k. absurd (n (k.1 v l (omega arith))));
  missed = λ j b c. (λ z. subst (λ (r : ℕ). AllFinite a × MetBefore a r × ¬ Met a r) z (f, h, n), λ k. same j b k);
  not_finite = (λ z. absurd (row_255 z), λ s. absurd (finite_clash f s));
}
  where
    row_0 : v ≡ 0 → ⊥
    row_0 z = omega arith

    row_255 : v ≡ 255 → ⊥
    row_255 z = omega arith

    same : (j : ℕ) → 1 ≤ j → AllFinite a × MetBefore a j × ¬ Met a j → v ≡ j
    same j b k =
        elim (dec_lt v j) [
          | yes before ↦ absurd (n (k.1 v l before))
          | no after ↦ elim (dec_lt j v) [ yes late ↦ absurd (k.2 (h j b late)) | no early ↦ omega arith ]
        ]

pub verdict_is : (a : Audited) → a.weighed.p ≤ 253 → Verdict a (verdict_of a)
verdict_is a few = way_verdict a few (verdict_of a) (way a)

-- ---- the trend bound

-- THE TREND BOUND of what passed: the rows, the exchange of two sums and the triangle inequality
rows_bound : (a : Audited) → MetBefore a (a.weighed.p + 2) → TrendBound a
rows_bound a met = record {
  bound = λ A D positive.
      within_allowance a.weighed.n a.weighed.p (λ i. units (a.weighed.weight i)) (λ i j. units (a.weighed.drift i j))
      (λ j. units (a.weighed.node_drift j)) (λ i. units (a.value i))
      (units a.figure) unit (units a.weighed.tolerance)
      (λ j l. (met (suc j) (omega arith) (omega arith)).column j l refl)
      ((met (suc a.weighed.p) (omega arith) (omega arith)).figure refl) A D;
}

way_bound : (a : Audited) (v : ℕ) → Way a v → v ≡ 0 → TrendBound a
way_bound a v (bad s z) e = absurd (clash z e)
  where
    clash : v ≡ 255 → v ≡ 0 → ⊥
    clash z e = omega arith
way_bound a v (good f met z) e = rows_bound a met
way_bound a v (miss f l m h n) e = absurd (clash l e)
  where
    clash : 1 ≤ v → v ≡ 0 → ⊥
    clash l e = omega arith

pub trend_bound : (a : Audited) → verdict_of a ≡ 0 → TrendBound a
trend_bound a = way_bound a (verdict_of a) (way a)
