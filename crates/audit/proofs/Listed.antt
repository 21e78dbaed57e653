-- An audit over lists: its tests of finite numbers and its sums, as the functions of exact and ieee answer them; and the rows in turn.
use Prim.Native.Nat.{ℕ, suc, ◌+◌, ◌-◌, ◌*◌, ◌<◌}
use native.Mathlib.Nat.{add_comm}
use native.Mathlib.Omega.{arith}
use mathlib.Core.Path.{◌≡◌, sym, ap, ap₂, ◌∙◌}
use mathlib.Core.Bool.{Bool, true, false, ◌&&◌, cond}
use mathlib.Core.List.{List, []}
use lib.Dec.{T, eqb}
use lib.IntN.{ℤ, ◌*ℤ◌}
use lib.ListN.{length}
use lib.Ieee.{Float}
use lib.Ieee.Bits.{is_true}
use lib.Ieee.Scale.{finite}
use Rattle.ieee.specs.Finite.{all_finite}
use Rattle.ieee.proofs.FiniteLists.{tests_all}
use Rattle.ieee.proofs.Zero.{holds}
use Rattle.error.specs.Tests.{all, Tells}
use Rattle.error.proofs.Tells.{affirm, each, passes}
use Rattle.exact.specs.Units.{units}
use Rattle.exact.specs.Products.{dotted}
use Rattle.exact.proofs.Sums.{sumℤ_same}
use Rattle.audit.specs.Audit.{Weighed, weighted, within, first_missed, drift_finite, finite_given, column_met}
use Rattle.audit.specs.Audit.{column_verdict_given, column_verdict, figure_met, verdict_with, verdict_of}
use Rattle.audit.specs.Lists.{number_in, entry_in, weighed_in, audited_in}

-- ---- finite lists

each_number : (xs : List Float) → Tells (all (length xs) (λ i. finite (number_in xs i))) ((i : ℕ) → i < length xs → T (finite (number_in xs i)))
each_number xs = each (length xs) (λ i. finite (number_in xs i)) (λ i. T (finite (number_in xs i))) (λ i l. passes (finite (number_in xs i)))

-- every number of a list, by its places
pub all_listed : (xs : List Float) → all (length xs) (λ i. finite (number_in xs i)) ≡ all_finite xs
all_listed xs =
    tests_all xs (all (length xs) (λ i. finite (number_in xs i)))
    (λ e i l. is_true _ ((each_number xs).then (holds _ e) i l), λ h. affirm (each_number xs) (λ i l. holds _ (h i l)))

-- ---- rows in turn: what is left of p rows once j of them are met
module _ (p : ℕ) (met : ℕ → Bool) where
  abbrev pub missed_from : ℕ → ℕ
  missed_from j = first_missed (p - j) (j + 1) met

  turn : (j : ℕ) → j < p → missed_from j ≡ cond (met (j + 1)) (missed_from (j + 1)) (j + 1)
  unfolding first_missed
  turn j l =
      let e : p - j ≡ suc (p - (j + 1)) = omega arith in
      ap (λ (k : ℕ). first_missed k (j + 1) met) e

  pub row_missed : (j : ℕ) → j < p → met (j + 1) ≡ false → missed_from j ≡ j + 1
  row_missed j l e = turn j l ∙ ap (λ (b : Bool). cond b (missed_from (j + 1)) (j + 1)) e

  pub row_passed : (j : ℕ) → j < p → met (j + 1) ≡ true → missed_from j ≡ missed_from (j + 1)
  row_passed j l e = turn j l ∙ ap (λ (b : Bool). cond b (missed_from (j + 1)) (j + 1)) e

  pub rows_end : (j : ℕ) → j ≡ p → missed_from j ≡ 0
  unfolding first_missed
  rows_end j e =
      let z : p - j ≡ 0 = omega arith in
      ap (λ (k : ℕ). first_missed k (j + 1) met) z

-- ---- an audit's rows and verdicts
module _ (weights F f0 : List Float) (t : Float) where
  abbrev w : Weighed
  w = weighed_in weights F f0 t

  -- row j + 1, of column j
  pub column_row : (j : ℕ) → within t (dotted weights F j (length f0)) (number_in f0 j) ≡ column_met w (j + 1)
  unfolding column_met weighted dotted
  column_row j =
      let e : j ≡ j + 1 - 1 = omega arith in
      ap (λ (z : ℤ). within t z (number_in f0 j)) (sumℤ_same (length weights) _ _ (λ i l.
      ap (λ (n : ℕ). units (number_in weights i) *ℤ units (number_in F n)) (add_comm j (i * length f0))))
      ∙ ap (λ (k : ℕ). within t (weighted w (λ i. entry_in F (length f0) i k)) (number_in f0 k)) e

  pub given : (b : Bool) → column_verdict_given b w ≡ cond (all_finite weights && b && all_finite f0) (missed_from (length f0) (column_met w) 0) 255
  unfolding column_verdict_given finite_given
  given b =
      let z : length f0 ≡ length f0 - 0 = omega arith in
      ap₂ (λ (x y : Bool). cond (x && b && y) (first_missed (length f0) 1 (column_met w)) 255) (all_listed weights) (all_listed f0)
      ∙ ap (λ (k : ℕ). cond (all_finite weights && b && all_finite f0) (first_missed k 1 (column_met w)) 255) z

  -- row p + 1, which reads neither F nor f0
  figure_row : (values : List Float) (figure : Float) → figure_met (audited_in w values figure) ≡ within t (dotted weights values 0 1) figure
  unfolding figure_met weighted dotted
  figure_row values figure =
      ap (λ (z : ℤ). within t z figure) (sumℤ_same (length weights) _ _ (λ i l.
      let e : i ≡ 0 + i * 1 = omega arith in
      ap (λ (n : ℕ). units (number_in weights i) *ℤ units (number_in values n)) e))

  pub joined : (v : ℕ) (values : List Float) (figure : Float)
      → verdict_with v (audited_in w values figure)
      ≡ cond (finite figure) (cond (eqb v 0) (cond (within t (dotted weights values 0 1) figure) 0 (length f0 + 1)) v) 255
  unfolding verdict_with
  joined v values figure =
      ap (λ (b : Bool). cond (finite figure) (cond (eqb v 0) (cond b 0 (length f0 + 1)) v) 255) (figure_row values figure)

-- F is not read there: whichever it is, the verdict is the same
pub unread : (weights F G f0 : List Float) (t : Float) (v : ℕ) (values : List Float) (figure : Float)
    → verdict_with v (audited_in (weighed_in weights F f0 t) values figure) ≡ verdict_with v (audited_in (weighed_in weights G f0 t) values figure)
unread weights F G f0 t v values figure = joined weights F f0 t v values figure ∙ sym (joined weights G f0 t v values figure)

-- so the scan, the columns' verdict and the figure's, each as its function answers it, are together the verdict of the audit
pub in_parts : (weights F f0 : List Float) (t : Float) (values : List Float) (figure : Float)
    → let w = weighed_in weights F f0 t in
    verdict_with (column_verdict_given (drift_finite (length weights) (length f0) (entry_in F (length f0))) w) (audited_in (weighed_in weights [] f0 t) values figure)
    ≡ verdict_of (audited_in w values figure)
unfolding verdict_of column_verdict
in_parts weights F f0 t values figure =
    unread weights [] F f0 t (column_verdict_given (drift_finite (length weights) (length f0) (entry_in F (length f0))) (weighed_in weights F f0 t)) values figure
