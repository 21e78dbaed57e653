-- The scan of F, entry after entry: what a row more says, and what one bad entry says of them all.
use Prim.Native.Nat.{ℕ, zero, suc, ◌+◌, ◌≤◌, ◌<◌}
use native.Mathlib.Numerals.{add-one}
use native.Mathlib.Decide.{dec_lt}
use native.Mathlib.Omega.{arith}
use mathlib.Core.Path.{◌≡◌, refl, sym, ap, ap₂, ◌∙◌, subst}
use mathlib.Core.Bool.{Bool, true, false, ◌&&◌}
use mathlib.Core.List.{List}
use lib.Dec.{T}
use lib.ListN.{length, get_or-eq_default}
use lib.Ieee.{Float, nan}
use lib.Ieee.Scale.{finite}
use Rattle.error.specs.Tests.{all}
use Rattle.error.proofs.Tells.{refute, each, passes}
use Rattle.audit.specs.Audit.{drift_finite}
use Rattle.audit.specs.Lists.{number_in, entry_in}

-- ---- tests of the numbers below k

pub none_yet : (f : ℕ → Bool) → all 0 f ≡ true
unfolding all
none_yet f = refl

pub one_more : (k : ℕ) (f : ℕ → Bool) → all k f ≡ true → f k ≡ true → all (k + 1) f ≡ true
unfolding all
one_more k f h g = ap (λ (n : ℕ). all n f) (add-one k) ∙ ap₂ (λ (b c : Bool). b && c) h g

one_bad : (k : ℕ) (f : ℕ → Bool) (i : ℕ) → i < k → f i ≡ false → all k f ≡ false
one_bad k f i l e = refute (each k f (λ i. T (f i)) (λ i l. passes (f i))) (λ h. subst T e (h i l))

-- ---- F
module _ (F : List Float) (p : ℕ) where
  -- row i, as far as column j
  abbrev pub row_finite : ℕ → ℕ → Bool
  row_finite i j = all j (λ j. finite (entry_in F p i j))

  pub no_rows : drift_finite 0 p (entry_in F p) ≡ true
  unfolding drift_finite
  no_rows = none_yet (λ i. row_finite i p)

  pub one_row : (i : ℕ) → drift_finite i p (entry_in F p) ≡ true → row_finite i p ≡ true → drift_finite (i + 1) p (entry_in F p) ≡ true
  unfolding drift_finite
  one_row i h g = one_more i (λ i. row_finite i p) h g

  pub bad_entry : (n i j : ℕ) → i < n → j < p → finite (entry_in F p i j) ≡ false → drift_finite n p (entry_in F p) ≡ false
  unfolding drift_finite
  bad_entry n i j l m e = one_bad n (λ i. row_finite i p) i l (one_bad p (λ j. finite (entry_in F p i j)) j m e)

-- with no columns there is no entry
pub no_columns : (F : List Float) (n p : ℕ) → p ≡ 0 → drift_finite n p (entry_in F p) ≡ true
no_columns F n p e = ap (λ (p : ℕ). drift_finite n p (entry_in F p)) e ∙ empty n
  where
    empty : (n : ℕ) → drift_finite n 0 (entry_in F 0) ≡ true
    empty zero = no_rows F 0
    empty (suc n) = ap (λ (n : ℕ). drift_finite n 0 (entry_in F 0)) (sym (add-one n)) ∙ one_row F 0 n (empty n) (none_yet (λ j. finite (entry_in F 0 n j)))

-- past a list's end there is no number
pub finite_inside : (xs : List Float) (i : ℕ) → finite (number_in xs i) ≡ true → i < length xs
finite_inside xs i h =
    elim (dec_lt i (length xs)) [
      | yes l ↦ l
      | no l ↦ let past : length xs ≤ i = omega arith in absurd (subst T (sym h ∙ ap finite (get_or-eq_default xs nan past)) tt)
    ]
