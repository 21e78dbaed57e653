-- The drift functions of the system, at the wells and at the nodes, are the drift columns of the fit: there are p of them, and row i of F and f0 hold their
-- values.
use Prim.Native.Nat.{ℕ, suc, ◌+◌}
use native.Mathlib.Nat.{add-zero}
use native.Mathlib.Numerals.{add-one}
use mathlib.Core.Path.{◌≡◌, refl, ap, ap₂, sym, ◌∙◌}
use mathlib.Core.Bool.{Bool, true, false, cond}
use mathlib.Core.List.{List, [], ◌∷◌, ◌++◌, map, map-append}
use lib.Dec.{eqb}
use lib.ListN.{length, get_or, length-append, length-map}
use lib.Ieee.{Float, nan}
use Rattle.system_theory.specs.Drift.{Place, Monomial, value_of}
use Rattle.system_theory.specs.System.{size as equations, drift_at}
use Rattle.survey.specs.Survey.{Survey, code_columns, column_sum, columns, wells, size}
use Rattle.kriging_theory.specs.Drift.{block, drift_row, well_row, node_row, drift}
use Rattle.kriging_theory.specs.System.{well_place, node_place, basis, monomials, system_of}

-- ---- as many columns as the codes say
length-cond : {A : Type 0} (b : Bool) (xs ys : List A) (m n : ℕ) → length xs ≡ m → length ys ≡ n → length (cond b xs ys) ≡ cond b m n
length-cond true xs ys m n h k = h
length-cond false xs ys m n h k = k

pub block_length : (c : ℕ) (x y e : Float) → length (block c x y e) ≡ code_columns c
block_length c x y e =
    length-cond (eqb c 1) _ _ _ _ refl
    (length-cond (eqb c 2) _ _ _ _ refl (length-cond (eqb c 3) _ _ _ _ refl (length-cond (eqb c 4) _ _ _ _ refl refl)))

pub row_length : (cs : List ℕ) (x y : Float) (external : ℕ → Float) (used : ℕ) → length (drift_row cs x y external used) ≡ column_sum cs
row_length [] x y external used = refl
row_length (c ∷ cs) x y external used =
    length-append (block c x y (external used)) _
    ∙ ap₂ (λ (m n : ℕ). m + n) (block_length c x y (external used)) (row_length cs x y external (used + cond (eqb c 4) 1 0))

pub well_row_length : (s : Survey) (i : ℕ) → length (well_row s i) ≡ columns s
well_row_length s i = row_length s.bases _ _ _ 0

pub node_row_length : (s : Survey) (q : ℕ) → length (node_row s q) ≡ columns s
node_row_length s q = row_length s.bases _ _ _ 0

-- ---- and their values
module _ (a : Place) where
  values : List Monomial → List Float
  values ms = map (λ m. value_of m a) ms

  values_cond : (b : Bool) (ms ns : List Monomial) (xs ys : List Float) → values ms ≡ xs → values ns ≡ ys → values (cond b ms ns) ≡ cond b xs ys
  values_cond true ms ns xs ys h k = h
  values_cond false ms ns xs ys h k = k

  basis_values : (used c : ℕ) → values (basis used c) ≡ block c (a.axis 0) (a.axis 1) (a.external used)
  unfolding values basis value_of
  basis_values used c =
      values_cond (eqb c 1) _ _ _ _ refl
      (values_cond (eqb c 2) _ _ _ _ refl (values_cond (eqb c 3) _ _ _ _ refl (values_cond (eqb c 4) _ _ _ _ refl refl)))

  used_next : (b : Bool) (used : ℕ) → cond b (suc used) used ≡ used + cond b 1 0
  used_next true used = sym (add-one used)
  used_next false used = sym (add-zero used)

  row_values : (cs : List ℕ) (used : ℕ) → values (monomials used cs) ≡ drift_row cs (a.axis 0) (a.axis 1) a.external used
  unfolding values monomials
  row_values [] used = refl
  row_values (c ∷ cs) used =
      map-append (λ (m : Monomial). value_of m a) (basis used c) _
      ∙ ap₂ (λ (xs ys : List Float). xs ++ ys) (basis_values used c)
      (row_values cs (cond (eqb c 4) (suc used) used) ∙ ap (λ (u : ℕ). drift_row cs (a.axis 0) (a.axis 1) a.external u) (used_next (eqb c 4) used))

  drift_at_lem : (s : Survey) (l : ℕ) → drift_at (system_of s) l a ≡ get_or (drift_row s.bases (a.axis 0) (a.axis 1) a.external 0) l nan
  unfolding drift_at values
  drift_at_lem s l = ap (λ (xs : List Float). get_or xs l nan) (row_values s.bases 0)

-- "p is their sum": there are p drift functions
pub drift_count : (s : Survey) → length (monomials 0 s.bases) ≡ columns s
unfolding values
drift_count s =
    let a = well_place s 0 in
    sym (length-map (monomials 0 s.bases) (λ m. value_of m a)) ∙ ap length (row_values a s.bases 0) ∙ row_length s.bases _ _ _ 0

-- and so a row of the matrix for each equation
pub rows_are : (s : Survey) → size s ≡ equations (system_of s)
rows_are s = ap (λ (p : ℕ). wells s + p) (sym (drift_count s))

-- F_il is f_l at well i
pub drift_well : (s : Survey) (i l : ℕ) → drift s i l ≡ drift_at (system_of s) l (well_place s i)
drift_well s i l = sym (drift_at_lem (well_place s i) s l)

-- f0_l is f_l at the node
pub drift_node : (s : Survey) (q l : ℕ) → get_or (node_row s q) l nan ≡ drift_at (system_of s) l (node_place s q)
drift_node s q l = sym (drift_at_lem (node_place s q) s l)
