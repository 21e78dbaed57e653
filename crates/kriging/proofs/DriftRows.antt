-- Laws of the drift columns as they are stored: the columns of one code, and a row of them code after code.
use Prim.Native.Nat.{ℕ, ◌+◌, ◌*◌, ◌<◌}
use native.Mathlib.Numerals.{add-one}
use native.Mathlib.Omega.{arith}
use mathlib.Core.Path.{◌≡◌, ap, sym, ◌∙◌}
use mathlib.Core.Bool.{cond}
use mathlib.Core.List.{List, ◌∷◌, ◌++◌}
use lib.Dec.{eqb}
use lib.ListN.{length, get_or, drop, get_or-append}
use lib.Seq.{drop-cons, get_or-append-add}
use lib.Ieee.{Float, nan}
use Rattle.area.specs.Area.{written}
use Rattle.area.proofs.Turns.{length-written}
use Rattle.area.proofs.Places.{same_values, written_add}
use Rattle.survey.specs.Survey.{code_columns, column_sum, external_count}
use Rattle.kriging_theory.specs.Drift.{block, drift_row}
use Rattle.kriging_theory.proofs.SystemDrift.{block_length}

-- a row after the columns of the code c are stored from `col` on
abbrev pub coded : ℕ → Float → Float → Float → ℕ → List Float → List Float
coded c x y e col row = written col (code_columns c) (λ j. get_or (block c x y e) j nan) row

pub length-coded : (c : ℕ) (x y e : Float) (col : ℕ) (row : List Float) → length (coded c x y e col row) ≡ length row
length-coded c x y e col row = length-written col (code_columns c) (λ j. get_or (block c x y e) j nan) row

-- the external values of a place, by their column
abbrev pub values : List Float → ℕ → ℕ → ℕ → Float
values external first step c = get_or external (first + c * step) nan

-- ---- a row: the columns of every code, from `col` on, where `used` external columns are taken already

abbrev pub rowed : List ℕ → Float → Float → (ℕ → Float) → ℕ → ℕ → List Float → List Float
rowed cs x y external used col row = written col (column_sum cs) (λ j. get_or (drift_row cs x y external used) j nan) row

-- the first code's columns, and then the others'
pub rowed_cons : (c : ℕ) (cs : List ℕ) (x y : Float) (external : ℕ → Float) (used col : ℕ) (row next : List Float)
    → next ≡ coded c x y (external used) col row
    → rowed (c ∷ cs) x y external used col row ≡ rowed cs x y external (used + cond (eqb c 4) 1 0) (col + code_columns c) next
rowed_cons c cs x y external used col row next h =
    let b : List Float = block c x y (external used) in
    let r : List Float = drift_row cs x y external (used + cond (eqb c 4) 1 0) in
    let n : ℕ = code_columns c in
    let l : length b ≡ n = block_length c x y (external used) in
    written_add col n (column_sum cs) (λ j. get_or (b ++ r) j nan) row
    ∙ same_values (col + n) (column_sum cs) (λ j. get_or (b ++ r) (n + j) nan) (λ j. get_or r j nan) (written col n (λ j. get_or (b ++ r) j nan) row)
    (λ j k. ap (λ (m : ℕ). get_or (b ++ r) (m + j) nan) (sym l) ∙ get_or-append-add b r j nan)
    ∙ ap (λ (ys : List Float). written (col + n) (column_sum cs) (λ j. get_or r j nan) ys)
    (same_values col n (λ j. get_or (b ++ r) j nan) (λ j. get_or b j nan) row (λ j k. get_or-append b r nan j (omega arith)) ∙ sym h)

-- ---- the same, by the place of the code in the list

-- the codes from place i on
from_place : (bases : List ℕ) (i : ℕ) → i < length bases → drop i bases ≡ get_or bases i 0 ∷ drop (i + 1) bases
from_place bases i h = rw (add-one, drop-cons bases i 0)

pub columns_from : (bases : List ℕ) (i : ℕ) → i < length bases
    → column_sum (drop i bases) ≡ code_columns (get_or bases i 0) + column_sum (drop (i + 1) bases)
columns_from bases i h = ap column_sum (from_place bases i h)

pub externals_from : (bases : List ℕ) (i : ℕ) → i < length bases
    → external_count (drop i bases) ≡ cond (eqb (get_or bases i 0) 4) 1 0 + external_count (drop (i + 1) bases)
externals_from bases i h = ap external_count (from_place bases i h)

pub rowed_from : (bases : List ℕ) (i : ℕ) → i < length bases
    → (x y : Float) (external : ℕ → Float) (used col : ℕ) (row next : List Float)
    → next ≡ coded (get_or bases i 0) x y (external used) col row
    → rowed (drop i bases) x y external used col row
    ≡ rowed (drop (i + 1) bases) x y external (used + cond (eqb (get_or bases i 0) 4) 1 0) (col + code_columns (get_or bases i 0)) next
rowed_from bases i h x y external used col row next e =
    ap (λ (cs : List ℕ). rowed cs x y external used col row) (from_place bases i h)
    ∙ rowed_cons (get_or bases i 0) (drop (i + 1) bases) x y external used col row next e
