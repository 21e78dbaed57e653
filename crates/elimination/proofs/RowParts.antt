-- A row of a matrix beside the identity, put together: before the diagonal, from the diagonal on, and the identity's.
use Prim.Native.Nat.{ℕ, zero, suc, ◌+◌, ◌-◌, ◌*◌, ◌≤◌, ◌<◌}
use native.Mathlib.Nat.{not-suc-le-zero}
use native.Mathlib.Decide.{dec_lt, ℕ_discrete}
use native.Mathlib.Omega.{arith}
use mathlib.Core.Path.{◌≡◌, refl, ap, ◌∙◌, sym}
use mathlib.Core.Logic.{◌≢◌}
use mathlib.Core.Bool.{cond}
use mathlib.Core.List.{List}
use lib.Dec.{eqb}
use lib.ListN.{length, set}
use lib.Seq.{set-set, set_comm}
use lib.Ieee.{Float, nan}
use borrow.Author.Tests.{eq-eqb, ne_eqb}
use Rattle.area.specs.Area.{written, filled}
use Rattle.area.proofs.Places.{next, same_values}
use Rattle.area.proofs.Rows.{row_end}
use Rattle.area.proofs.Filled.{entry}
use Rattle.ieee.specs.Floats.{zero_float, one_float}
use Rattle.elimination.specs.Elimination.{at}
use Rattle.elimination.specs.Inverse.{beside_identity}
use Rattle.elimination.proofs.Rows.{fill_more}
use Rattle.elimination.proofs.Beside.{beside_left, beside_one, beside_zero}

-- a store among the places of a fill: the fill that has its value there
set_within : (start k i : ℕ) (f g : ℕ → Float) (v : Float) (xs : List Float) → i < k → v ≡ g i → ((j : ℕ) → j < k → j ≢ i → f j ≡ g j)
    → set (written start k f xs) (start + i) v ≡ written start k g xs
set_within start zero i f g v xs b e h = absurd (not-suc-le-zero b)
set_within start (suc k) i f g v xs b e h =
    elim (dec_lt i k) [
      | yes p ↦
          set_comm (written start k f xs) (start + k) (start + i) (f k) v (omega arith)
          ∙ ap (λ (ys : List Float). set ys (start + k) (f k)) (set_within start k i f g v xs p e (λ j l n. h j (omega arith) n))
          ∙ ap (λ (x : Float). set (written start k g xs) (start + k) x) (h k (omega arith) (omega arith))
      | no n ↦
          let at_it : i ≡ k = omega arith in
          ap (λ (p : ℕ). set (set (written start k f xs) (start + k) (f k)) (start + p) v) at_it
          ∙ set-set (written start k f xs) (start + k) (f k) v
          ∙ ap (λ (ys : List Float). set ys (start + k) v) (same_values start k f g xs (λ j l. h j (omega arith) (omega arith)))
          ∙ ap (λ (x : Float). set (written start k g xs) (start + k) x) (e ∙ ap g at_it)
    ]

-- zeros, and the one
pub identity_one : (start s i : ℕ) (xs ys : List Float) → i < s → ys ≡ written start s (λ _. zero_float) xs
    → set ys (start + i) one_float ≡ written start s (λ j. cond (eqb j i) one_float zero_float) xs
identity_one start s i xs ys b h =
    rw h (set_within start s i (λ _. zero_float) (λ j. cond (eqb j i) one_float zero_float) one_float xs b (rw (eq-eqb i i refl)) (λ j l n. rw (ne_eqb j i n)))

-- one turn of a loop over the columns from the i-th on
pub next_from : (start i j : ℕ) (f : ℕ → Float) (xs ys : List Float) (v : Float) → i ≤ j → v ≡ f j
    → ys ≡ written (start + i) (j - i) (λ c. f (i + c)) xs → set ys (start + j) v ≡ written (start + i) (j + 1 - i) (λ c. f (i + c)) xs
next_from start i j f xs ys v b e h =
    let at_it : start + i + (j - i) ≡ start + j = omega arith in
    let column : i + (j - i) ≡ j = omega arith in
    let more : j - i + 1 ≡ j + 1 - i = omega arith in
    ap (λ (p : ℕ). set ys p v) (sym at_it)
    ∙ next (start + i) (j - i) (λ c. f (i + c)) xs ys v (e ∙ ap f (sym column)) h
    ∙ ap (λ (n : ℕ). written (start + i) n (λ c. f (i + c)) xs) more

module _ (s : ℕ) (matrix : ℕ → ℕ → Float) (i : ℕ) where
  -- the identity's part
  beside_right : (j : ℕ) → cond (eqb j i) one_float zero_float ≡ beside_identity s matrix i (s + j)
  beside_right j =
      elim (ℕ_discrete j i) [
        | yes e ↦ rw (eq-eqb j i e) (beside_one s matrix i (s + j) (omega arith) (omega arith))
        | no n ↦ rw (ne_eqb j i n) (beside_zero s matrix i (s + j) (omega arith) (omega arith))
      ]

  -- the three parts are the row, where the rows above hold in column i what row i has to hold before the diagonal
  pub row_parts : (xs ys zs ws : List Float) → i < s → ((j : ℕ) → j < i → at (2 * s) xs j i ≡ matrix i j)
      → ys ≡ written (i * (2 * s)) i (λ j. at (2 * s) xs j i) xs
      → zs ≡ written (i * (2 * s) + i) (s - i) (λ c. matrix i (i + c)) ys
      → ws ≡ written (i * (2 * s) + s) s (λ j. cond (eqb j i) one_float zero_float) zs
      → ws ≡ written (i * (2 * s)) (2 * s) (beside_identity s matrix i) xs
  row_parts xs ys zs ws b above f g h =
      let row = i * (2 * s) in
      let all = beside_identity s matrix i in
      let first : ys ≡ written row i all xs = f ∙ same_values row i _ all xs (λ j l. beside_left s matrix i j (omega arith) (above j l)) in
      let left : zs ≡ written row s all xs =
      fill_more row i (s - i) {n = s} all _ xs ys zs (omega arith) (λ c l. beside_left s matrix i (i + c) (omega arith) refl) first g in
      fill_more row s s {n = 2 * s} all _ xs zs ws (omega arith) (λ j l. beside_right j) left h

-- where the rows before row i are filled, they hold in column i the matrix's entries
pub laid_above : (s : ℕ) (matrix : ℕ → ℕ → Float) (xs ys : List Float) (i j : ℕ) → 2 * s * s ≤ length xs → i < s → j < i
    → ys ≡ filled (2 * s) i (beside_identity s matrix) xs → at (2 * s) ys j i ≡ matrix j i
laid_above s matrix xs ys i j long b l h =
    rw h (entry (2 * s) i (beside_identity s matrix) xs j i nan (omega (arith, row_end (2 * s) i s b)) l (omega arith))
    ∙ sym (beside_left s matrix j i b refl)
