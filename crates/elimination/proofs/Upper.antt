-- A matrix that is its own transpose, laid row after row from the diagonal on and then completed.
use Prim.Native.Nat.{ℕ, zero, suc, ◌+◌, ◌-◌, ◌*◌, ◌≤◌, ◌<◌}
use native.Mathlib.Nat.{not-suc-le-zero, zero-add}
use native.Mathlib.Numerals.{add-one}
use native.Mathlib.Decide.{dec_lt}
use native.Mathlib.Omega.{arith}
use mathlib.Core.Path.{◌≡◌, ap, sym, ◌∙◌}
use mathlib.Core.Bool.{true, false, cond}
use mathlib.Core.List.{List}
use borrow.Author.Tests.{lt-ltb, le-ltb}
use lib.Dec.{eqb, ltb}
use lib.ListN.{length, get_or}
use lib.Ieee.{Float, nan}
use Rattle.area.specs.Area.{written, filled, Kept}
use Rattle.area.proofs.Places.{at_place, other_place, as_it_was, same_rest}
use Rattle.area.proofs.Rows.{row_end, apart}
use Rattle.area.proofs.Kept.{kept_same, kept_then, kept_written, kept_place}
use Rattle.area.proofs.Filled.{next_row, kept_filled, one_fill}
use Rattle.ieee.specs.Floats.{zero_float, one_float}
use Rattle.elimination.specs.Elimination.{at}
use Rattle.elimination.specs.Inverse.{beside_identity, laid}
use Rattle.elimination.specs.Rows.{across, completed}
use Rattle.elimination.proofs.Laid.{same_laid}
use Rattle.elimination.proofs.RowParts.{row_parts, laid_above}

-- ---- what stands across
module _ (s : ℕ) (work : List Float) (i j : ℕ) where
  pub before_diagonal : j < i → across s work i j ≡ at (2 * s) work j i
  before_diagonal h = rw (lt-ltb j i h)

  pub from_diagonal : i ≤ j → across s work i j ≡ at (2 * s) work i j
  from_diagonal h = rw (le-ltb j i h)

-- ---- a turn of the loop that completes it: row i, of an area whose rows above are complete
pub next_complete : (s i : ℕ) (xs ys us ws : List Float) → 2 * s * s ≤ length xs → i < s
    → ys ≡ filled (2 * s) i (beside_identity s (across s xs)) xs
    → us ≡ written (i * (2 * s)) i (λ j. at (2 * s) ys j i) ys
    → ws ≡ written (i * (2 * s) + s) s (λ j. cond (eqb j i) one_float zero_float) us
    → ws ≡ filled (2 * s) (i + 1) (beside_identity s (across s xs)) xs
next_complete s i xs ys us ws long b h f g =
    next_row (2 * s) i (beside_identity s (across s xs)) xs ys ws h
    (row_parts s (across s xs) i ys us us ws b above f (sym (as_it_was (i * (2 * s) + i) (s - i) (λ c. across s xs i (i + c)) us nan own)) g)
  where
    above : (j : ℕ) → j < i → at (2 * s) ys j i ≡ across s xs i j
    above j l =
        laid_above s (across s xs) xs ys i j long b l h
        ∙ from_diagonal s xs j i (omega arith)
        ∙ sym (before_diagonal s xs i j l)

    own : (c : ℕ) → c < s - i → across s xs i (i + c) ≡ get_or us (i * (2 * s) + i + c) nan
    own c l =
        let place : i * (2 * s) + i + c ≡ i * (2 * s) + (i + c) = omega arith in
        from_diagonal s xs i (i + c) (omega arith)
        ∙ sym
        (ap (λ (p : ℕ). get_or us p nan) place
        ∙ ap (λ (zs : List Float). get_or zs (i * (2 * s) + (i + c)) nan) f
        ∙ other_place (i * (2 * s)) i _ ys (i * (2 * s) + (i + c)) nan (λ j m. omega arith)
        ∙ ap (λ (zs : List Float). get_or zs (i * (2 * s) + (i + c)) nan) h
        ∙ kept_place (kept_filled (2 * s) i i (beside_identity s (across s xs)) xs (omega arith)) (i * (2 * s) + (i + c)) nan (omega arith))

-- where it ends, and where an area is too short for it
pub completed_all : (s : ℕ) (xs : List Float) → ltb (length xs) (2 * s * s) ≡ false → filled (2 * s) s (beside_identity s (across s xs)) xs ≡ completed s xs
unfolding completed laid
completed_all s xs h = rw h

pub completed_none : (s : ℕ) (xs : List Float) → ltb (length xs) (2 * s * s) ≡ true → xs ≡ completed s xs
unfolding completed
completed_none s xs h = rw h

-- ---- rows from the diagonal on: the first n of them, stored
abbrev pub upper : ℕ → (ℕ → ℕ → Float) → ℕ → List Float → List Float
upper s m zero xs = xs
upper s m (suc n) xs = written (n * (2 * s) + n) (s - n) (λ c. m n (n + c)) (upper s m n xs)

pub next_upper : (s : ℕ) (m : ℕ → ℕ → Float) (n : ℕ) (xs ys zs : List Float) → ys ≡ upper s m n xs
    → zs ≡ written (n * (2 * s) + n) (s - n) (λ c. m n (n + c)) ys → zs ≡ upper s m (n + 1) xs
next_upper s m n xs ys zs h g = g ∙ rw (add-one, h)

module _ (s : ℕ) (m : ℕ → ℕ → Float) (xs : List Float) where
  kept_upper : (n : ℕ) → n ≤ s → Kept (s * (2 * s)) xs (upper s m n xs)
  kept_upper zero h = kept_same (s * (2 * s)) xs
  kept_upper (suc n) h =
      kept_then (kept_upper n (omega arith))
      (kept_written (s * (2 * s)) (n * (2 * s) + n) (s - n) (λ c. m n (n + c)) (upper s m n xs) (let e = row_end (2 * s) n s h in omega arith))

  upper_at : (n i j : ℕ) → 2 * s * s ≤ length xs → n ≤ s → i < n → i ≤ j → j < s → at (2 * s) (upper s m n xs) i j ≡ m i j
  upper_at zero i j long hn hi hj b = absurd (not-suc-le-zero hi)
  upper_at (suc n) i j long hn hi hj b =
      let f : ℕ → Float = λ c. m n (n + c) in
      let l = (kept_upper n (omega arith)).len in
      let e = row_end (2 * s) n s hn in
      elim (dec_lt i n) [
        | yes p ↦
            other_place (n * (2 * s) + n) (s - n) f (upper s m n xs) (i * (2 * s) + j) nan (λ c q.
            let d = apart (2 * s) i n j (n + c) (omega arith) (omega arith) (omega arith) in
            λ x. d (omega arith))
            ∙ upper_at n i j long (omega arith) p hj b
        | no q ↦
            let same : i ≡ n = omega arith in
            let place : n * (2 * s) + j ≡ n * (2 * s) + n + (j - n) = omega arith in
            let column : n + (j - n) ≡ j = omega arith in
            rw (same, place)
            (at_place (n * (2 * s) + n) (s - n) f (upper s m n xs) (j - n) nan (omega arith) (omega arith) ∙ ap (m n) column)
      ]

  -- what completes them is the whole matrix, where it is its own transpose
  module _ (long : 2 * s * s ≤ length xs) (back : (i j : ℕ) → m i j ≡ m j i) where
    same_across : (i j : ℕ) → i < s → j < s → across s (upper s m s xs) i j ≡ m i j
    same_across i j hi hj =
        elim (dec_lt j i) [
          | yes l ↦ before_diagonal s (upper s m s xs) i j l ∙ upper_at s j i long (omega arith) hj (omega arith) hi ∙ back j i
          | no n ↦ from_diagonal s (upper s m s xs) i j (omega arith) ∙ upper_at s i j long (omega arith) hi (omega arith) hj
        ]

    -- and the rest of the area is as it was
    same_area : laid s m (upper s m s xs) ≡ laid s m xs
    unfolding laid
    same_area =
        let k = kept_upper s (omega arith) in
        one_fill (2 * s) s (beside_identity s m) (upper s m s xs)
        ∙ same_rest 0 (s * (2 * s)) _ (upper s m s xs) xs nan k.len
        (λ i h. absurd (not-suc-le-zero h))
        (λ i h. kept_place k i nan (omega (arith, zero-add (s * (2 * s)))))
        ∙ sym (one_fill (2 * s) s (beside_identity s m) xs)

    pub completed_upper : completed s (upper s m s xs) ≡ laid s m xs
    unfolding completed
    completed_upper =
        let l = (kept_upper s (omega arith)).len in
        rw (le-ltb (length (upper s m s xs)) (2 * s * s) (omega arith))
        (same_laid s (across s (upper s m s xs)) m (upper s m s xs) same_across ∙ same_area)
