-- One turn of each loop over a row: what the loop has written so far, with its next store, is what one turn more writes.
use Prim.Native.Nat.{ℕ, ◌+◌, ◌*◌, ◌<◌, ◌≤◌}
use native.Mathlib.Nat.{add_assoc}
use native.Mathlib.Omega.{arith}
use mathlib.Core.Path.{◌≡◌, refl, ap, ◌∙◌, sym}
use mathlib.Core.Logic.{◌≢◌}
use mathlib.Core.List.{List}
use lib.ListN.{get_or, set}
use lib.Ieee.{Float, nan, binary64, sub, mul}
use Rattle.area.specs.Area.{written}
use Rattle.area.proofs.Turns.{get_d_past}
use Rattle.area.proofs.Places.{next, other_place, same_values, written_add}
use Rattle.area.proofs.Rows.{apart, row_end}
use Rattle.elimination.specs.Elimination.{at, reduced}
use Rattle.elimination.specs.Parts.{lessened}

-- row r of s rows of 2s lies inside an area that holds them all
pub row_inside : (s r n : ℕ) → r < s → 2 * s * s ≤ n → r * (2 * s) + 2 * s ≤ n
row_inside s r n h k = omega (arith, row_end (2 * s) r s h)

-- a fill, and m numbers more
pub fill_more : (start k m : ℕ) {n : ℕ} (f g : ℕ → Float) (xs ys zs : List Float) → k + m ≡ n → ((c : ℕ) → c < m → g c ≡ f (k + c))
    → ys ≡ written start k f xs → zs ≡ written (start + k) m g ys → zs ≡ written start n f xs
fill_more start k m f g xs ys zs e same h i =
    i
    ∙ same_values (start + k) m g (λ c. f (k + c)) ys same
    ∙ ap (λ (us : List Float). written (start + k) m (λ c. f (k + c)) us) h
    ∙ sym (written_add start k m f xs)
    ∙ ap (λ (n : ℕ). written start n f xs) e

-- ---- a row cleared part by part
module _ (w i k : ℕ) (factor : Float) (xs : List Float) where
  -- m numbers more: what they are made of is as it was
  pub lessened_more : (j m : ℕ) (ys zs : List Float) → i ≢ k → j + m ≤ w
      → ys ≡ lessened j (i * w) (k * w) factor xs → zs ≡ lessened m (i * w + j) (k * w + j) factor ys
      → zs ≡ lessened (j + m) (i * w) (k * w) factor xs
  unfolding lessened
  lessened_more j m ys zs n b h g =
      let f : ℕ → Float = λ c. sub binary64 (at w xs k c) (mul binary64 factor (at w xs i c)) in
      let own : (c : ℕ) → c < m → get_or ys (k * w + j + c) nan ≡ at w xs k (j + c) = λ c l.
      rw (h, add_assoc (k * w) j c) (get_d_past (k * w) j f xs (k * w + (j + c)) nan (omega arith)) in
      let other : (c : ℕ) → c < m → get_or ys (i * w + j + c) nan ≡ at w xs i (j + c) = λ c l.
      rw (h, add_assoc (i * w) j c) (other_place (k * w) j f xs (i * w + (j + c)) nan (λ a d. apart w i k (j + c) a n (omega arith) (omega arith))) in
      fill_more (k * w) j m f _ xs ys zs refl (λ c l. rw (own c l, other c l)) h g

  -- so many numbers by another name
  pub lessened_as : {m n : ℕ} {ys : List Float} → m ≡ n → ys ≡ lessened m (i * w) (k * w) factor xs → ys ≡ lessened n (i * w) (k * w) factor xs
  lessened_as e h = h ∙ ap (λ (n : ℕ). lessened n (i * w) (k * w) factor xs) e

  -- all of the row
  pub lessened_row : {n : ℕ} {ys : List Float} → n ≡ w → ys ≡ lessened n (i * w) (k * w) factor xs → ys ≡ reduced w i k factor xs
  unfolding lessened reduced
  lessened_row e h = lessened_as e h

-- what the rows above row i hold in column i is as it was
pub mirror_turn : (w i j : ℕ) (xs ys : List Float) → j < i → i < w → ys ≡ written (i * w) j (λ c. at w xs c i) xs
    → set ys (i * w + j) (at w ys j i) ≡ written (i * w) (j + 1) (λ c. at w xs c i) xs
mirror_turn w i j xs ys b l h =
    let f : ℕ → Float = λ c. at w xs c i in
    next (i * w) j f xs ys (at w ys j i) (rw h (other_place (i * w) j f xs (j * w + i) nan (λ a c. apart w j i i a (omega arith) l (omega arith)))) h
