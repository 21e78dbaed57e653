-- Laws of `filled`, for loops that store a matrix row after row: a turn of the outer loop, what stands at each place, and the same as one fill.
use Prim.Native.Nat.{ℕ, zero, suc, ◌+◌, ◌*◌, ◌/◌, ◌%◌, ◌≤◌, ◌<◌}
use native.Mathlib.Nat.{not-suc-le-zero, suc-mul, zero-mul, zero-add}
use native.Mathlib.Numerals.{add-one}
use native.Mathlib.Decide.{dec_lt}
use native.Mathlib.Omega.{arith}
use mathlib.Core.Path.{◌≡◌, refl, ap, ◌∙◌, sym}
use mathlib.Core.List.{List}
use lib.Arith.{digits_div, digits_mod}
use lib.ListN.{length, get_or}
use Rattle.area.specs.Area.{written, filled, Kept}
use Rattle.area.proofs.Places.{at_place, other_place, same_values, written_add}
use Rattle.area.proofs.Rows.{row_end, apart}
use Rattle.area.proofs.Kept.{kept_same, kept_then, kept_written}

-- One row more: where ys is what the first n rows' turns wrote, and zs what the next row's wrote into it.
pub next_row : {A : Type 0} (w n : ℕ) (f : ℕ → ℕ → A) (xs ys zs : List A)
    → ys ≡ filled w n f xs → zs ≡ written (n * w) w (f n) ys → zs ≡ filled w (n + 1) f xs
next_row {A} w n f xs ys zs h g = g ∙ rw (add-one, h)

-- the rows before the n-th are all that is written
pub kept_filled : {A : Type 0} (w n s : ℕ) (f : ℕ → ℕ → A) (xs : List A) → n ≤ s → Kept (s * w) xs (filled w n f xs)
kept_filled w zero s f xs h = kept_same (s * w) xs
kept_filled w (suc n) s f xs h =
    kept_then (kept_filled w n s f xs (omega arith)) (kept_written (s * w) (n * w) w (f n) (filled w n f xs) (row_end w n s h))

pub length-filled : {A : Type 0} (w n : ℕ) (f : ℕ → ℕ → A) (xs : List A) → length (filled w n f xs) ≡ length xs
length-filled w n f xs = (kept_filled w n n f xs (omega arith)).len

-- the entry in row r and column c is its value
pub entry : {A : Type 0} (w n : ℕ) (f : ℕ → ℕ → A) (xs : List A) (r c : ℕ) (d : A)
    → n * w ≤ length xs → r < n → c < w → get_or (filled w n f xs) (r * w + c) d ≡ f r c
entry w zero f xs r c d h br bc = absurd (not-suc-le-zero br)
entry w (suc n) f xs r c d h br bc =
    let l = length-filled w n f xs in
    elim (dec_lt r n) [
      | yes p ↦
          other_place (n * w) w (f n) (filled w n f xs) (r * w + c) d (λ j b. apart w r n c j (omega arith) bc b)
          ∙ entry w n f xs r c d (omega (arith, suc-mul n w)) p bc
      | no m ↦
          let e : r ≡ n = omega arith in
          rw e (at_place (n * w) w (f n) (filled w n f xs) c d (omega (arith, suc-mul n w)) bc)
    ]

-- fills with the same entries are the same
pub same_entries : {A : Type 0} (w n : ℕ) (f g : ℕ → ℕ → A) (xs : List A)
    → ((r c : ℕ) → r < n → c < w → f r c ≡ g r c) → filled w n f xs ≡ filled w n g xs
same_entries w zero f g xs h = refl
same_entries {A} w (suc n) f g xs h =
    same_values (n * w) w (f n) (g n) (filled w n f xs) (λ c b. h n c (omega arith) b)
    ∙ ap (λ (ys : List A). written (n * w) w (g n) ys) (same_entries w n f g xs (λ r c br bc. h r c (omega arith) bc))

-- row after row is place after place
pub one_fill : {A : Type 0} (w n : ℕ) (f : ℕ → ℕ → A) (xs : List A) → filled w n f xs ≡ written 0 (n * w) (λ p. f (p / w) (p % w)) xs
one_fill w zero f xs = ap (λ (k : ℕ). written 0 k (λ p. f (p / w) (p % w)) xs) (sym (zero-mul w))
one_fill {A} w (suc n) f xs =
    let g : ℕ → A = λ p. f (p / w) (p % w) in
    let ys : List A = written 0 (n * w) g xs in
    let column : (j : ℕ) → j < w → g (n * w + j) ≡ f n j = λ j b.
    ap (λ (r : ℕ). f r ((n * w + j) % w)) (digits_div n b) ∙ ap (f n) (digits_mod n b) in
    ap (written (n * w) w (f n)) (one_fill w n f xs)
    ∙ sym
    (ap (λ (k : ℕ). written 0 k g xs) (suc-mul n w)
    ∙ written_add 0 (n * w) w g xs
    ∙ ap (λ (p : ℕ). written p w (λ j. g (n * w + j)) ys) (zero-add (n * w))
    ∙ same_values (n * w) w (λ j. g (n * w + j)) (f n) ys column)
