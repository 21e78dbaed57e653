-- Laws of `written` place by place: what stands where it writes and where it does not, a store elsewhere, two fills that agree, and one fill after another.
use Prim.Native.Nat.{ℕ, zero, suc, ◌+◌, ◌-◌, ◌≤◌, ◌<◌}
use native.Mathlib.Nat.{add-zero, add-suc, add_assoc, not-suc-le-zero}
use native.Mathlib.Numerals.{add-one}
use native.Mathlib.Decide.{dec_lt}
use native.Mathlib.Omega.{arith}
use mathlib.Core.Path.{◌≡◌, refl, ap, ◌∙◌, sym}
use mathlib.Core.Logic.{◌≢◌}
use mathlib.Core.List.{List}
use lib.ListN.{length, get_or, set, take, drop}
use lib.Seq.{get_or-set_same, get_or-set_other, set-get_or, set-set, set_comm, take-set-le, drop-set-lt, ext_get_or}
use Rattle.area.specs.Area.{written}
use Rattle.area.proofs.Turns.{length-written}

-- One turn, with the value at hand: where ys is what the first k turns wrote, storing the next value gives what k + 1 turns write.
pub next : {A : Type 0} (start k : ℕ) (f : ℕ → A) (xs ys : List A) (v : A)
    → v ≡ f k → ys ≡ written start k f xs → set ys (start + k) v ≡ written start (k + 1) f xs
next start k f xs ys v e h = rw (add-one, h, e)

-- where the loop ends, its last turn's number is how many values it had to write
pub all_turns : {A : Type 0} (start : ℕ) {j k : ℕ} (f : ℕ → A) (xs : List A) {ys : List A} → j ≡ k → ys ≡ written start j f xs → ys ≡ written start k f xs
all_turns start f xs e h = h ∙ ap (λ (n : ℕ). written start n f xs) e

-- a place that is written has its value
pub at_place : {A : Type 0} (start k : ℕ) (f : ℕ → A) (xs : List A) (j : ℕ) (d : A)
    → start + j < length xs → j < k → get_or (written start k f xs) (start + j) d ≡ f j
at_place start zero f xs j d h b = absurd (not-suc-le-zero b)
at_place start (suc k) f xs j d h b =
    elim (dec_lt j k) [
      | yes p ↦
          get_or-set_other (written start k f xs) (start + k) (start + j) (f k) d (omega arith)
          ∙ at_place start k f xs j d h p
      | no n ↦
          let e : j ≡ k = omega arith in
          let l = length-written start k f xs in
          rw e (get_or-set_same (written start k f xs) (start + k) (f k) d (omega arith))
    ]

-- any other place is as it was
pub other_place : {A : Type 0} (start k : ℕ) (f : ℕ → A) (xs : List A) (i : ℕ) (d : A)
    → ((j : ℕ) → j < k → i ≢ start + j) → get_or (written start k f xs) i d ≡ get_or xs i d
other_place start zero f xs i d h = refl
other_place start (suc k) f xs i d h =
    get_or-set_other (written start k f xs) (start + k) i (f k) d (h k (omega arith))
    ∙ other_place start k f xs i d (λ j b. h j (omega arith))

-- what lies past the end, and before the start
pub drop_written : {A : Type 0} (start k : ℕ) (f : ℕ → A) (xs : List A) (n : ℕ) → start + k ≤ n → drop n (written start k f xs) ≡ drop n xs
drop_written start zero f xs n h = refl
drop_written start (suc k) f xs n h =
    drop-set-lt n (written start k f xs) (start + k) (f k) (omega arith) ∙ drop_written start k f xs n (omega arith)

pub take_written : {A : Type 0} (start k : ℕ) (f : ℕ → A) (xs : List A) (n : ℕ) → n ≤ start → take n (written start k f xs) ≡ take n xs
take_written start zero f xs n h = refl
take_written start (suc k) f xs n h =
    take-set-le n (written start k f xs) (start + k) (f k) (omega arith) ∙ take_written start k f xs n h

-- a store at another place may come first
pub set_written : {A : Type 0} (start k : ℕ) (f : ℕ → A) (xs : List A) (i : ℕ) (v : A)
    → ((j : ℕ) → j < k → i ≢ start + j) → set (written start k f xs) i v ≡ written start k f (set xs i v)
set_written start zero f xs i v h = refl
set_written {A} start (suc k) f xs i v h =
    set_comm (written start k f xs) (start + k) i (f k) v (λ e. h k (omega arith) (sym e))
    ∙ ap (λ (ys : List A). set ys (start + k) (f k)) (set_written start k f xs i v (λ j b. h j (omega arith)))

-- two fills apart from each other come in either order
pub written_comm : {A : Type 0} (start k : ℕ) (f : ℕ → A) (other n : ℕ) (g : ℕ → A) (xs : List A)
    → ((j i : ℕ) → j < k → i < n → other + i ≢ start + j)
    → written other n g (written start k f xs) ≡ written start k f (written other n g xs)
written_comm start k f other zero g xs h = refl
written_comm {A} start k f other (suc n) g xs h =
    ap (λ (ys : List A). set ys (other + n) (g n)) (written_comm start k f other n g xs (λ j i b c. h j i b (omega arith)))
    ∙ set_written start k f (written other n g xs) (other + n) (g n) (λ j b. h j n b (omega arith))

-- fills with the same values are the same
pub same_values : {A : Type 0} (start k : ℕ) (f g : ℕ → A) (xs : List A)
    → ((j : ℕ) → j < k → f j ≡ g j) → written start k f xs ≡ written start k g xs
same_values start zero f g xs h = refl
same_values {A} start (suc k) f g xs h =
    ap (λ (v : A). set (written start k f xs) (start + k) v) (h k (omega arith))
    ∙ ap (λ (ys : List A). set ys (start + k) (g k)) (same_values start k f g xs (λ j b. h j (omega arith)))

-- to write what is there changes nothing
pub as_it_was : {A : Type 0} (start k : ℕ) (f : ℕ → A) (xs : List A) (d : A)
    → ((j : ℕ) → j < k → f j ≡ get_or xs (start + j) d) → written start k f xs ≡ xs
as_it_was start zero f xs d h = refl
as_it_was {A} start (suc k) f xs d h =
    ap (λ (ys : List A). set ys (start + k) (f k)) (as_it_was start k f xs d (λ j b. h j (omega arith)))
    ∙ ap (λ (v : A). set xs (start + k) v) (h k (omega arith))
    ∙ set-get_or xs (start + k) d

-- a fill over a fill of the same places: the later one counts
pub written_over : {A : Type 0} (start k : ℕ) (f g : ℕ → A) (xs : List A) → written start k g (written start k f xs) ≡ written start k g xs
written_over start zero f g xs = refl
written_over {A} start (suc k) f g xs =
    ap (λ (ys : List A). set ys (start + k) (g k)) (sym (set_written start k g (written start k f xs) (start + k) (f k) (λ j b. omega arith)))
    ∙ set-set (written start k g (written start k f xs)) (start + k) (f k) (g k)
    ∙ ap (λ (ys : List A). set ys (start + k) (g k)) (written_over start k f g xs)

-- a fill in two parts
pub written_add : {A : Type 0} (start k m : ℕ) (f : ℕ → A) (xs : List A)
    → written start (k + m) f xs ≡ written (start + k) m (λ j. f (k + j)) (written start k f xs)
written_add start k zero f xs = ap (λ (n : ℕ). written start n f xs) (add-zero k)
written_add {A} start k (suc m) f xs =
    ap (λ (n : ℕ). written start n f xs) (add-suc k m)
    ∙ ap (λ (p : ℕ). set (written start (k + m) f xs) p (f (k + m))) (sym (add_assoc start k m))
    ∙ ap (λ (ys : List A). set ys (start + k + m) (f (k + m))) (written_add start k m f xs)

-- two areas that agree but where the fill writes are the same after it
pub same_rest : {A : Type 0} (start k : ℕ) (f : ℕ → A) (xs ys : List A) (d : A) → length xs ≡ length ys
    → ((i : ℕ) → i < start → get_or xs i d ≡ get_or ys i d) → ((i : ℕ) → start + k ≤ i → get_or xs i d ≡ get_or ys i d)
    → written start k f xs ≡ written start k f ys
same_rest start k f xs ys d l before past =
    let lx = length-written start k f xs in
    let ly = length-written start k f ys in
    ext_get_or d (written start k f xs) (written start k f ys) (lx ∙ l ∙ sym ly) (λ i b.
    elim (dec_lt i start) [
      | yes p ↦
          other_place start k f xs i d (λ j c. omega arith) ∙ before i p ∙ sym (other_place start k f ys i d (λ j c. omega arith))
      | no n ↦
          elim (dec_lt i (start + k)) [
            | yes q ↦
                let e : start + (i - start) ≡ i = omega arith in
                rw (← e) (at_place start k f xs (i - start) d (omega arith) (omega arith)
                ∙ sym (at_place start k f ys (i - start) d (omega arith) (omega arith)))
            | no q ↦
                other_place start k f xs i d (λ j c. omega arith) ∙ past i (omega arith) ∙ sym (other_place start k f ys i d (λ j c. omega arith))
          ]
    ])
