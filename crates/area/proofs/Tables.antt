-- Laws of `table` and of two lists joined, place by place.
use Prim.Native.Nat.{ℕ, zero, suc, ◌+◌, ◌≤◌, ◌<◌}
use native.Mathlib.Nat.{not-suc-le-zero}
use native.Mathlib.Numerals.{add-one}
use native.Mathlib.Decide.{dec_lt}
use native.Mathlib.Omega.{arith}
use mathlib.Core.Path.{◌≡◌, refl, ap, ap₂, sym, ◌∙◌}
use mathlib.Core.List.{List, [], ◌∷◌, ◌++◌}
use lib.ListN.{length, get_or, take, length-append, get_or-append}
use lib.Seq.{get_or-append-add, get_or_at, get_or-take, length-take-le, ext_get_or}
use Rattle.area.specs.Area.{written, table}
use Rattle.area.proofs.Turns.{length-written}
use Rattle.area.proofs.Start.{from_start}

pub table_length : {A : Type 0} (k : ℕ) (f : ℕ → A) → length (table k f) ≡ k
table_length zero f = refl
table_length (suc k) f = length-append (table k f) (f k ∷ []) ∙ ap (λ (n : ℕ). n + 1) (table_length k f) ∙ add-one k

pub table_at : {A : Type 0} (k : ℕ) (f : ℕ → A) (i : ℕ) (d : A) → i < k → get_or (table k f) i d ≡ f i
table_at zero f i d h = absurd (not-suc-le-zero h)
table_at {A} (suc k) f i d h =
    elim (dec_lt i k) [
      | yes p ↦ get_or-append (table k f) (f k ∷ []) d i (let e = table_length k f in omega arith) ∙ table_at k f i d p
      | no n ↦ let e : i ≡ k = omega arith in rw e (get_or_at (table k f) (f k) [] d k (table_length k f))
    ]

-- a table before a list: its own places, and those past it
pub joined_at : {A : Type 0} (k : ℕ) (f : ℕ → A) (ys : List A) (i : ℕ) (d : A) → i < k → get_or (table k f ++ ys) i d ≡ f i
joined_at k f ys i d h = get_or-append (table k f) ys d i (let e = table_length k f in omega arith) ∙ table_at k f i d h

pub joined_past : {A : Type 0} (k : ℕ) (f : ℕ → A) (ys : List A) (l : ℕ) (d : A) → get_or (table k f ++ ys) (k + l) d ≡ get_or ys l d
joined_past {A} k f ys l d =
    ap (λ (n : ℕ). get_or (table k f ++ ys) (n + l) d) (sym (table_length k f)) ∙ get_or-append-add (table k f) ys l d

-- tables of the same values are the same
pub same_table : {A : Type 0} (k : ℕ) (f g : ℕ → A) → ((i : ℕ) → i < k → f i ≡ g i) → table k f ≡ table k g
same_table zero f g h = refl
same_table {A} (suc k) f g h =
    ap₂ (λ (xs : List A) (x : A). xs ++ (x ∷ [])) (same_table k f g (λ i b. h i (omega arith))) (h k (omega arith))

-- what a fill from the first place on wrote is the table of its values
pub take_start : {A : Type 0} (k : ℕ) (f : ℕ → A) (xs : List A) (d : A) → k ≤ length xs → take k (written 0 k f xs) ≡ table k f
take_start k f xs d long =
    let inside : k ≤ length (written 0 k f xs) = omega (arith, length-written 0 k f xs) in
    let len = length-take-le k (written 0 k f xs) inside in
    ext_get_or
    d
    (take k (written 0 k f xs))
    (table k f)
    (len ∙ sym (table_length k f))
    (λ i b. let h : i < k = omega (arith, len) in get_or-take k (written 0 k f xs) i d h ∙ from_start k f xs i d long h ∙ sym (table_at k f i d h))
