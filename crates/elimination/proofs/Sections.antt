-- A part of an area that is written by itself and put back: the area is written there.
use Prim.Native.Nat.{ℕ, zero, suc, ◌+◌, ◌-◌, ◌≤◌, ◌<◌}
use native.Mathlib.Omega.{arith}
use mathlib.Core.Path.{◌≡◌, refl, ap, ◌∙◌, sym}
use mathlib.Core.List.{List, ◌++◌}
use lib.ListN.{length, get_or, set, take, drop, length-drop}
use lib.Seq.{length-take-le, get_or-take, get_or-drop, set-append_left, ext_get_or}
use borrow.Rule.Slice.PartMut.{mid_of, post_of, put_mid, put_same}
use Rattle.std.proofs.lemmas.List.{set-append_right}
use Rattle.area.specs.Area.{written}
use Rattle.area.proofs.Turns.{length-written, get_d_past}
use Rattle.area.proofs.Start.{next_start, from_start}

-- written before other numbers, and after others
pub written_before : {A : Type 0} (start k : ℕ) (f : ℕ → A) (xs ys : List A) → start + k ≤ length xs
    → written start k f xs ++ ys ≡ written start k f (xs ++ ys)
written_before start zero f xs ys h = refl
written_before {A} start (suc k) f xs ys h =
    let l = length-written start k f xs in
    sym (set-append_left (written start k f xs) ys (start + k) (f k) (omega arith))
    ∙ ap (λ (zs : List A). set zs (start + k) (f k)) (written_before start k f xs ys (omega arith))

pub written_after : {A : Type 0} (n k : ℕ) (f : ℕ → A) (xs ys : List A) → length xs ≡ n → xs ++ written 0 k f ys ≡ written n k f (xs ++ ys)
written_after n zero f xs ys e = refl
written_after {A} n (suc k) f xs ys e =
    let at_it : 0 + k ≡ n + k - n = omega arith in
    ap (λ (p : ℕ). xs ++ set (written 0 k f ys) p (f k)) at_it
    ∙ sym (set-append_right xs (written 0 k f ys) n (n + k) (f k) e (omega arith))
    ∙ ap (λ (zs : List A). set zs (n + k) (f k)) (written_after n k f xs ys e)

-- n numbers of an area from place a on: how many they are
pub part_long : {A : Type 0} (a n : ℕ) (xs : List A) → a + n ≤ length xs → length (mid_of a n xs) ≡ n
part_long a n xs h = let left = length-drop a xs in length-take-le n (drop a xs) (omega arith)

-- one turn of a loop that makes each anew from what it was
pub part_turn : {A : Type 0} (a n k : ℕ) (g : A → A) (xs ys : List A) (d : A) → k < n → ys ≡ written 0 k (λ j. g (get_or xs (a + j) d)) (mid_of a n xs)
    → set ys k (g (get_or ys k d)) ≡ written 0 (k + 1) (λ j. g (get_or xs (a + j) d)) (mid_of a n xs)
part_turn {A} a n k g xs ys d b h =
    let f : ℕ → A = λ j. g (get_or xs (a + j) d) in
    let as_it_was : get_or ys k d ≡ get_or xs (a + k) d =
    rw h (get_d_past 0 k f (mid_of a n xs) k d (omega arith)) ∙ get_or-take n (drop a xs) k d b ∙ get_or-drop a xs k d in
    next_start k f (mid_of a n xs) ys (g (get_or ys k d)) (ap g as_it_was) h

-- with k of them written, the area with these written
pub part_written : {A : Type 0} (a n k : ℕ) (f : ℕ → A) (xs ys : List A) → k ≤ n → a + n ≤ length xs → ys ≡ written 0 k f (mid_of a n xs)
    → put_mid a n xs ys ≡ written a k f xs
part_written {A} a n k f xs ys l h e =
    let long = part_long a n xs h in
    ap (put_mid a n xs) e
    ∙ ap (λ (zs : List A). take a xs ++ zs) (written_before 0 k f (mid_of a n xs) (post_of a n xs) (omega arith))
    ∙ written_after a k f (take a xs) (mid_of a n xs ++ post_of a n xs) (length-take-le a xs (omega arith))
    ∙ ap (written a k f) (put_same a n xs)

-- all n put back, whatever made them
pub part_filled : {A : Type 0} (a n k : ℕ) (f : ℕ → A) (xs ys : List A) (d : A) → n ≡ k → a + n ≤ length xs → length ys ≡ n
    → ((j : ℕ) → j < k → get_or ys j d ≡ f j) → put_mid a n xs ys ≡ written a k f xs
part_filled {A} a n k f xs ys d m h e is =
    let long = part_long a n xs h in
    let l = length-written 0 k f (mid_of a n xs) in
    let all : ys ≡ written 0 k f (mid_of a n xs) =
    ext_get_or d ys (written 0 k f (mid_of a n xs)) (omega arith) (λ j b. is j (omega arith) ∙ sym (from_start k f (mid_of a n xs) j d (omega arith) (omega arith))) in
    part_written a n k f xs ys (omega arith) h all
