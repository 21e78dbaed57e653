-- A fill from the first place on, and a list that is copied there: the values, and then what was there.
use Prim.Native.Nat.{ℕ, zero, suc, ◌+◌, ◌≤◌, ◌<◌}
use native.Mathlib.Nat.{zero-add, add-zero, add-suc}
use native.Mathlib.Omega.{arith}
use mathlib.Core.Path.{◌≡◌, ap, ap₂, sym, ◌∙◌}
use mathlib.Core.List.{List, ◌∷◌, ◌++◌, map}
use Rattle.std.proofs.Common.{append_assoc}
use Rattle.std.proofs.lemmas.List.{take-append-drop}
use lib.ListN.{length, get_or, set, take, drop, length-map, length-append, get_or-map}
use lib.Seq.{take-suc, drop-cons, append_snoc, set_at, length-take-le, take-length, take-append_seam, drop-append_seam, get_or-take, ext_get_or}
use Rattle.area.specs.Area.{written, copied, Kept}
use Rattle.area.proofs.Turns.{length-written}
use Rattle.area.proofs.Places.{next, at_place}
use Rattle.area.proofs.Kept.{kept_written}

-- one turn of a loop that fills from the first place on
pub next_start : {A : Type 0} (k : ℕ) (f : ℕ → A) (xs ys : List A) (v : A) → v ≡ f k → ys ≡ written 0 k f xs → set ys k v ≡ written 0 (k + 1) f xs
next_start {A} k f xs ys v e h = ap (λ (p : ℕ). set ys p v) (sym (zero-add k)) ∙ next 0 k f xs ys v e h

-- place by place
pub from_start : {A : Type 0} (k : ℕ) (f : ℕ → A) (xs : List A) (j : ℕ) (d : A) → k ≤ length xs → j < k → get_or (written 0 k f xs) j d ≡ f j
from_start {A} k f xs j d long h =
    ap (λ (p : ℕ). get_or (written 0 k f xs) p d) (sym (zero-add j)) ∙ at_place 0 k f xs j d (let e = zero-add k in omega arith) h

-- "all past the named lengths is untouched"
pub kept_start : {A : Type 0} (k : ℕ) (f : ℕ → A) (xs : List A) → Kept k xs (written 0 k f xs)
kept_start k f xs = kept_written k 0 k f xs (omega arith)

-- ---- a list
-- from a place on: what lies before it, the values, and past them what was there
pub pasted : {A : Type 0} (start : ℕ) (d : A) (xs area : List A) (k : ℕ) → k ≤ length xs → start + k ≤ length area
    → written start k (λ j. get_or xs j d) area ≡ take start area ++ (take k xs ++ drop (start + k) area)
pasted {A} start d xs area zero h g = sym (ap (λ (n : ℕ). take start area ++ drop n area) (add-zero start) ∙ take-append-drop start area)
pasted {A} start d xs area (suc k) h g =
    let before : List A = take start area in
    let value : A = get_or xs k d in
    let rest : List A = drop (suc (start + k)) area in
    let l : length (before ++ take k xs) ≡ start + k =
    length-append before (take k xs) ∙ ap₂ (λ (i j : ℕ). i + j) (length-take-le start area (omega arith)) (length-take-le k xs (omega arith)) in
    ap (λ (ys : List A). set ys (start + k) value) (pasted start d xs area k (omega arith) (omega arith)
    ∙ ap (λ (ys : List A). before ++ (take k xs ++ ys)) (drop-cons area (start + k) d (omega arith))
    ∙ sym (append_assoc before (take k xs) (get_or area (start + k) d ∷ rest)))
    ∙ set_at (before ++ take k xs) (get_or area (start + k) d) rest value (start + k) l
    ∙ append_assoc before (take k xs) (value ∷ rest)
    ∙ ap (λ (ys : List A). before ++ ys) (sym (append_snoc (take k xs) value rest) ∙ ap (λ (ys : List A). ys ++ rest) (sym (take-suc xs k d h)))
    ∙ ap (λ (n : ℕ). before ++ (take (suc k) xs ++ drop n area)) (sym (add-suc start k))

pub copied_is : {A : Type 0} (d : A) (xs area : List A) → length xs ≤ length area → copied d xs area ≡ xs ++ drop (length xs) area
copied_is {A} d xs area h =
    pasted 0 d xs area (length xs) (omega arith) (omega arith)
    ∙ ap₂ (λ (ys : List A) (n : ℕ). ys ++ drop n area) (take-length xs) (zero-add (length xs))

-- the list stands at the start of the area
pub take_copied : {A : Type 0} (d : A) (xs area : List A) → length xs ≤ length area → take (length xs) (copied d xs area) ≡ xs
take_copied {A} d xs area h = ap (λ (ys : List A). take (length xs) ys) (copied_is d xs area h) ∙ take-append_seam xs (drop (length xs) area)

-- and what was there stands past it
pub drop_copied : {A : Type 0} (d : A) (xs area : List A) → length xs ≤ length area → drop (length xs) (copied d xs area) ≡ drop (length xs) area
drop_copied {A} d xs area h = ap (λ (ys : List A). drop (length xs) ys) (copied_is d xs area h) ∙ drop-append_seam xs (drop (length xs) area)

-- a fill by the elements of a list: what is written is their values
pub take_mapped : {A : Type 0} (f : ℕ → A) (ks : List ℕ) (xs : List A) → length ks ≤ length xs
    → take (length ks) (written 0 (length ks) (λ r. f (get_or ks r 0)) xs) ≡ map f ks
take_mapped {A} f ks xs h =
    let g : ℕ → A = λ r. f (get_or ks r 0) in
    let n : ℕ = length ks in
    let ws : List A = written 0 n g xs in
    let l : length (take n ws) ≡ n = length-take-le n ws (omega (arith, length-written 0 n g xs)) in
    ext_get_or (f 0) (take n ws) (map f ks) (l ∙ sym (length-map ks f))
    (λ i b.
    let j : i < n = omega arith in
    get_or-take n ws i (f 0) j ∙ from_start n g xs i (f 0) h j ∙ sym (get_or-map f ks i 0))
