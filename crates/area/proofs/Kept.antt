-- What keeps an area's length and all that lies past a place: a fill before that place, and one such change after another.
use Prim.Native.Nat.{ℕ, ◌+◌, ◌-◌, ◌≤◌}
use native.Mathlib.Omega.{arith}
use mathlib.Core.Path.{◌≡◌, refl, ap, sym, ◌∙◌}
use mathlib.Core.Bool.{Bool, true, false, cond}
use mathlib.Core.List.{List}
use lib.ListN.{get_or}
use lib.Seq.{get_or-drop}
use Rattle.area.specs.Area.{written, Kept}
use Rattle.area.proofs.Turns.{length-written}
use Rattle.area.proofs.Places.{drop_written}

pub kept_same : {A : Type 0} (n : ℕ) (xs : List A) → Kept n xs xs
kept_same n xs = record { len = refl; past = refl }

pub kept_then : {A : Type 0} {n : ℕ} {xs ys zs : List A} → Kept n xs ys → Kept n ys zs → Kept n xs zs
kept_then p q = record { len = q.len ∙ p.len; past = q.past ∙ p.past }

pub kept_written : {A : Type 0} (n start k : ℕ) (f : ℕ → A) (xs : List A) → start + k ≤ n → Kept n xs (written start k f xs)
kept_written n start k f xs h = record { len = length-written start k f xs; past = drop_written start k f xs n h }

-- whichever way a test goes
pub kept_either : {A : Type 0} {n : ℕ} {xs : List A} (b : Bool) (ys zs : List A) → Kept n xs ys → Kept n xs zs → Kept n xs (cond b ys zs)
kept_either true ys zs p q = p
kept_either false ys zs p q = q

-- a place past the end, by itself
pub kept_place : {A : Type 0} {n : ℕ} {xs ys : List A} → Kept n xs ys → (p : ℕ) (d : A) → n ≤ p → get_or ys p d ≡ get_or xs p d
kept_place {A} {n} {xs} {ys} k p d h =
    let e : n + (p - n) ≡ p = omega arith in
    ap (λ (q : ℕ). get_or ys q d) (sym e)
    ∙ sym (get_or-drop n ys (p - n) d)
    ∙ ap (λ (l : List A). get_or l (p - n) d) k.past
    ∙ get_or-drop n xs (p - n) d
    ∙ ap (λ (q : ℕ). get_or xs q d) e
