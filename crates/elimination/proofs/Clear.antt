-- Clearing the other rows, one row more: row i itself, a row that is skipped, and a row that is cleared.
use Prim.Native.Nat.{ℕ, ◌+◌}
use native.Mathlib.Numerals.{add-one}
use mathlib.Core.Path.{◌≡◌, refl, ap, ◌∙◌, sym}
use mathlib.Core.Logic.{◌≢◌, ◌⊎◌, inl, inr}
use mathlib.Core.Bool.{Bool, true, false, not, ◌&&◌, cond}
use mathlib.Core.List.{List}
use lib.Dec.{eqb}
use lib.Ieee.{Float, eq, ne}
use borrow.Author.Tests.{eq-eqb, ne_eqb, not-true, not-false}
use Rattle.ieee.specs.Floats.{zero_float}
use Rattle.elimination.specs.Elimination.{at, reduced, spared, cleared}

-- whether rows are skipped, by the number that a const parameter is
abbrev pub skips : ℕ → Bool
skips number = not (eqb number 0)

-- one row more, by whether it is spared
one_more : (skip : Bool) (w i k : ℕ) (xs zs : List Float) (b : Bool) → zs ≡ cleared skip w i k xs → spared skip w i k zs ≡ b
    → cond b zs (reduced w i k (at w zs k i) zs) ≡ cleared skip w i (k + 1) xs
unfolding cleared
one_more skip w i k xs zs b h s =
    ap (λ (t : Bool). cond t zs (reduced w i k (at w zs k i) zs)) (sym s)
    ∙ ap (λ (ys : List Float). cond (spared skip w i k ys) ys (reduced w i k (at w ys k i) ys)) h
    ∙ ap (λ (n : ℕ). cleared skip w i n xs) (sym (add-one k))

-- row i itself stays
pub own_test : (skip : Bool) (w i k : ℕ) (zs : List Float) → k ≡ i → spared skip w i k zs ≡ true
unfolding spared
own_test skip w i k zs e = ap (λ (b : Bool). cond b true (skip && eq (at w zs k i) zero_float)) (eq-eqb k i e)

pub own_row : (skip : Bool) (w i k : ℕ) (xs zs : List Float) → zs ≡ cleared skip w i k xs → k ≡ i → zs ≡ cleared skip w i (k + 1) xs
own_row skip w i k xs zs h e = one_more skip w i k xs zs true h (own_test skip w i k zs e)

-- another row, by the test of its factor
other_test : (skip : Bool) (w i k : ℕ) (zs : List Float) → k ≢ i → spared skip w i k zs ≡ (skip && eq (at w zs k i) zero_float)
unfolding spared
other_test skip w i k zs n = ap (λ (b : Bool). cond b true (skip && eq (at w zs k i) zero_float)) (ne_eqb k i n)

-- a row whose factor is zero, where it is skipped, stays
pub skipped_row : (skip : Bool) (w i k : ℕ) (xs zs : List Float) → zs ≡ cleared skip w i k xs → k ≢ i
    → skip ≡ true → ne (at w zs k i) zero_float ≡ false → zs ≡ cleared skip w i (k + 1) xs
unfolding ne
skipped_row skip w i k xs zs h n s z =
    one_more skip w i k xs zs true h
    (other_test skip w i k zs n
    ∙ ap (λ (b : Bool). b && eq (at w zs k i) zero_float) s
    ∙ not-false (eq (at w zs k i) zero_float) z)

-- any other is cleared
pub cleared_row : (skip : Bool) (w i k : ℕ) (xs ys zs : List Float) → zs ≡ cleared skip w i k xs → k ≢ i
    → (skip ≡ false) ⊎ (ne (at w zs k i) zero_float ≡ true) → ys ≡ reduced w i k (at w zs k i) zs → ys ≡ cleared skip w i (k + 1) xs
unfolding ne
cleared_row skip w i k xs ys zs h n t r = r ∙ one_more skip w i k xs zs false h (other_test skip w i k zs n ∙ by t)
  where
    never : (b : Bool) → (b && false) ≡ false
    never true = refl
    never false = refl

    by : (skip ≡ false) ⊎ (ne (at w zs k i) zero_float ≡ true) → (skip && eq (at w zs k i) zero_float) ≡ false
    by (inl s) = ap (λ (b : Bool). b && eq (at w zs k i) zero_float) s
    by (inr z) = ap (λ (b : Bool). skip && b) (not-true (eq (at w zs k i) zero_float) z) ∙ never skip
