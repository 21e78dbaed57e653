-- Clearing, entry by entry: though it goes row by row, each entry comes from the matrix as it stood, its row's factor and row i among it.
use Prim.Native.Nat.{ℕ, zero, suc, ◌+◌, ◌*◌, ◌≤◌, ◌<◌}
use native.Mathlib.Nat.{not-suc-le-zero, suc-mul}
use native.Mathlib.Decide.{dec_lt, ℕ_discrete}
use native.Mathlib.Omega.{arith}
use mathlib.Core.Path.{◌≡◌, refl, ap, ◌∙◌, sym}
use mathlib.Core.Logic.{◌≢◌}
use mathlib.Core.Bool.{Bool, true, false, ◌&&◌, cond}
use mathlib.Core.List.{List}
use lib.Dec.{eqb}
use lib.ListN.{length}
use lib.Ieee.{Float, nan, binary64, eq, sub, mul}
use Rattle.ieee.specs.Floats.{zero_float}
use Rattle.area.proofs.Places.{at_place, other_place}
use Rattle.area.proofs.Rows.{apart}
use Rattle.elimination.specs.Elimination.{at, reduced, spared, cleared}
use Rattle.elimination.proofs.Clear.{own_test}
use Rattle.elimination.proofs.Keeps.{kept_cleared}

-- what row k less its factor times row i holds: in row k, and in any other
new_entry : (w i k : ℕ) (factor : Float) (xs : List Float) (c : ℕ) → k * w + c < length xs → c < w
    → at w (reduced w i k factor xs) k c ≡ sub binary64 (at w xs k c) (mul binary64 factor (at w xs i c))
unfolding reduced
new_entry w i k factor xs c h b = at_place (k * w) w _ xs c nan h b

old_entry : (w i k : ℕ) (factor : Float) (xs : List Float) (r c : ℕ) → r ≢ k → c < w → at w (reduced w i k factor xs) r c ≡ at w xs r c
unfolding reduced
old_entry w i k factor xs r c n b = other_place (k * w) w _ xs (r * w + c) nan (λ j h. apart w r k c j n b h)

-- one row more leaves the others
other_row : (w i k : ℕ) (ys : List Float) (r c : ℕ) (b : Bool) → r ≢ k → c < w
    → at w (cond b ys (reduced w i k (at w ys k i) ys)) r c ≡ at w ys r c
other_row w i k ys r c true n h = refl
other_row w i k ys r c false n h = old_entry w i k (at w ys k i) ys r c n h

-- row i is never changed
own_kept : (skip : Bool) (w i n c : ℕ) (xs : List Float) → c < w → at w (cleared skip w i n xs) i c ≡ at w xs i c
unfolding cleared
own_kept skip w i zero c xs h = refl
own_kept skip w i (suc k) c xs h =
    let ys : List Float = cleared skip w i k xs in
    elim (ℕ_discrete k i) [
      | yes e ↦
          ap (λ (b : Bool). at w (cond b ys (reduced w i k (at w ys k i) ys)) i c) (own_test skip w i k ys e)
          ∙ own_kept skip w i k c xs h
      | no n ↦ other_row w i k ys i c (spared skip w i k ys) (λ e. n (sym e)) h ∙ own_kept skip w i k c xs h
    ]

-- a row from row n on is not changed yet
below_kept : (skip : Bool) (w i n r c : ℕ) (xs : List Float) → n ≤ r → c < w → at w (cleared skip w i n xs) r c ≡ at w xs r c
unfolding cleared
below_kept skip w i zero r c xs h b = refl
below_kept skip w i (suc k) r c xs h b =
    let ys : List Float = cleared skip w i k xs in
    other_row w i k ys r c (spared skip w i k ys) (omega arith) b ∙ below_kept skip w i k r c xs (omega arith) b

-- the test that spares a row looks at nothing but its factor
same_factor : (skip : Bool) (w i k : ℕ) (xs ys : List Float) → at w ys k i ≡ at w xs k i → spared skip w i k ys ≡ spared skip w i k xs
unfolding spared
same_factor skip w i k xs ys e = ap (λ (x : Float). cond (eqb k i) true (skip && eq x zero_float)) e

-- row k's entry, where ys has what xs has in row k and in row i
row_value : (w i k c : ℕ) (xs ys : List Float) (b : Bool) → k * w + c < length ys → c < w
    → at w ys k c ≡ at w xs k c → at w ys k i ≡ at w xs k i → at w ys i c ≡ at w xs i c
    → at w (cond b ys (reduced w i k (at w ys k i) ys)) k c ≡ cond b (at w xs k c) (sub binary64 (at w xs k c) (mul binary64 (at w xs k i) (at w xs i c)))
row_value w i k c xs ys true h b p q r = p
row_value w i k c xs ys false h b p q r = new_entry w i k (at w ys k i) ys c h b ∙ rw (p, q, r)

-- "from every other row with factor ≠ 0 subtract factor times row i", entry by entry of the n rows
pub entry_cleared : (skip : Bool) (w i n r c : ℕ) (xs : List Float) → n * w ≤ length xs → r < n → i < w → c < w
    → at w (cleared skip w i n xs) r c
    ≡ cond (spared skip w i r xs) (at w xs r c) (sub binary64 (at w xs r c) (mul binary64 (at w xs r i) (at w xs i c)))
unfolding cleared
entry_cleared skip w i zero r c xs h br bi bc = absurd (not-suc-le-zero br)
entry_cleared skip w i (suc k) r c xs h br bi bc =
    let ys : List Float = cleared skip w i k xs in
    let m = suc-mul k w in
    elim (dec_lt r k) [
      | yes p ↦ other_row w i k ys r c (spared skip w i k ys) (omega arith) bc ∙ entry_cleared skip w i k r c xs (omega arith) p bi bc
      | no n ↦
          let e : r ≡ k = omega arith in
          let l = (kept_cleared w k skip i k xs (omega arith)).len in
          let q : at w ys k i ≡ at w xs k i = below_kept skip w i k k i xs (omega arith) bi in
          rw e
          (ap (λ (b : Bool). at w (cond b ys (reduced w i k (at w ys k i) ys)) k c) (same_factor skip w i k xs ys q)
          ∙ row_value w i k c xs ys (spared skip w i k xs) (omega arith) bc (below_kept skip w i k k c xs (omega arith) bc) q (own_kept skip w i k c xs bc))
    ]
