-- What the work area held before, and what lies past the matrix, does not count: areas that agree on the matrix agree on it after each step.
use Prim.Native.Nat.{ℕ, zero, suc, ◌+◌, ◌-◌, ◌*◌, ◌≤◌, ◌<◌}
use native.Mathlib.Decide.{dec_lt}
use native.Mathlib.Omega.{arith}
use mathlib.Core.Path.{◌≡◌, refl, ap, ap₂, sym, ◌∙◌, subst}
use mathlib.Core.Bool.{Bool, true, false, ◌&&◌, cond}
use mathlib.Core.List.{List}
use lib.Dec.{eqb}
use lib.ListN.{length, get_or}
use lib.Ieee.{Float, nan, binary64, lt, eq, sub, mul, div}
use Rattle.area.specs.Area.{written}
use Rattle.area.proofs.Turns.{length-written, get_d_past}
use Rattle.area.proofs.Places.{at_place, other_place}
use Rattle.area.proofs.Rows.{row_end}
use Rattle.ieee.specs.Floats.{zero_float, abs_of}
use Rattle.ieee.proofs.Sums.{same_sum}
use Rattle.elimination.specs.Elimination.{Agree, at, magnitude, held, hold, swapped, divided, reduced, spared, cleared, step, stepped}
use Rattle.elimination.specs.Inverse.{laid, times_inverse}
use Rattle.elimination.proofs.Hold.{hold_below}
use Rattle.elimination.proofs.Laid.{kept_laid, laid_place}

pub agree_written : (n start k : ℕ) (f g : ℕ → Float) (xs ys : List Float) → start + k ≤ n → ((j : ℕ) → j < k → f j ≡ g j) → Agree n xs ys
    → Agree n (written start k f xs) (written start k g ys)
agree_written n start k f g xs ys fit e h =
    record {
      left = let l = length-written start k f xs in let m = h.left in omega arith;
      right = let l = length-written start k g ys in let m = h.right in omega arith;
      same = λ p b. by p b (dec_lt p start) (dec_lt p (start + k));
    }
  where
    by : (p : ℕ) → p < n → Dec (p < start) → Dec (p < start + k) → get_or (written start k f xs) p nan ≡ get_or (written start k g ys) p nan
    by p b (yes l) d = other_place start k f xs p nan (λ j c. omega arith) ∙ h.same p b ∙ sym (other_place start k g ys p nan (λ j c. omega arith))
    by p b (no l) (yes m) =
        let at_it : start + (p - start) ≡ p = omega arith in
        let inside : p - start < k = omega arith in
        let long = h.left in
        let long' = h.right in
        rw (← at_it) (at_place start k f xs (p - start) nan (omega arith) inside ∙ e (p - start) inside
        ∙ sym (at_place start k g ys (p - start) nan (omega arith) inside))
    by p b (no l) (no m) = get_d_past start k f xs p nan (omega arith) ∙ h.same p b ∙ sym (get_d_past start k g ys p nan (omega arith))

-- ---- the stages of a step, on s rows of w
module _ (w s : ℕ) (xs ys : List Float) (h : Agree (s * w) xs ys) where
  same_at : (r c : ℕ) → r < s → c < w → at w xs r c ≡ at w ys r c
  same_at r c hr hc = h.same (r * w + c) (let e = row_end w r s hr in omega arith)

  same_magnitude : (i r : ℕ) → i < w → r < s → magnitude w i xs r ≡ magnitude w i ys r
  same_magnitude i r hi hr = ap abs_of (same_at r i hr hi)

  -- the row held, and that it is among those passed
  same_held : (i m : ℕ) → i < w → i + m < s → (held w i m xs ≡ held w i m ys) × (held w i m xs ≤ i + m)
  unfolding held
  same_held i zero hi b = (refl, omega arith)
  same_held i (suc m) hi b =
      let r = same_held i m hi (omega arith) in
      let test : lt (magnitude w i xs (held w i m xs)) (magnitude w i xs (i + 1 + m)) ≡ lt (magnitude w i ys (held w i m ys)) (magnitude w i ys (i + 1 + m)) =
      ap₂ lt (same_magnitude i (held w i m xs) hi (omega arith) ∙ ap (magnitude w i ys) r.0) (same_magnitude i (i + 1 + m) hi (omega arith)) in (
        ap₂ (λ (t : Bool) (k : ℕ). cond t (i + 1 + m) k) test r.0,
        by (lt (magnitude w i xs (held w i m xs)) (magnitude w i xs (i + 1 + m)))
            (held w i m xs) r.1,
      )
    where
      by : (t : Bool) (k : ℕ) → k ≤ i + m → cond t (i + 1 + m) k ≤ i + suc m
      by true k l = omega arith
      by false k l = omega arith

  agree_swapped : (i r : ℕ) → i < s → r < s → Agree (s * w) (swapped w i r xs) (swapped w i r ys)
  unfolding swapped
  agree_swapped i r hi hr =
      agree_written (s * w) (r * w) w (at w xs i) (at w ys i) _ _ (row_end w r s hr) (λ j b. same_at i j hi b)
      (agree_written (s * w) (i * w) w (at w xs r) (at w ys r) xs ys (row_end w i s hi) (λ j b. same_at r j hr b) h)

  agree_divided : (i : ℕ) → i < s → i < w → Agree (s * w) (divided w i xs) (divided w i ys)
  unfolding divided
  agree_divided i hi hw = agree_written (s * w) (i * w) w _ _ xs ys (row_end w i s hi) (λ j b. ap₂ (div binary64) (same_at i j hi b) (same_at i i hi hw)) h

  agree_reduced : (i k : ℕ) (f g : Float) → f ≡ g → i < s → k < s → Agree (s * w) (reduced w i k f xs) (reduced w i k g ys)
  unfolding reduced
  agree_reduced i k f g e hi hk =
      agree_written (s * w) (k * w) w _ _ xs ys (row_end w k s hk)
      (λ j b. ap₂ (sub binary64) (same_at k j hk b) (ap₂ (mul binary64) e (same_at i j hi b))) h

  same_spared : (skip : Bool) (i k : ℕ) → k < s → i < w → spared skip w i k xs ≡ spared skip w i k ys
  unfolding spared
  same_spared skip i k hk hi = ap (λ (x : Float). cond (eqb k i) true (skip && eq x zero_float)) (same_at k i hk hi)

agree_either : {n : ℕ} (p q : Bool) (xs ys us vs : List Float) → p ≡ q → Agree n xs us → Agree n ys vs → Agree n (cond p xs ys) (cond q us vs)
agree_either {n} p q xs ys us vs e g h = subst (λ (b : Bool). Agree n (cond p xs ys) (cond b us vs)) e (by p)
  where
    by : (b : Bool) → Agree n (cond b xs ys) (cond b us vs)
    by true = g
    by false = h

agree_cleared : (skip : Bool) (w s i n : ℕ) (xs ys : List Float) → n ≤ s → i < s → i < w → Agree (s * w) xs ys
    → Agree (s * w) (cleared skip w i n xs) (cleared skip w i n ys)
unfolding cleared
agree_cleared skip w s i zero xs ys l hi hw h = h
agree_cleared skip w s i (suc k) xs ys l hi hw h =
    let us : List Float = cleared skip w i k xs in
    let vs : List Float = cleared skip w i k ys in
    let g : Agree (s * w) us vs = agree_cleared skip w s i k xs ys (omega arith) hi hw h in
    agree_either (spared skip w i k us) (spared skip w i k vs) us (reduced w i k (at w us k i) us) vs (reduced w i k (at w vs k i) vs)
    (same_spared w s us vs g skip i k l hw) g (agree_reduced w s us vs g i k (at w us k i) (at w vs k i) (same_at w s us vs g k i l hw) hi l)

-- ---- a step, and the first n of them
same_hold : (s i : ℕ) (xs ys : List Float) → i < s → Agree (s * (2 * s)) xs ys → hold s i xs ≡ hold s i ys
unfolding hold
same_hold s i xs ys b h = (same_held (2 * s) s xs ys h i (s - (i + 1)) (omega arith) (omega arith)).0

pub agree_step : (skip : Bool) (s i : ℕ) (xs ys : List Float) → i < s → Agree (s * (2 * s)) xs ys → Agree (s * (2 * s)) (step skip s i xs) (step skip s i ys)
unfolding step
agree_step skip s i xs ys b h =
    let w : ℕ = 2 * s in
    let g : Agree (s * w) (swapped w i (hold s i xs) xs) (swapped w i (hold s i ys) ys) =
    subst (λ (r : ℕ). Agree (s * w) (swapped w i (hold s i xs) xs) (swapped w i r ys)) (same_hold s i xs ys b h)
    (agree_swapped w s xs ys h i (hold s i xs) b (hold_below s i xs b)) in
    agree_cleared skip w s i s _ _ (omega arith) b (omega arith) (agree_divided w s _ _ g i b (omega arith))

pub agree_stepped : (skip : Bool) (s n : ℕ) (xs ys : List Float) → n ≤ s → Agree (s * (2 * s)) xs ys
    → Agree (s * (2 * s)) (stepped skip s n xs) (stepped skip s n ys)
unfolding stepped
agree_stepped skip s zero xs ys l h = h
agree_stepped skip s (suc n) xs ys l h = agree_step skip s n _ _ l (agree_stepped skip s n xs ys (omega arith) h)

-- ---- two areas long enough get the same matrix
pub agree_laid : (s : ℕ) (entry : ℕ → ℕ → Float) (xs ys : List Float) → 2 * s * s ≤ length xs → 2 * s * s ≤ length ys
    → Agree (s * (2 * s)) (laid s entry xs) (laid s entry ys)
agree_laid s entry xs ys hx hy =
    let l = (kept_laid s entry xs).len in
    let m = (kept_laid s entry ys).len in
    record {
      left = omega arith;
      right = omega arith;
      same = λ p b. laid_place s entry xs nan hx p b ∙ sym (laid_place s entry ys nan hy p b);
    }

-- ---- z reads the right half of the matrix alone
pub same_inverse : (s : ℕ) (xs ys : List Float) (b : ℕ → Float) (i : ℕ) → i < s → Agree (s * (2 * s)) xs ys → times_inverse s xs b i ≡ times_inverse s ys b i
unfolding times_inverse
same_inverse s xs ys b i hi h =
    same_sum s _ _
    (λ j hj. ap (λ (x : Float). mul binary64 x (b j)) (h.same (i * (2 * s) + (s + j)) (let e = row_end (2 * s) i s hi in omega arith)))
