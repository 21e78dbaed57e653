-- The run of steps, one step at a time: how it begins, stops, goes on and ends.
use Prim.Native.Nat.{ℕ, suc, ◌+◌, ◌-◌, ◌*◌, ◌<◌}
use native.Mathlib.Nat.{sub-zero}
use native.Mathlib.Omega.{arith}
use mathlib.Core.Path.{◌≡◌, refl, ap, ◌∙◌, sym}
use mathlib.Core.Bool.{Bool, true, false, cond}
use mathlib.Core.List.{List}
use lib.Dec.{ltb}
use lib.ListN.{length}
use lib.Ieee.{Float, nan, lt}
use Rattle.area.specs.Area.{written}
use Rattle.area.proofs.Places.{as_it_was}
use Rattle.std.specs.Prelude.{Ok, Err}
use Rattle.elimination.specs.declared.Stop.TheVariants.{Pivot, TooShort}
use Rattle.ieee.specs.Floats.{epsilon}
use Rattle.elimination.specs.Elimination.{at, magnitude, hold, small, swapped, divided, cleared, step, outcome_of, run, eliminated}

-- a row changes places with itself: nothing changes, so the code may leave it out
pub swap_self : (w i r : ℕ) (xs : List Float) → r ≡ i → swapped w i r xs ≡ xs
unfolding swapped
swap_self w i r xs e =
    let same : written (i * w) w (at w xs i) xs ≡ xs = as_it_was (i * w) w (at w xs i) xs nan (λ j b. refl) in
    rw (e, same, same)

-- the stages, one after the other, are one step
pub staged : (skip : Bool) (s i : ℕ) (xs : List Float) {ys zs vs : List Float} → ys ≡ swapped (2 * s) i (hold s i xs) xs
    → zs ≡ divided (2 * s) i ys → vs ≡ cleared skip (2 * s) i s zs → vs ≡ step skip s i xs
unfolding step
staged skip s i xs a b c = c ∙ ap (cleared skip (2 * s) i s) (b ∙ ap (divided (2 * s) i) a)

-- the test of the magnitude in hand is the step's
pub same_test : (s i r : ℕ) (v : Float) (xs : List Float) (b : Bool) → r ≡ hold s i xs → v ≡ magnitude (2 * s) i xs r
    → lt v epsilon ≡ b → small s i xs ≡ b
unfolding small
same_test s i r v xs b e f t =
    ap (λ (q : ℕ). lt (magnitude (2 * s) i xs q) epsilon) (sym e)
    ∙ ap (λ (x : Float). lt x epsilon) (sym f)
    ∙ t

pub refuses : (skip : Bool) (s : ℕ) (xs : List Float) → ltb (length xs) (2 * s * s) ≡ true → eliminated skip s xs ≡ outcome_of (Err TooShort) xs
unfolding eliminated
refuses skip s xs h = ap (λ (b : Bool). cond b (outcome_of (Err TooShort) xs) (run skip s s 0 xs)) h

pub begins : (skip : Bool) (s : ℕ) (xs : List Float) → ltb (length xs) (2 * s * s) ≡ false → eliminated skip s xs ≡ run skip s (s - 0) 0 xs
unfolding eliminated
begins skip s xs h =
    ap (λ (b : Bool). cond b (outcome_of (Err TooShort) xs) (run skip s s 0 xs)) h ∙ ap (λ (n : ℕ). run skip s n 0 xs) (sym (sub-zero s))

-- step i is to be done, and s - i steps with it
left : (skip : Bool) (s i : ℕ) (xs : List Float) → i < s
    → run skip s (s - i) i xs ≡ cond (small s i xs) (outcome_of (Err (Pivot i)) xs) (run skip s (s - (i + 1)) (i + 1) (step skip s i xs))
unfolding run
left skip s i xs h = let e : s - i ≡ suc (s - (i + 1)) = omega arith in ap (λ (n : ℕ). run skip s n i xs) e

pub stops : (skip : Bool) (s i : ℕ) (xs : List Float) → i < s → small s i xs ≡ true → run skip s (s - i) i xs ≡ outcome_of (Err (Pivot i)) xs
stops skip s i xs h t =
    left skip s i xs h ∙ ap (λ (b : Bool). cond b (outcome_of (Err (Pivot i)) xs) (run skip s (s - (i + 1)) (i + 1) (step skip s i xs))) t

pub goes_on : (skip : Bool) (s i : ℕ) (xs : List Float) → i < s → small s i xs ≡ false
    → run skip s (s - i) i xs ≡ run skip s (s - (i + 1)) (i + 1) (step skip s i xs)
goes_on skip s i xs h t =
    left skip s i xs h ∙ ap (λ (b : Bool). cond b (outcome_of (Err (Pivot i)) xs) (run skip s (s - (i + 1)) (i + 1) (step skip s i xs))) t

pub ends : (skip : Bool) (s i : ℕ) (xs : List Float) → i ≡ s → run skip s (s - i) i xs ≡ outcome_of (Ok tt) xs
unfolding run
ends skip s i xs h = let e : s - i ≡ 0 = omega arith in ap (λ (n : ℕ). run skip s n i xs) e
