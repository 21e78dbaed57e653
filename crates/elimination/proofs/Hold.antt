-- Going down a column: one row more, what a test on the way settles, and where the row held lies.
use Prim.Native.Nat.{ℕ, zero, suc, ◌+◌, ◌-◌, ◌*◌, ◌<◌, ◌≤◌}
use native.Mathlib.Omega.{arith}
use mathlib.Core.Path.{◌≡◌, ap, ◌∙◌, sym}
use mathlib.Core.Bool.{Bool, true, false, cond}
use mathlib.Core.List.{List}
use lib.ListN.{length}
use lib.Ieee.{Float, lt}
use Rattle.elimination.specs.Elimination.{magnitude, held, hold}
use Rattle.elimination.proofs.Rows.{row_inside}

-- row k, the next below those passed, is held instead or not
next_row : (w i k : ℕ) (xs : List Float) → i + 1 ≤ k
    → held w i (k + 1 - (i + 1)) xs
    ≡ cond (lt (magnitude w i xs (held w i (k - (i + 1)) xs)) (magnitude w i xs k)) k (held w i (k - (i + 1)) xs)
unfolding held
next_row w i k xs h =
    let m : ℕ = k - (i + 1) in
    let e : k + 1 - (i + 1) ≡ suc m = omega arith in
    let p : i + 1 + m ≡ k = omega arith in
    ap (λ (n : ℕ). held w i n xs) e
    ∙ ap (λ (r : ℕ). cond (lt (magnitude w i xs (held w i m xs)) (magnitude w i xs r)) r (held w i m xs)) p

-- where row k's magnitude u is above the held one, it is held from there on
pub taken : (w i k r : ℕ) (u v : Float) (xs : List Float) → i + 1 ≤ k → r ≡ held w i (k - (i + 1)) xs → v ≡ magnitude w i xs r
    → u ≡ magnitude w i xs k → lt v u ≡ true → k ≡ held w i (k + 1 - (i + 1)) xs
taken w i k r u v xs h e f g t =
    let m : lt (magnitude w i xs (held w i (k - (i + 1)) xs)) (magnitude w i xs k) ≡ true = rw (← e, ← f, ← g) t in
    sym (next_row w i k xs h ∙ ap (λ (b : Bool). cond b k (held w i (k - (i + 1)) xs)) m)

-- where it is not, the row in hand stays
pub kept : (w i k r : ℕ) (u v : Float) (xs : List Float) → i + 1 ≤ k → r ≡ held w i (k - (i + 1)) xs → v ≡ magnitude w i xs r
    → u ≡ magnitude w i xs k → lt v u ≡ false → r ≡ held w i (k + 1 - (i + 1)) xs
kept w i k r u v xs h e f g t =
    let m : lt (magnitude w i xs (held w i (k - (i + 1)) xs)) (magnitude w i xs k) ≡ false = rw (← e, ← f, ← g) t in
    e ∙ sym (next_row w i k xs h ∙ ap (λ (b : Bool). cond b k (held w i (k - (i + 1)) xs)) m)

-- with no row passed, row i is held
pub first_row : (w i : ℕ) (xs : List Float) → i ≡ held w i (i + 1 - (i + 1)) xs
unfolding held
first_row w i xs = let e : i + 1 - (i + 1) ≡ 0 = omega arith in ap (λ (n : ℕ). held w i n xs) (sym e)

-- the row held lies from row i on, and among the rows passed
choice : (b : Bool) (lo hi p q : ℕ) → (lo ≤ p) × (p ≤ hi) → (lo ≤ q) × (q ≤ hi) → (lo ≤ cond b p q) × (cond b p q ≤ hi)
choice true lo hi p q hp hq = hp
choice false lo hi p q hp hq = hq

held_range : (w i m : ℕ) (xs : List Float) → (i ≤ held w i m xs) × (held w i m xs ≤ i + m)
unfolding held
held_range w i zero xs = omega arith
held_range w i (suc m) xs =
    let h : ℕ = held w i m xs in
    let r = held_range w i m xs in
    choice (lt (magnitude w i xs h) (magnitude w i xs (i + 1 + m))) i (i + suc m) (i + 1 + m) h (omega arith) (omega arith)

pub hold_from : (s i : ℕ) (xs : List Float) → i ≤ hold s i xs
unfolding hold
hold_from s i xs = (held_range (2 * s) i (s - (i + 1)) xs).0

pub hold_below : (s i : ℕ) (xs : List Float) → i < s → hold s i xs < s
unfolding hold
hold_below s i xs h = omega (arith, (held_range (2 * s) i (s - (i + 1)) xs).1)

-- so it lies inside the area
pub hold_inside : (s i r : ℕ) (xs : List Float) → i < s → r ≡ hold s i xs → 2 * s * s ≤ length xs → r * (2 * s) + 2 * s ≤ length xs
hold_inside s i r xs b e h = row_inside s r (length xs) (omega (arith, e, hold_below s i xs b)) h
