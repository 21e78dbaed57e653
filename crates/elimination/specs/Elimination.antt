-- Elimination, stage by stage as paper 01 says it, on "the matrix beside the identity, s rows of 2s", which lies in a list row after row.
-- One definition serves both calls: `skip` says whether a row whose factor is zero is passed over.
use Rattle.std.specs.Prelude.{ℕ, zero, suc, ◌+◌, ◌-◌, ◌*◌, ◌≤◌, ◌<◌, ◌≡◌, ◌↔◌, Bool, true, false, ◌&&◌, cond, List, eqb, ltb, length, get_or, Result, Ok, Err, Float}
use Rattle.std.specs.Float.{nan, binary64}
use Rattle.std.specs.Float.Ieee.{lt, eq, sub, mul, div}
use Rattle.area.specs.Area.{written}
use Rattle.ieee.specs.Floats.{zero_float, abs_of, epsilon}
use Rattle.error.specs.declared.Refusal.{Refusal}
use Rattle.error.specs.declared.Refusal.TheVariants.{WorkArea, Singular}
use Rattle.error.specs.Numbers.{number_of}
use Rattle.elimination.specs.declared.Stop.{Stop}
use Rattle.elimination.specs.declared.Stop.TheVariants.{Pivot, TooShort}

-- the entry in row r and column c of a matrix with `width` columns
abbrev pub at : ℕ → List Float → ℕ → ℕ → Float
at width xs r c = get_or xs (r * width + c) nan

-- the "column-i magnitude" of row r
abbrev pub magnitude : ℕ → ℕ → List Float → ℕ → Float
magnitude width i xs r = abs_of (at width xs r i)

-- "hold row i and go down; a later row is held instead when its column-i magnitude is > the held one": the row held once m rows below row i are passed
unfoldable pub held : ℕ → ℕ → ℕ → List Float → ℕ
held width i zero xs = i
held width i (suc m) xs =
    let h = held width i m xs in
    cond (lt (magnitude width i xs h) (magnitude width i xs (i + 1 + m))) (i + 1 + m) h

-- the row that step i holds in the end: of s rows, s - (i + 1) lie below row i
unfoldable pub hold : ℕ → ℕ → List Float → ℕ
unfolding held
hold s i xs = held (2 * s) i (s - (i + 1)) xs

-- "Held magnitude below 2^-52", at which step i stops: not where it equals 2^-52, and not where it is a NaN
unfoldable pub small : ℕ → ℕ → List Float → Bool
unfolding hold
small s i xs = lt (magnitude (2 * s) i xs (hold s i xs)) epsilon

-- "Swap": rows i and r, each with what the other held
unfoldable pub swapped : ℕ → ℕ → ℕ → List Float → List Float
swapped width i r xs = written (r * width) width (at width xs i) (written (i * width) width (at width xs r) xs)

-- "divide row i by the pivot": all of its entries, by what its entry in column i was
unfoldable pub divided : ℕ → ℕ → List Float → List Float
divided width i xs = written (i * width) width (λ j. div binary64 (at width xs i j) (at width xs i i)) xs

-- "subtract factor times row i", from all entries of row k
unfoldable pub reduced : ℕ → ℕ → ℕ → Float → List Float → List Float
reduced width i k factor xs = written (k * width) width (λ j. sub binary64 (at width xs k j) (mul binary64 factor (at width xs i j))) xs

-- whether row k is left as it is: row i itself and, where `skip` is true, a row whose factor is zero, of either sign
unfoldable pub spared : Bool → ℕ → ℕ → ℕ → List Float → Bool
spared skip width i k xs = cond (eqb k i) true (skip && eq (at width xs k i) zero_float)

-- "then from every other row with factor ≠ 0 subtract factor times row i", of the first n rows; a row's factor is its entry in column i
unfoldable pub cleared : Bool → ℕ → ℕ → ℕ → List Float → List Float
unfolding reduced spared
cleared skip width i zero xs = xs
cleared skip width i (suc k) xs =
    let ys = cleared skip width i k xs in
    let less = reduced width i k (at width ys k i) ys in
    cond (spared skip width i k ys) ys less

-- one step: "Swap, divide row i by the pivot, then from every other row .. subtract"
unfoldable pub step : Bool → ℕ → ℕ → List Float → List Float
unfolding hold swapped divided cleared
step skip s i xs = cleared skip (2 * s) i s (divided (2 * s) i (swapped (2 * s) i (hold s i xs) xs))

-- the refusal that a stop comes to
abbrev pub refusal_of : Stop → Refusal
refusal_of (Pivot i) = Singular
refusal_of TooShort = WorkArea

-- an elimination's end: every step went through, or where it stopped
abbrev pub End : Type 0
End = Result (Unit {0}) Stop

-- the number of an elimination's end: that of the refusal it comes to, and 0 where every step went through
abbrev pub end_number : End → ℕ
end_number (Ok u) = 0
end_number (Err stop) = number_of (refusal_of stop)

-- how a call ends: its answer, and what the work area holds
pub record Outcome : Type 0 where
  pub answer : End
  pub area : List Float

abbrev pub outcome_of : End → List Float → Outcome
outcome_of a xs = record { answer = a; area = xs }

-- n steps from step i on; a step whose held magnitude is small stops the run before its swap
unfoldable pub run : Bool → ℕ → ℕ → ℕ → List Float → Outcome
unfolding small step
run skip s zero i xs = outcome_of (Ok tt) xs
run skip s (suc n) i xs =
    let rest = run skip s n (i + 1) (step skip s i xs) in
    cond (small s i xs) (outcome_of (Err (Pivot i)) xs) rest

-- the whole elimination, s steps; an area of fewer than 2·s·s numbers is left as it is
unfoldable pub eliminated : Bool → ℕ → List Float → Outcome
unfolding run
eliminated skip s xs =
    let all = run skip s s 0 xs in
    cond (ltb (length xs) (2 * s * s)) (outcome_of (Err TooShort) xs) all

-- the area once the steps below n are done
unfoldable pub stepped : Bool → ℕ → ℕ → List Float → List Float
unfolding step
stepped skip s zero xs = xs
stepped skip s (suc n) xs = step skip s n (stepped skip s n xs)

-- the area holds the matrix, and the first n of its s steps go through: none of them holds a small magnitude
pub record Through (skip : Bool) (s n : ℕ) (xs : List Float) : Type 0 where
  pub whole : 2 * s * s ≤ length xs
  pub steps : n ≤ s
  pub none : (k : ℕ) → k < n → small s k (stepped skip s k xs) ≡ false

-- "19 needs the held pivot of a step": the steps before step i go through, and the magnitude that step i holds is small
pub record StopsAt (skip : Bool) (s i : ℕ) (xs : List Float) : Type 0 where
  pub before : Through skip s i xs
  pub reached : i < s
  pub below : small s i (stepped skip s i xs) ≡ true

-- an elimination of xs ends with the number k: each number exactly when
pub record Numbered (skip : Bool) (s : ℕ) (xs : List Float) (k : ℕ) : Type 0 where
  -- "17 work area under 2·s·s numbers"
  pub seventeen : (k ≡ 17) ↔ (length xs < 2 * s * s)
  -- "Held magnitude below 2^-52: refusal 19.", at some step
  pub nineteen : (k ≡ 19) ↔ ((i : ℕ) × StopsAt skip s i xs)
  -- every step goes through
  pub none : (k ≡ 0) ↔ Through skip s s xs

-- both areas hold n numbers or more, and the first n are the same
pub record Agree (n : ℕ) (xs ys : List Float) : Type 0 where
  pub left : n ≤ length xs
  pub right : n ≤ length ys
  pub same : (p : ℕ) → p < n → get_or xs p nan ≡ get_or ys p nan
