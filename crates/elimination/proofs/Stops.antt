-- Where an elimination ends, both ways: it stops at step i exactly where the steps before went through and the magnitude that step i holds is below 2^-52;
-- it is done exactly where every step goes through; it is refused exactly where the area is too short. And what the area then holds.
use Prim.Native.Nat.{ℕ, zero, suc, ◌-◌, ◌*◌, ◌≤◌, ◌<◌}
use native.Mathlib.Nat.{not-suc-le-zero}
use native.Mathlib.Numerals.{add-one}
use native.Mathlib.Decide.{dec_lt}
use native.Mathlib.Omega.{arith}
use mathlib.Core.Path.{◌≡◌, refl, ap, sym, ◌∙◌, subst}
use mathlib.Core.Logic.{◌↔◌}
use mathlib.Core.Bool.{Bool, true, false}
use mathlib.Core.List.{List}
use borrow.Author.Tests.{lt-ltb, le-ltb}
use borrow.Author.Count.{below_more}
use lib.ListN.{length}
use lib.Ieee.{Float, of_bits, lt}
use Rattle.ieee.specs.Floats.{zero_float, abs_of, epsilon}
use Rattle.std.specs.Prelude.{Ok, Err}
use Rattle.elimination.specs.declared.Stop.TheVariants.{Pivot, TooShort}
use Rattle.elimination.specs.Elimination.{End, at, hold, small, step, Outcome, end_number, outcome_of, run, eliminated, stepped, Through, StopsAt, Numbered}
use Rattle.elimination.proofs.Hold.{hold_below}
use Rattle.elimination.proofs.Run.{refuses, begins, stops, goes_on, ends}

-- a step that goes through takes the run one step on
on : (skip : Bool) (s n : ℕ) (xs : List Float) → Through skip s n xs → eliminated skip s xs ≡ run skip s (s - n) n (stepped skip s n xs)
unfolding stepped
on skip s zero xs t = begins skip s xs (le-ltb (length xs) (2 * s * s) t.whole)
on skip s (suc n) xs t =
    let ys : List Float = stepped skip s n xs in
    let h : n < s = t.steps in
    on skip s n xs (record { whole = t.whole; steps = omega arith; none = λ k b. t.none k (omega arith) })
    ∙ goes_on skip s n ys h (t.none n (omega arith))
    ∙ ap (λ (m : ℕ). run skip s (s - m) m (step skip s n ys)) (add-one n)

pub stopped : (skip : Bool) (s i : ℕ) (xs : List Float) → StopsAt skip s i xs → eliminated skip s xs ≡ outcome_of (Err (Pivot i)) (stepped skip s i xs)
stopped skip s i xs t = on skip s i xs t.before ∙ stops skip s i (stepped skip s i xs) t.reached t.below

pub finished : (skip : Bool) (s : ℕ) (xs : List Float) → Through skip s s xs → eliminated skip s xs ≡ outcome_of (Ok tt) (stepped skip s s xs)
finished skip s xs t = on skip s s xs t ∙ ends skip s s (stepped skip s s xs) refl

pub refused : (skip : Bool) (s : ℕ) (xs : List Float) → length xs < 2 * s * s → eliminated skip s xs ≡ outcome_of (Err TooShort) xs
refused skip s xs h = refuses skip s xs (lt-ltb (length xs) (2 * s * s) h)

-- either n steps go through, or one below n is the first that stops
data Ways (skip : Bool) (s n : ℕ) (xs : List Float) : Type 0 where
  short : length xs < 2 * s * s → Ways skip s n xs
  through : Through skip s n xs → Ways skip s n xs
  stop : (i : ℕ) → StopsAt skip s i xs → Ways skip s n xs

one_more : (skip : Bool) (s n : ℕ) (xs : List Float) → n < s → (b : Bool) → small s n (stepped skip s n xs) ≡ b → Through skip s n xs → Ways skip s (suc n) xs
one_more skip s n xs h true e t = stop n (record { before = t; reached = h; below = e })
one_more skip s n xs h false e t =
    through (record {
      whole = t.whole;
      steps = h;
      none = λ k b. below_more (λ (k : ℕ). small s k (stepped skip s k xs) ≡ false) n t.none e k
          (rw add-one b);
    })

ways : (skip : Bool) (s n : ℕ) (xs : List Float) → n ≤ s → Ways skip s n xs
ways skip s zero xs h =
    elim (dec_lt (length xs) (2 * s * s)) [
      | yes l ↦ short l
      | no l ↦ through (record { whole = omega arith; steps = h; none = λ k b. absurd (not-suc-le-zero b) })
    ]
ways skip s (suc n) xs h = further (ways skip s n xs (omega arith))
  where
    further : Ways skip s n xs → Ways skip s (suc n) xs
    further (short l) = short l
    further (through t) = one_more skip s n xs h (small s n (stepped skip s n xs)) refl t
    further (stop i t) = stop i t

answer_of_lem : {o : Outcome} {a : End} {xs : List Float} → o ≡ outcome_of a xs → o.answer ≡ a
answer_of_lem e = ap (λ (o : Outcome). o.answer) e

-- an answer is one of the three, and names one step
stopped_short : (a : End) (i : ℕ) → a ≡ Err (Pivot i) → a ≡ Err TooShort → ⊥
stopped_short a i p q = let z : ◌≡◌ {A = ℕ} 0 1 = cc in omega arith

stopped_done : (a : End) (i : ℕ) → a ≡ Err (Pivot i) → a ≡ Ok tt → ⊥
stopped_done a i p q = let z : ◌≡◌ {A = ℕ} 0 1 = cc in omega arith

done_short : (a : End) → a ≡ Ok tt → a ≡ Err TooShort → ⊥
done_short a p q = let z : ◌≡◌ {A = ℕ} 0 1 = cc in omega arith

same_step : (a : End) (i j : ℕ) → a ≡ Err (Pivot i) → a ≡ Err (Pivot j) → j ≡ i
same_step a i j p q = cc

pub stops_exactly : (skip : Bool) (s i : ℕ) (xs : List Float) → ((eliminated skip s xs).answer ≡ Err (Pivot i)) ↔ StopsAt skip s i xs
stops_exactly skip s i xs = (λ e. from e (ways skip s s xs (omega arith)), λ t. answer_of_lem (stopped skip s i xs t))
  where
    from : (eliminated skip s xs).answer ≡ Err (Pivot i) → Ways skip s s xs → StopsAt skip s i xs
    from e (short l) = absurd (stopped_short _ i e (answer_of_lem (refused skip s xs l)))
    from e (through t) = absurd (stopped_done _ i e (answer_of_lem (finished skip s xs t)))
    from e (stop j t) = subst (λ (k : ℕ). StopsAt skip s k xs) (same_step _ i j e (answer_of_lem (stopped skip s j xs t))) t

pub done_exactly : (skip : Bool) (s : ℕ) (xs : List Float) → ((eliminated skip s xs).answer ≡ Ok tt) ↔ Through skip s s xs
done_exactly skip s xs = (λ e. from e (ways skip s s xs (omega arith)), λ t. answer_of_lem (finished skip s xs t))
  where
    from : (eliminated skip s xs).answer ≡ Ok tt → Ways skip s s xs → Through skip s s xs
    from e (short l) = absurd (done_short _ e (answer_of_lem (refused skip s xs l)))
    from e (through t) = t
    from e (stop j t) = absurd (stopped_done _ j (answer_of_lem (stopped skip s j xs t)) e)

pub refused_exactly : (skip : Bool) (s : ℕ) (xs : List Float) → ((eliminated skip s xs).answer ≡ Err TooShort) ↔ (length xs < 2 * s * s)
refused_exactly skip s xs = (λ e. from e (ways skip s s xs (omega arith)), λ l. answer_of_lem (refused skip s xs l))
  where
    from : (eliminated skip s xs).answer ≡ Err TooShort → Ways skip s s xs → length xs < 2 * s * s
    from e (short l) = l
    from e (through t) = absurd (done_short _ (answer_of_lem (finished skip s xs t)) e)
    from e (stop j t) = absurd (stopped_short _ j (answer_of_lem (stopped skip s j xs t)) e)

-- ---- its number
pub numbered : (skip : Bool) (s : ℕ) (xs : List Float) (r : End) → (eliminated skip s xs).answer ≡ r → Numbered skip s xs (end_number r)
numbered skip s xs (Ok tt) e = record {
  seventeen = (λ n. absurd (omega arith), λ l. absurd (done_short _ e ((refused_exactly skip s xs).1 l)));
  nineteen = (λ n. absurd (omega arith), λ t. absurd (stopped_done _ t.0 ((stops_exactly skip s t.0 xs).1 t.1) e));
  none = (λ n. (done_exactly skip s xs).0 e, λ t. refl);
}
numbered skip s xs (Err (Pivot i)) e = record {
  seventeen = (λ n. absurd (omega arith), λ l. absurd (stopped_short _ i e ((refused_exactly skip s xs).1 l)));
  nineteen = (λ n. (i, (stops_exactly skip s i xs).0 e), λ t. refl);
  none = (λ n. absurd (omega arith), λ t. absurd (stopped_done _ i e ((done_exactly skip s xs).1 t)));
}
numbered skip s xs (Err TooShort) e = record {
  seventeen = (λ n. (refused_exactly skip s xs).0 e, λ l. refl);
  nineteen = (λ n. absurd (omega arith), λ t. absurd (stopped_short _ t.0 ((stops_exactly skip s t.0 xs).1 t.1) e));
  none = (λ n. absurd (omega arith), λ t. absurd (done_short _ ((done_exactly skip s xs).1 t) e));
}

-- of an answer that a call gives
pub numbered_there : (skip : Bool) (s : ℕ) (xs ys : List Float) (r : End) → outcome_of r ys ≡ eliminated skip s xs → Numbered skip s xs (end_number r)
numbered_there skip s xs ys r e = numbered skip s xs r (ap (λ (o : Outcome). o.answer) (sym e))

-- ---- a first column of zeros
below_epsilon : lt (abs_of zero_float) epsilon ≡ true
unfolding lt of_bits
below_epsilon = refl

-- a first column of zeros stops step 0: whichever row is held, its magnitude is 0
pub zero_column : (skip : Bool) (s : ℕ) (xs : List Float) → 0 < s → 2 * s * s ≤ length xs
    → ((r : ℕ) → r < s → at (2 * s) xs r 0 ≡ zero_float) → StopsAt skip s 0 xs
unfolding small stepped
zero_column skip s xs p l z = record {
  before = record { whole = l; steps = omega arith; none = λ k b. absurd (not-suc-le-zero b) };
  reached = p;
  below = ap (λ (x : Float). lt (abs_of x) epsilon) (z (hold s 0 xs) (hold_below s 0 xs p)) ∙ below_epsilon;
}
