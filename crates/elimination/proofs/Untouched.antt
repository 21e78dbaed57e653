-- The whole elimination keeps the area's length and leaves what lies past 2·s·s as it was, for every s and every area: "all past the named lengths is
-- untouched".
use Prim.Native.Nat.{ℕ, zero, suc, ◌+◌, ◌*◌, ◌≤◌}
use native.Mathlib.Omega.{arith}
use mathlib.Core.Path.{◌≡◌}
use mathlib.Core.Bool.{Bool, true, false, cond}
use mathlib.Core.List.{List}
use lib.Dec.{ltb}
use lib.ListN.{length, get_or}
use lib.Ieee.{Float, nan}
use Rattle.area.specs.Area.{Kept}
use Rattle.area.proofs.Kept.{kept_same, kept_then, kept_place}
use Rattle.std.specs.Prelude.{Err}
use Rattle.elimination.specs.declared.Stop.TheVariants.{Pivot, TooShort}
use Rattle.elimination.specs.Elimination.{small, step, Outcome, outcome_of, run, eliminated}
use Rattle.elimination.proofs.Keeps.{kept_step}

-- whichever way a test goes, of two outcomes
area_of : {n : ℕ} {xs : List Float} (b : Bool) (p q : Outcome) → Kept n xs p.area → Kept n xs q.area → Kept n xs (cond b p q).area
area_of true p q h k = h
area_of false p q h k = k

-- the area that a run of n steps from step i on leaves, of at most s steps in all
kept_run : (skip : Bool) (s n i : ℕ) (xs : List Float) → i + n ≤ s → Kept (s * (2 * s)) xs (run skip s n i xs).area
unfolding run
kept_run skip s zero i xs h = kept_same (s * (2 * s)) xs
kept_run skip s (suc n) i xs h =
    let ys : List Float = step skip s i xs in
    let k : Kept (s * (2 * s)) xs ys = kept_step skip s i xs (omega arith) in
    area_of (small s i xs) (outcome_of (Err (Pivot i)) xs) (run skip s n (i + 1) ys) (kept_same (s * (2 * s)) xs)
    (kept_then k (kept_run skip s n (i + 1) ys (omega arith)))

-- the whole elimination, for every s and every area
pub kept_eliminated : (skip : Bool) (s : ℕ) (xs : List Float) → Kept (2 * s * s) xs (eliminated skip s xs).area
unfolding eliminated
kept_eliminated skip s xs =
    let e : s * (2 * s) ≡ 2 * s * s = omega arith in
    area_of (ltb (length xs) (2 * s * s)) (outcome_of (Err TooShort) xs) (run skip s s 0 xs) (kept_same (2 * s * s) xs)
    (rw e at (kept_run skip s s 0 xs (omega arith)))

-- place by place
pub untouched : (skip : Bool) (s : ℕ) (xs : List Float) (p : ℕ) → 2 * s * s ≤ p → get_or (eliminated skip s xs).area p nan ≡ get_or xs p nan
untouched skip s xs p h = kept_place (kept_eliminated skip s xs) p nan h
