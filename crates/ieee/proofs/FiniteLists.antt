-- The tests of finite numbers come out false exactly where a number is not finite.
use Rattle.std.proofs.Common.{◌≡◌, ℕ, zero, suc, ◌<◌, Bool, true, false, not, ◌&&◌, T, ◌↔◌, List, [], ◌∷◌, length, get_or, suc-le-suc, le_of_suc-le-suc, not-suc-le-zero, zero-lt-suc, arith, T_not}
use Rattle.std.specs.Cmp.{both_ways}
use Rattle.std.specs.List.{EachIndex}
use lib.Dec.{not_T}
use lib.Ieee.{Float, nan, inf, fin}
use lib.Ieee.Fits.{and_i, and_l, and_r}
use lib.Ieee.Bits.{is_true}
use lib.Ieee.Scale.{finite}
use Rattle.ieee.proofs.Zero.{holds}
use Rattle.ieee.specs.Finite.{all_finite, NotFinite, not_a_number, infinite, SomeNotFinite}

-- ---- one number
pub not_finite : (x : Float) → T (not (finite x)) ↔ NotFinite x
not_finite x = (there x, from)
  where
    there : (x : Float) → T (not (finite x)) → NotFinite x
    there nan h = not_a_number
    there (inf s) h = infinite s
    there (fin s m e) h = absurd h

    from : {x : Float} → NotFinite x → T (not (finite x))
    from not_a_number = tt
    from (infinite s) = tt

pub is_finite : (x : Float) → ¬ NotFinite x → T (finite x)
is_finite nan n = n not_a_number
is_finite (inf s) n = n (infinite s)
is_finite (fin s m e) n = tt

-- ---- a list

some_not_finite : (xs : List Float) → T (not (all_finite xs)) → SomeNotFinite xs
unfolding all_finite
some_not_finite [] h = absurd h
some_not_finite (x ∷ xs) h = go (finite x) (not_finite x).0 h (some_not_finite xs)
  where
    go : (b : Bool) → (T (not b) → NotFinite x) → T (not (b && all_finite xs)) → (T (not (all_finite xs)) → SomeNotFinite xs) → SomeNotFinite (x ∷ xs)
    go true f h ih = let r = ih h in record { place = suc r.place; inside = omega arith; is = r.is }
    go false f h ih = record { place = 0; inside = zero-lt-suc (length xs); is = f tt }

-- each number of a list of finite numbers
pub finite_at : (xs : List Float) (k : ℕ) → T (all_finite xs) → k < length xs → T (finite (get_or xs k nan))
unfolding all_finite
finite_at [] k h l = absurd (not-suc-le-zero l)
finite_at (x ∷ xs) zero h l = and_l (finite x) (all_finite xs) h
finite_at (x ∷ xs) (suc k) h l = finite_at xs k (and_r (finite x) (all_finite xs) h) (le_of_suc-le-suc l)

pub all_at : (xs : List Float) → ((k : ℕ) → k < length xs → T (finite (get_or xs k nan))) → T (all_finite xs)
unfolding all_finite
all_at [] h = tt
all_at (x ∷ xs) h = and_i (finite x) (all_finite xs) (h 0 (zero-lt-suc (length xs))) (all_at xs (λ k l. h (suc k) (suc-le-suc l)))

-- a test that holds exactly where each number is finite
pub tests_all : (xs : List Float) (b : Bool) → b ≡ true ↔ EachIndex xs (λ k. finite (get_or xs k nan) ≡ true) → b ≡ all_finite xs
tests_all xs b h =
    both_ways b (all_finite xs)
    (λ e. is_true (all_finite xs) (all_at xs (λ k l. holds (finite (get_or xs k nan)) (h.0 e k l))))
    (λ e. h.1 (λ k l. is_true (finite (get_or xs k nan)) (finite_at xs k (holds (all_finite xs) e) l)))

pub not_all_finite : (xs : List Float) → T (not (all_finite xs)) ↔ SomeNotFinite xs
not_all_finite xs = (
  some_not_finite xs,
  λ s. not_T (all_finite xs) (λ h. T_not (finite (get_or xs s.place nan)) ((not_finite (get_or xs s.place nan)).1 s.is)
      (finite_at xs s.place h s.inside)),
)
