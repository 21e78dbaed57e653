-- "Bin = floor(distance/width), NaN as 0, above the last as the last": of every pair of an accepted call.
-- Its distance/width is a NaN or has a clear sign.
use Prim.Native.Nat.{ℕ, ◌-◌, ◌*◌, ◌/◌, ◌^◌, ◌≤◌, ◌<◌, min}
use native.Mathlib.Omega.{arith}
use mathlib.Core.Path.{◌≡◌, refl, ap, ◌∙◌}
use mathlib.Core.Logic.{◌⊎◌, inl, inr}
use mathlib.Core.Bool.{Bool, true, false, cond}
use lib.Dec.{T, eqb}
use lib.Ieee.{Float, nan, inf, binary64, fits, up, down, round, div, of_int, to_unsigned}
use lib.Ieee.Fits.{div-fits}
use lib.Ieee.Scale.{finite}
use Rattle.ieee.specs.Floats.{floor_of}
use Rattle.ieee.specs.Values.{multiple, sign_of, Signed, infinite, number}
use Rattle.ieee.proofs.CastOrder.{whole_part, floor_cast}
use Rattle.ieee.proofs.Signs.{round_signed}
use Rattle.semivariogram_theory.specs.Pairs.{Pair, pair}
use Rattle.semivariogram_theory.specs.Call.{Samples, Areas, samples}
use Rattle.semivariogram_theory.specs.Bins.{as_float, lag, longest, width, bin_of}
use Rattle.semivariogram_theory.specs.Binned.{quotient, BinOf}
use Rattle.semivariogram_theory.proofs.Pairs.{every_pair}
use Rattle.semivariogram_theory.proofs.Accepted.{Accepted}
use Rattle.semivariogram_theory.proofs.Farthest.{lag_clear, longest_clear}

-- ---- a NaN, or a number or an infinity with a clear sign
abbrev Clear : Float → Type 0
Clear x = (x ≡ nan) ⊎ Signed false x

clear_sign : (x : Float) → Clear x → sign_of x ≡ false
clear_sign x (inl e) = ap sign_of e
clear_sign x (inr s) = go x s
  where
    go : (y : Float) → Signed false y → sign_of y ≡ false
    go y infinite = refl
    go y (number m e) = refl

-- a whole number has a clear sign
count_clear : (n : ℕ) → Signed false (as_float n)
unfolding of_int
count_clear n = round_signed false n 1

-- and a quotient of such numbers is a NaN or has one
quotient_clear : (x y : Float) → Signed false x → Signed false y → Clear (div binary64 x y)
unfolding div
quotient_clear x y infinite infinite = inl refl
quotient_clear x y infinite (number n d) = inr infinite
quotient_clear x y (number m e) infinite = inr (number _ _)
quotient_clear x y (number m e) (number n d) = go (eqb n 0) (eqb m 0)
  where
    go : (b c : Bool) → Clear (cond b (cond c nan (inf false)) (round binary64 false (m * up e * down d) (n * up d * down e)))
    go true true = inl refl
    go true false = inr infinite
    go false c = inr (round_signed false (m * up e * down d) (n * up d * down e))

by_nan : (x : Float) → Signed false x → div binary64 x nan ≡ nan
unfolding div
by_nan x infinite = refl
by_nan x (number m e) = refl

by_clear : (x y : Float) → Signed false x → Clear y → Clear (div binary64 x y)
by_clear x y s (inl e) = inl (ap (λ (z : Float). div binary64 x z) e ∙ by_nan x s)
by_clear x y s (inr t) = quotient_clear x y s t

-- ---- the bin by its quotient
bin_is : (q : Samples) (p : Pair) → bin_of q p ≡ min (to_unsigned 64 (floor_of (quotient q p))) (q.bins - 1)
unfolding bin_of width
bin_is q p = refl

of_nan : to_unsigned 64 (floor_of nan) ≡ 0
unfolding to_unsigned floor_of
of_nan = refl

of_infinity : to_unsigned 64 (floor_of (inf false)) ≡ 2 ^ 64 - 1
unfolding to_unsigned floor_of
of_infinity = refl

-- of a number that is not negative it is the whole part
floor_part : (x : Float) → T (fits binary64 x) → T (finite x) → sign_of x ≡ false → to_unsigned 64 (floor_of x) ≡ min (multiple x / 2 ^ 1074) (2 ^ 64 - 1)
floor_part x f h s = floor_cast x f ∙ whole_part x f h s

-- no bin lies past the cast's end
capped : (w b : ℕ) → b ≤ 64 → min (min w (2 ^ 64 - 1)) (b - 1) ≡ min w (b - 1)
capped w b l = omega arith

last_bin : (b : ℕ) → b ≤ 64 → min (2 ^ 64 - 1) (b - 1) ≡ b - 1
last_bin b l = omega arith

module _ (q : Samples) (a : Areas) (k : Accepted q a) where
  quotients_clear : (i j : ℕ) → i < j → j < samples q → Clear (quotient q (pair i j))
  quotients_clear i j l m =
      by_clear (lag q (pair i j)) (div binary64 (longest q) (as_float q.bins)) (lag_clear q a k (pair i j) ((every_pair (pair i j) (samples q)).1 (l, m)))
      (quotient_clear (longest q) (as_float q.bins) (longest_clear q a k) (count_clear q.bins))

  pub bin_of_lem : (i j : ℕ) → i < j → j < samples q → BinOf q (pair i j) (bin_of q (pair i j))
  bin_of_lem i j l m =
      let p : Pair = pair i j in
      let x : Float = quotient q p in
      let few : q.bins ≤ 64 = k.bins.1 in
      let s : sign_of x ≡ false = clear_sign x (quotients_clear i j l m) in
      let f : T (fits binary64 x) = div-fits binary64 (lag q p) (div binary64 (longest q) (as_float q.bins)) in
      let by : (y : Float) (n : ℕ) → x ≡ y → to_unsigned 64 (floor_of y) ≡ n → bin_of q p ≡ min n (q.bins - 1) = λ y n e g.
      bin_is q p ∙ ap (λ (z : Float). min (to_unsigned 64 (floor_of z)) (q.bins - 1)) e ∙ ap (λ (n : ℕ). min n (q.bins - 1)) g in
      record {
        not_negative = s;
        number = λ h. by x (min (multiple x / 2 ^ 1074) (2 ^ 64 - 1)) refl (floor_part x f h s) ∙ capped (multiple x / 2 ^ 1074) q.bins few;
        not_a_number = λ e. by nan 0 e of_nan ∙ none (q.bins - 1);
        infinite = λ e. by (inf false) (2 ^ 64 - 1) e of_infinity ∙ last_bin q.bins few;
      }
    where
      none : (n : ℕ) → min 0 n ≡ 0
      none n = omega arith
