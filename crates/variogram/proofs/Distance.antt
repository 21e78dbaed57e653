-- Laws of the distances: which dimensions are offered, a point past the end of its list, the distance back, and that the two distances agree.
use Prim.Native.Nat.{ℕ, zero, suc, ◌+◌, ◌*◌, ◌≤◌, ◌<◌}
use native.Mathlib.Nat.{mul-le-mul_left, mul-one}
use native.Mathlib.Omega.{arith}
use mathlib.Core.Path.{◌≡◌, refl, ◌∙◌, subst}
use mathlib.Core.Bool.{Bool, true, false, ◌&&◌}
use mathlib.Core.List.{List}
use lib.Dec.{leb}
use lib.ListN.{length, get_or-eq_default}
use lib.Ieee.{Float, nan, binary64, sub, mul, neg}
use Rattle.ieee.specs.Sums.{add_each}
use borrow.Author.Tests.{le-leb, lt-leb, leb-true, leb-false}
use Rattle.ieee.specs.Root.{sqrt_of}
use Rattle.ieee.proofs.RoundingSum.{add_nan}
use Rattle.variogram.specs.Distance.{square, squared_distance2d, distance2d, squares, axis_from, offered, has_point, distance}
use Rattle.variogram.proofs.Squares.{square_opposite, plus_square}

-- ---- the dimensions
pub none_offered : (d : ℕ) → d < 1 → offered d ≡ false
none_offered d h = rw (lt-leb 1 d h)

pub too_many_offered : (d : ℕ) → 3 < d → offered d ≡ false
too_many_offered d h = rw (le-leb 1 d (omega arith), lt-leb d 3 h)

pub is_offered : (d : ℕ) → 1 ≤ d → d ≤ 3 → offered d ≡ true
is_offered d h g = rw (le-leb 1 d h, le-leb d 3 g)

pub at_least : (i d : ℕ) → 1 ≤ d → i ≤ i * d
at_least i d h = subst (λ (n : ℕ). n ≤ i * d) (mul-one i) (mul-le-mul_left i h)

pub at_most : (i d : ℕ) → d ≤ 3 → i * d ≤ i * 3
at_most i d h = mul-le-mul_left i h

-- ---- the distance back
pub squares_opposite : (a b : ℕ → Float) (k : ℕ) → squares a b k ≡ squares b a k
unfolding add_each
squares_opposite a b zero = refl
squares_opposite a b (suc k) = rw (squares_opposite a b k, square_opposite (a k) (b k))

-- the distance from a to b has the bits of that from b to a: in the fit
pub distance2d_back : (ax ay bx by : Float) → distance2d ax ay bx by ≡ distance2d bx by ax ay
unfolding distance2d squared_distance2d
distance2d_back ax ay bx by = rw (square_opposite ax bx, square_opposite ay by)

-- and in the older calls
pub distance_back : (xs : List Float) (i : ℕ) (ys : List Float) (j d : ℕ) → distance xs i ys j d ≡ distance ys j xs i d
unfolding distance
distance_back xs i ys j d = rw (squares_opposite (axis_from xs (i * d)) (axis_from ys (j * d)) d)

-- ---- over two axes the two distances agree
pub distance_plane : (xs : List Float) (i : ℕ) (ys : List Float) (j : ℕ)
    → distance xs i ys j 2 ≡ distance2d (axis_from xs (i * 2) 0) (axis_from xs (i * 2) 1) (axis_from ys (j * 2) 0) (axis_from ys (j * 2) 1)
unfolding distance distance2d squared_distance2d add_each
distance_plane xs i ys j = rw (plus_square (sub binary64 (axis_from xs (i * 2) 0) (axis_from ys (j * 2) 0)))

-- ---- a point past the end of its list
sub_nan : (x : Float) → sub binary64 x nan ≡ nan
unfolding sub neg
sub_nan x = add_nan x

-- the square of a difference with a NaN
square_nan : (x : Float) → square (sub binary64 x nan) ≡ nan
unfolding mul
square_nan x = rw (sub_nan x)

-- Where the last axis of one of the points is a NaN, so is the sum.
last_nan : (a b : ℕ → Float) (k : ℕ) → b k ≡ nan → squares a b (suc k) ≡ nan
unfolding add_each
last_nan a b k h = rw (h, square_nan (a k), add_nan (squares a b k))

root_nan : sqrt_of nan ≡ nan
unfolding sqrt_of
root_nan = refl

-- A point that does not lie in its list is at a distance that is a NaN, and so is every point where the dimension is not offered.
pub past_end : (xs : List Float) (i : ℕ) (ys : List Float) (j d : ℕ) → has_point ys j d ≡ false → distance xs i ys j d ≡ nan
unfolding distance
past_end xs i ys j zero h = refl
past_end xs i ys j (suc k) h = go (offered (suc k)) refl
  where
    go : (b : Bool) → offered (suc k) ≡ b → distance xs i ys j (suc k) ≡ nan
    go false e = rw e
    go true e =
        let t : leb (j * suc k + suc k) (length ys) ≡ false = rw e at h in
        let past : length ys < j * suc k + suc k = leb-false (j * suc k + suc k) (length ys) t in
        let last : length ys ≤ j * suc k + k = omega arith in
        rw (e, last_nan (axis_from xs (i * suc k)) (axis_from ys (j * suc k)) k (get_or-eq_default ys nan last)) root_nan

-- and so from either side
pub past_start : (xs : List Float) (i : ℕ) (ys : List Float) (j d : ℕ) → has_point xs i d ≡ false → distance xs i ys j d ≡ nan
past_start xs i ys j d h = distance_back xs i ys j d ∙ past_end ys j xs i d h

-- ---- a point that lies in its list
and_first : (a b : Bool) → (a && b) ≡ true → a ≡ true
and_first true b h = refl
and_first false b h = h

and_second : (a b : Bool) → (a && b) ≡ true → b ≡ true
and_second true b h = h
and_second false b h = cc

module _ (xs : List Float) (i d : ℕ) (h : has_point xs i d ≡ true) where
  pub point_offered : offered d ≡ true
  point_offered = and_first (offered d) (leb (i * d + d) (length xs)) h

  pub point_within : i * d + d ≤ length xs
  point_within = leb-true (i * d + d) (length xs) (and_second (offered d) (leb (i * d + d) (length xs)) h)

pub distance_offered : (xs : List Float) (i : ℕ) (ys : List Float) (j d : ℕ) → offered d ≡ true
    → distance xs i ys j d ≡ sqrt_of (squares (axis_from xs (i * d)) (axis_from ys (j * d)) d)
unfolding distance
distance_offered xs i ys j d h = rw h
