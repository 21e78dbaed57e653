-- A point with finite coordinates is at distance +0 from itself, and so its variogram with itself is +0, where the same-spot distance is above zero.
use Prim.Native.Nat.{ℕ, zero, suc, ◌*◌, ◌<◌}
use native.Mathlib.Omega.{arith}
use mathlib.Core.Path.{◌≡◌, refl, ap, ◌∙◌}
use mathlib.Core.Bool.{true}
use mathlib.Core.List.{List}
use lib.Dec.{T}
use lib.Ieee.{Float, nan, inf, fin, binary64, sub, mul, lt, of_bits}
use lib.Ieee.Scale.{finite}
use Rattle.ieee.specs.Sums.{add_each}
use Rattle.ieee.specs.Root.{sqrt_of}
use Rattle.ieee.proofs.Zero.{sub_self}
use Rattle.variogram.specs.declared.Variogram.{Variogram}
use Rattle.ieee.specs.Floats.{zero_float}
use Rattle.variogram.specs.Model.{semivariance}
use Rattle.variogram.specs.Distance.{square, squared_distance2d, distance2d, squares, axis_from, offered, distance}
use Rattle.variogram.proofs.Model.{same_spot}
use Rattle.variogram.proofs.Squares.{plus_square}
use Rattle.variogram.proofs.Distance.{distance_offered}

square_itself : (x : Float) → T (finite x) → square (sub binary64 x x) ≡ zero_float
unfolding mul of_bits
square_itself nan f = absurd f
square_itself (inf s) f = absurd f
square_itself (fin s m e) f = rw (sub_self s m e)

root_zero : sqrt_of zero_float ≡ zero_float
unfolding sqrt_of of_bits
root_zero = refl

-- in the fit
pub distance2d_itself : (x y : Float) → T (finite x) → T (finite y) → distance2d x y x y ≡ zero_float
unfolding distance2d squared_distance2d
distance2d_itself x y f g = rw (square_itself x f, plus_square (sub binary64 y y), square_itself y g) root_zero

-- in the older calls
squares_itself : (a : ℕ → Float) (d : ℕ) → ((k : ℕ) → k < d → T (finite (a k))) → squares a a d ≡ zero_float
unfolding add_each
squares_itself a zero f = refl
squares_itself a (suc d) f =
    rw (squares_itself a d (λ k h. f k (omega arith)), plus_square (sub binary64 (a d) (a d))) (square_itself (a d) (f d (omega arith)))

pub distance_itself : (xs : List Float) (i d : ℕ) → offered d ≡ true → ((k : ℕ) → k < d → T (finite (axis_from xs (i * d) k))) → distance xs i xs i d ≡ zero_float
distance_itself xs i d o f = distance_offered xs i xs i d o ∙ ap sqrt_of (squares_itself (axis_from xs (i * d)) d f) ∙ root_zero

-- +0 is below every same-spot distance above it
pub variogram_itself : (v : Variogram) → lt zero_float v.same_spot ≡ true → semivariance v zero_float ≡ zero_float
variogram_itself v near = same_spot v zero_float near
