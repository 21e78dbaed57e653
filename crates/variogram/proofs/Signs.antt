-- The distance of two points with finite coordinates is a number or infinity with a clear sign.
use Prim.Native.Nat.{ℕ, zero, suc, ◌*◌, ◌<◌}
use native.Mathlib.Omega.{arith}
use mathlib.Core.Path.{◌≡◌, sym, subst}
use mathlib.Core.Bool.{true, false}
use mathlib.Core.List.{List}
use lib.Dec.{T}
use lib.Ieee.{Float, binary64, sub, of_bits}
use lib.Ieee.Scale.{finite}
use Rattle.ieee.specs.Sums.{add_each}
use Rattle.ieee.specs.Values.{Signed, number}
use Rattle.ieee.proofs.Signs.{difference, square_clear, add_clear, root_clear}
use Rattle.variogram.specs.Distance.{square, squared_distance2d, distance2d, squares, axis_from, offered, distance}
use Rattle.variogram.proofs.Distance.{distance_offered}

pub squares_clear : (a b : ℕ → Float) (k : ℕ) → ((i : ℕ) → i < k → T (finite (a i))) → ((i : ℕ) → i < k → T (finite (b i))) → Signed false (squares a b k)
unfolding add_each of_bits
squares_clear a b zero f g = number _ _
squares_clear a b (suc k) f g =
    let d = difference (a k) (b k) (f k (omega arith)) (g k (omega arith)) in
    add_clear (squares a b k) (square (sub binary64 (a k) (b k))) (squares_clear a b k (λ i l. f i (omega arith)) (λ i l. g i (omega arith)))
    (square_clear d.0 (sub binary64 (a k) (b k)) d.1)

-- of the fit
pub distance2d_clear : (ax ay bx by : Float) → T (finite ax) → T (finite ay) → T (finite bx) → T (finite by) → Signed false (distance2d ax ay bx by)
unfolding distance2d squared_distance2d
distance2d_clear ax ay bx by fx fy gx gy =
    let dx = difference ax bx fx gx in
    let dy = difference ay by fy gy in
    root_clear _
    (add_clear (square (sub binary64 ax bx)) (square (sub binary64 ay by))
    (square_clear dx.0 (sub binary64 ax bx) dx.1)
    (square_clear dy.0 (sub binary64 ay by) dy.1))

-- of the older calls
pub distance_clear : (xs : List Float) (i : ℕ) (ys : List Float) (j d : ℕ) → offered d ≡ true
    → ((k : ℕ) → k < d → T (finite (axis_from xs (i * d) k))) → ((k : ℕ) → k < d → T (finite (axis_from ys (j * d) k))) → Signed false (distance xs i ys j d)
distance_clear xs i ys j d o f g =
    subst (Signed false) (sym (distance_offered xs i ys j d o)) (root_clear _ (squares_clear (axis_from xs (i * d)) (axis_from ys (j * d)) d f g))
