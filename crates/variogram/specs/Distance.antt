-- Distances: paper 01, "Distance" (of the fit) and "Interpolator" (of the older calls).
use Rattle.std.specs.Prelude.{ℕ, ◌+◌, ◌*◌, Bool, cond, ◌&&◌, List, leb, length, get_or, Float}
use Rattle.std.specs.Float.{nan, binary64}
use Rattle.std.specs.Float.Ieee.{add, sub, mul}
use Rattle.ieee.specs.Root.{sqrt_of}
use Rattle.ieee.specs.Sums.{add_each, running_sum}

-- "`powi(2)` read as a·a"
abbrev pub square : Float → Float
square a = mul binary64 a a

-- "dx·dx + dy·dy, each operation rounded"
unfoldable pub squared_distance2d : Float → Float → Float → Float → Float
squared_distance2d ax ay bx by = add binary64 (square (sub binary64 ax bx)) (square (sub binary64 ay by))

-- "then the square root"
unfoldable pub distance2d : Float → Float → Float → Float → Float
unfolding squared_distance2d sqrt_of
distance2d ax ay bx by = sqrt_of (squared_distance2d ax ay bx by)

-- "distance sums squares by rising axis", from 0: over the first k axes of the points a and b
abbrev pub squares : (ℕ → Float) → (ℕ → Float) → ℕ → Float
squares a b k = running_sum k (λ i. square (sub binary64 (a i) (b i)))

-- a point's number on axis k, and that of the point that begins at a place of a list: a NaN past the list's end
abbrev pub axis : List Float → ℕ → Float
axis xs k = get_or xs k nan

abbrev pub axis_from : List Float → ℕ → ℕ → Float
axis_from xs start k = axis xs (start + k)

-- "d not 1, 2 or 3" is refused
abbrev pub offered : ℕ → Bool
offered d = leb 1 d && leb d 3

-- whether the point i, of d numbers, lies in a list of such points
abbrev pub has_point : List Float → ℕ → ℕ → Bool
has_point xs i d = offered d && leb (i * d + d) (length xs)

-- The distance of the point i of xs from the point j of ys, in lists of points of d numbers each, row after row.
-- Where d is not offered it is a NaN, and so where a point does not lie in its list, since an axis past the end is a NaN.
unfoldable pub distance : List Float → ℕ → List Float → ℕ → ℕ → Float
unfolding add_each sqrt_of
distance xs i ys j d = cond (offered d) (sqrt_of (squares (axis_from xs (i * d)) (axis_from ys (j * d)) d)) nan
