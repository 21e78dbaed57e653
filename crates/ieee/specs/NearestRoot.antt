-- What "the f64 nearest the exact root" says over whole numbers, and the roots of what is not above zero.
use Rattle.std.specs.Prelude.{◌≡◌, ◌+◌, ◌*◌, ◌^◌, ◌<◌, true, false, T, pos, Float}
use Rattle.std.specs.Float.{nan, inf, fin, binary64}
use Rattle.std.specs.Float.Ieee.{lt, fits}
use Rattle.std.specs.Float.Ieee.Scale.{finite}
use Rattle.ieee.specs.Values.{multiple, sign_of}

-- r is the f64 nearest the exact root of x. In whole multiples of 2^-1074, with V, R and Y those of x, r and any other finite f64 y that is not negative, and
-- U = 2^1074, the root is √(V·U). It lies nearer to R than to Y: above the middle of the two where Y < R, and below it where R < Y.
pub record NearestRoot (x r : Float) : Type 0 where
  pub format : T (fits binary64 r)
  pub number : T (finite r)
  pub sign : sign_of r ≡ false
  pub below : (y : Float) → T (fits binary64 y) → T (finite y) → sign_of y ≡ false → multiple y < multiple r
      → (multiple y + multiple r) * (multiple y + multiple r) < 4 * (multiple x * 2 ^ 1074)
  pub above : (y : Float) → T (fits binary64 y) → T (finite y) → sign_of y ≡ false → multiple r < multiple y
      → 4 * (multiple x * 2 ^ 1074) < (multiple y + multiple r) * (multiple y + multiple r)

-- "√(−0) is −0, √∞ is ∞, below zero and NaN give NaN"
pub record OtherRoots (root : Float → Float) : Type 0 where
  pub positive_zero : root (fin false 0 (pos 0)) ≡ fin false 0 (pos 0)
  pub negative_zero : root (fin true 0 (pos 0)) ≡ fin true 0 (pos 0)
  pub infinity : root (inf false) ≡ inf false
  pub not_a_number : root nan ≡ nan
  pub below_zero : (x : Float) → T (lt x (fin false 0 (pos 0))) → root x ≡ nan
