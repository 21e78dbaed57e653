-- Places, and the drift functions f_l of a place: Chilès and Delfiner, Geostatistics, chapter 3, "basis functions".
use Rattle.std.specs.Prelude.{ℕ, zero, suc, Float}
use Rattle.std.specs.Float.{binary64}
use Rattle.std.specs.Float.Ieee.{mul}
use Rattle.ieee.specs.Floats.{one_float}

-- a place: its number on each axis, x and y first, and the value of each external column there
pub record Place : Type 0 where
  pub axis : ℕ → Float
  pub external : ℕ → Float

-- the axes of a place in the plane
abbrev pub in_plane : Float → Float → ℕ → Float
in_plane x y zero = x
in_plane x y (suc k) = y

-- a function of the place: a monomial of its first two coordinates, or an external column
pub data Monomial : Type 0 where
  One X Y XX XY YY : Monomial
  External : ℕ → Monomial

-- its value at a place: one function, for wells and nodes alike
unfoldable pub value_of : Monomial → Place → Float
value_of One a = one_float
value_of X a = a.axis 0
value_of Y a = a.axis 1
value_of XX a = mul binary64 (a.axis 0) (a.axis 0)
value_of XY a = mul binary64 (a.axis 0) (a.axis 1)
value_of YY a = mul binary64 (a.axis 1) (a.axis 1)
value_of (External c) a = a.external c
