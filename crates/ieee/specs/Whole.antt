-- The whole part of an f64, as its pattern and as its value.
use Rattle.std.specs.Prelude.{◌≡◌, ℕ, ◌+◌, ◌*◌, ◌/◌, ◌%◌, ◌^◌, ◌<◌, ◌≤◌, true, false, T, Float}
use Rattle.std.specs.Float.{binary64}
use Rattle.std.specs.Float.Ieee.{fits}
use Rattle.std.specs.Float.Ieee.Scale.{finite}
use Rattle.ieee.specs.Values.{multiple, sign_of, fields_multiple}

-- a pattern with a clear sign that stands for the whole part of what the pattern `bits` stands for: of V multiples of 2^-1074, V / 2^1074 are the ones
pub record WholeBits (bits r : ℕ) : Type 0 where
  pub within : r ≤ bits
  pub value : fields_multiple (r / 2 ^ 52) (r % 2 ^ 52) ≡ fields_multiple (bits / 2 ^ 52) (bits % 2 ^ 52) / 2 ^ 1074 * 2 ^ 1074

-- r is the greatest whole number that is not above x, for a finite x, with the sign of x. In whole multiples of 2^-1074 a whole number is a multiple of 2^1074;
-- the greatest one is x itself or less than one below it, so in size it is not above x where x is not negative, and not below it where x is
pub record GreatestWhole (x r : Float) : Type 0 where
  pub format : T (fits binary64 r)
  pub number : T (finite r)
  pub sign : sign_of r ≡ sign_of x
  pub whole : multiple r % 2 ^ 1074 ≡ 0
  pub above_zero : sign_of x ≡ false → (multiple r ≤ multiple x) × (multiple x < multiple r + 2 ^ 1074)
  pub below_zero : sign_of x ≡ true → (multiple x ≤ multiple r) × (multiple r < multiple x + 2 ^ 1074)
