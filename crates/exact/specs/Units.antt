-- A finite f64 as a whole number of the smallest f64 above zero, 2^-1074.
use Rattle.std.specs.Prelude.{ℕ, ◌/◌, ◌%◌, ◌^◌, Bool, cond, ℤ, pos, nat_le, to_bits, Float}
use Rattle.std.specs.Float.{binary64}
use Rattle.std.specs.Float.Ieee.Scale.{finite}
use Rattle.ieee.specs.Values.{signed, fields_multiple}

-- the fields of a bit pattern: the sign in the highest bit, eleven bits of the exponent, 52 of the fraction
abbrev pub exponent_field : ℕ → ℕ
exponent_field b = b % 2 ^ 63 / 2 ^ 52

abbrev pub fraction_field : ℕ → ℕ
fraction_field b = b % 2 ^ 52

abbrev pub sign_bit : ℕ → Bool
sign_bit b = nat_le (2 ^ 63) b

-- "A finite f64 with exponent field e and 52-bit fraction f is a whole multiple of 2^-1074: f if e = 0, else (2^52 + f)·2^(e−1), signed."
-- What is not finite counts as 0.
unfoldable pub units : Float → ℤ
units x =
    cond (finite x) (signed (sign_bit (to_bits binary64 x)) (fields_multiple (exponent_field (to_bits binary64 x)) (fraction_field (to_bits binary64 x)))) (pos 0)
