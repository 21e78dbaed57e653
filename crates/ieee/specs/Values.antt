-- The value of a finite f64 as a whole multiple of 2^-1074, the smallest f64 above zero, in the kit's account of a float: `fin s m e` is m * 2^e with the
-- sign s.
-- Every finite f64 is such a multiple (proofs/Fields.antt).
use Rattle.std.specs.Prelude.{ℕ, zero, suc, ◌+◌, ◌*◌, ◌/◌, ◌^◌, Bool, true, false, ℤ, pos, neg_ℤ, Float}
use Rattle.std.specs.Float.{nan, inf, fin}
use Rattle.std.specs.Float.Ieee.{up, down}

-- the magnitude, and 0 for what is not finite
abbrev pub multiple : Float → ℕ
multiple nan = 0
multiple (inf s) = 0
multiple (fin s m e) = m * up e * 2 ^ 1074 / down e

-- the sign, a zero's too: true for negative; false for a NaN, which has none
abbrev pub sign_of : Float → Bool
sign_of nan = false
sign_of (inf s) = s
sign_of (fin s m e) = s

-- a magnitude with a sign
abbrev pub signed : Bool → ℕ → ℤ
signed false n = pos n
signed true n = neg_ℤ (pos n)

-- the value
abbrev pub value_of : Float → ℤ
value_of x = signed (sign_of x) (multiple x)

-- the magnitude that an exponent field e and a 52-bit fraction f stand for: "f if e = 0, else (2^52 + f)·2^(e−1)"
abbrev pub fields_multiple : ℕ → ℕ → ℕ
fields_multiple zero f = f
fields_multiple (suc e) f = (2 ^ 52 + f) * 2 ^ e

-- a number or an infinity with the sign s
pub data Signed (s : Bool) : Float → Type 0 where
  infinite : Signed s (inf s)
  number : (m : ℕ) (e : ℤ) → Signed s (fin s m e)
