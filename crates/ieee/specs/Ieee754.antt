-- IEEE 754-2019 for f64: its rounding to nearest, ties to even (§4.3.1), and what it asks of a sum, a difference, a product and a quotient (§4.3, §6, §7.2,
-- §7.3).
-- An exact result is ±num / den, a fraction of two whole numbers, so the rule is said over whole numbers. How a result is worked out is not said here.
-- That the operations of the language obey it is proved in proofs/RoundingSum.antt and proofs/RoundingProduct.antt; that it leaves no other result, in
-- proofs/RoundingUnique.antt.
use Rattle.std.specs.Prelude.{◌≡◌, ℕ, ◌-◌, ◌*◌, ◌%◌, ◌^◌, ◌<◌, ◌≤◌, Bool, true, false, not, ◌&&◌, T, ◌≢◌, ℤ, pos, negsuc, ◌+ℤ◌, ◌-ℤ◌, ◌*ℤ◌, to_bits, unsigned_abs, Float}
use Rattle.std.specs.Float.{nan, inf, fin, binary64}
use Rattle.std.specs.Float.Ieee.{fits, unlike}
use Rattle.std.specs.Float.Ieee.Scale.{finite}
use Rattle.ieee.specs.Values.{multiple, sign_of, signed, value_of}

-- ---- rounding

-- how far a finite y lies from ±num / den, negative where s is true: in units of 2^-1074 / den
abbrev pub apart : Float → Bool → ℕ → ℕ → ℕ
apart y s num den = unsigned_abs (value_of y *ℤ pos den -ℤ signed s (num * 2 ^ 1074))

-- b^emax * (b - b^(1-p) / 2) for b = 2, p = 53 and emax = 1023: 2^1024 less half of the last unit below it
abbrev pub overflow_bound : ℕ
overflow_bound = (2 ^ 54 - 1) * 2 ^ 970

-- r is ±num / den, negative where s is true, rounded to an f64 as the attribute roundTiesToEven says
pub record Nearest (r : Float) (s : Bool) (num den : ℕ) : Type 0 where
  -- r is an f64
  pub in_format : T (fits binary64 r)
  -- the sign is the exact result's: a result too small for any other f64 is the zero of that sign
  pub sign : sign_of r ≡ s
  -- "an infinitely precise result with magnitude at least b^emax (b - ½ b^(1-p)) shall round to ∞ with no change in sign"
  pub over : overflow_bound * den ≤ num → r ≡ inf s
  pub under : num < overflow_bound * den → T (finite r)
  -- "the floating-point number nearest to the infinitely precise result shall be delivered"
  pub nearest : T (finite r) → (y : Float) → T (fits binary64 y) → T (finite y) → apart r s num den ≤ apart y s num den
  -- "if the two nearest floating-point numbers bracketing an unrepresentable infinitely precise result are equally near, the one with an even least
  -- significant digit shall be delivered"
  pub even : T (finite r) → (y : Float) → T (fits binary64 y) → T (finite y) → apart r s num den ≡ apart y s num den → value_of y ≢ value_of r
      → to_bits binary64 r % 2 ≡ 0

-- ---- the operations. Each is performed "as if it first produced an intermediate result correct to infinite precision and with unbounded range, and then
-- rounded that result" (§4.3).
-- Of an operation with a NaN for an input "the result shall be a quiet NaN" (§6.2), and so shall the result of an invalid one (§7.2).

abbrev pub negative : ℤ → Bool
negative (pos n) = false
negative (negsuc n) = true

-- r is x + y
pub record Sum (x y r : Float) : Type 0 where
  -- the exact sum is a whole multiple of 2^-1074
  pub rounded : T (finite x) → T (finite y) → value_of x +ℤ value_of y ≢ pos 0
      → Nearest r (negative (value_of x +ℤ value_of y)) (unsigned_abs (value_of x +ℤ value_of y)) (2 ^ 1074)
  -- §6.3: "When the sum of two operands with opposite signs .. is exactly zero, the sign of that sum .. shall be +0"; "when x is zero, x + x .. [has] the
  -- sign of x"
  pub exact_zero : T (finite x) → T (finite y) → value_of x +ℤ value_of y ≡ pos 0 → r ≡ fin (sign_of x && sign_of y) 0 (pos 0)
  -- §6.1: "addition(∞, x), addition(x, ∞) .. for finite x" are exact; and two infinities of one sign are the limiting case of two large numbers of that sign
  pub left_infinite : (s : Bool) → x ≡ inf s → T (finite y) → r ≡ inf s
  pub right_infinite : (s : Bool) → T (finite x) → y ≡ inf s → r ≡ inf s
  pub like_infinities : (s : Bool) → x ≡ inf s → y ≡ inf s → r ≡ inf s
  -- §7.2 (d): "magnitude subtraction of infinities, such as: addition(+∞, -∞)" is invalid
  pub opposite_infinities : (s : Bool) → x ≡ inf s → y ≡ inf (not s) → r ≡ nan
  pub left_nan : x ≡ nan → r ≡ nan
  pub right_nan : y ≡ nan → r ≡ nan

-- r is x - y
pub record Difference (x y r : Float) : Type 0 where
  pub rounded : T (finite x) → T (finite y) → value_of x -ℤ value_of y ≢ pos 0
      → Nearest r (negative (value_of x -ℤ value_of y)) (unsigned_abs (value_of x -ℤ value_of y)) (2 ^ 1074)
  -- §6.3: "When .. the difference of two operands with like signs .. is exactly zero, the sign of that .. difference .. shall be +0"; "when x is zero, .. x -
  -- (-x) [has] the sign of x"
  pub exact_zero : T (finite x) → T (finite y) → value_of x -ℤ value_of y ≡ pos 0 → r ≡ fin (sign_of x && not (sign_of y)) 0 (pos 0)
  -- §6.1: "subtraction(∞, x), or subtraction(x, ∞), for finite x" are exact
  pub left_infinite : (s : Bool) → x ≡ inf s → T (finite y) → r ≡ inf s
  pub right_infinite : (s : Bool) → T (finite x) → y ≡ inf s → r ≡ inf (not s)
  pub opposite_infinities : (s : Bool) → x ≡ inf s → y ≡ inf (not s) → r ≡ inf s
  -- §7.2 (d), again
  pub like_infinities : (s : Bool) → x ≡ inf s → y ≡ inf s → r ≡ nan
  pub left_nan : x ≡ nan → r ≡ nan
  pub right_nan : y ≡ nan → r ≡ nan

-- r is x * y. §6.3: "the sign of a product or quotient is the exclusive OR of the operands' signs"
pub record Product (x y r : Float) : Type 0 where
  -- the exact product is a whole multiple of 2^-2148
  pub rounded : T (finite x) → T (finite y) → Nearest r (unlike (sign_of x) (sign_of y)) (multiple x * multiple y) (2 ^ 2148)
  -- §6.1: "multiplication(∞, x) or multiplication(x, ∞) for finite or infinite x ≠ 0" are exact
  pub left_infinite : (s : Bool) → x ≡ inf s → T (finite y) → multiple y ≢ 0 → r ≡ inf (unlike s (sign_of y))
  pub right_infinite : (s : Bool) → T (finite x) → multiple x ≢ 0 → y ≡ inf s → r ≡ inf (unlike (sign_of x) s)
  pub both_infinite : (s t : Bool) → x ≡ inf s → y ≡ inf t → r ≡ inf (unlike s t)
  -- §7.2 (b): "multiplication(0, ∞) or multiplication(∞, 0)" is invalid
  pub zero_by_infinity : (s : Bool) → T (finite x) → multiple x ≡ 0 → y ≡ inf s → r ≡ nan
  pub infinity_by_zero : (s : Bool) → x ≡ inf s → T (finite y) → multiple y ≡ 0 → r ≡ nan
  pub left_nan : x ≡ nan → r ≡ nan
  pub right_nan : y ≡ nan → r ≡ nan

-- r is x / y
pub record Quotient (x y r : Float) : Type 0 where
  pub rounded : T (finite x) → T (finite y) → multiple y ≢ 0 → Nearest r (unlike (sign_of x) (sign_of y)) (multiple x) (multiple y)
  -- §7.3: "when the divisor is zero and the dividend is a finite non-zero number, the sign of the infinity is the exclusive OR of the operands' signs"
  pub by_zero : T (finite x) → T (finite y) → multiple x ≢ 0 → multiple y ≡ 0 → r ≡ inf (unlike (sign_of x) (sign_of y))
  -- §7.2 (e): "division(0, 0) or division(∞, ∞)" is invalid
  pub zero_by_zero : T (finite x) → T (finite y) → multiple x ≡ 0 → multiple y ≡ 0 → r ≡ nan
  pub both_infinite : (s t : Bool) → x ≡ inf s → y ≡ inf t → r ≡ nan
  -- §6.1: "division(∞, x) or division(x, ∞) for finite x" are exact
  pub left_infinite : (s : Bool) → x ≡ inf s → T (finite y) → r ≡ inf (unlike s (sign_of y))
  pub right_infinite : (s : Bool) → T (finite x) → y ≡ inf s → r ≡ fin (unlike (sign_of x) s) 0 (pos 0)
  pub left_nan : x ≡ nan → r ≡ nan
  pub right_nan : y ≡ nan → r ≡ nan
