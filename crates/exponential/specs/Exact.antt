-- What holds of e^−u and of the table: paper 02, Slip 1.
use Rattle.std.specs.Prelude.{◌≡◌, ℕ, ◌^◌, ◌<◌, ◌≤◌, true, false, T, length, pos, slice_index, slice_index_or, Float}
use Rattle.std.specs.Float.{nan, inf, fin, binary64}
use Rattle.std.specs.Float.Ieee.{fits, le, lt}
use Rattle.std.specs.Float.Ieee.Scale.{finite}
use Rattle.ieee.specs.Floats.{zero_float, one_float}
use Rattle.ieee.specs.Values.{multiple, sign_of}
use Rattle.series.specs.Bracket.{Within}
use Rattle.exponential.specs.Exponential.{fraction_table, exp_neg}

-- "the result lies within 2^-50 of the exact value", u and r as whole multiples of 2^-1074, of which 2^1024 are 2^-50; and it lies from 0 to 1
pub record Close (u r : Float) : Type 0 where
  pub format : T (fits binary64 r)
  pub number : T (finite r)
  pub sign : sign_of r ≡ false
  pub at_most_one : multiple r ≤ 2 ^ 1074
  pub within : Within (multiple u) (2 ^ 1074) (multiple r) (2 ^ 1074) (2 ^ 1024)

-- "The program needs e^−u for finite u ≥ 0", −0 too
abbrev pub EveryClose : Type 0
EveryClose = (u : Float) → T (fits binary64 u) → T (finite u) → T (le zero_float u) → Close u (exp_neg u)

-- "An infinite u gives 0; a NaN gives NaN"; at both zeros it is 1 itself, and below zero, which the papers leave free, a NaN
pub record OtherExponentials : Type 0 where
  pub infinity : exp_neg (inf false) ≡ zero_float
  pub not_a_number : exp_neg nan ≡ nan
  pub at_zero : exp_neg (fin false 0 (pos 0)) ≡ one_float
  pub at_minus_zero : exp_neg (fin true 0 (pos 0)) ≡ one_float
  pub below_zero : (u : Float) → T (lt u zero_float) → exp_neg u ≡ nan

-- "every entry within one unit": i / 512 and units of 2^-62, 512 entries. Entry 0 is 1
pub record TableRule : Type 0 where
  pub many : length fraction_table ≡ 512
  pub entries : (i : ℕ) → i < 512 → Within i 512 (slice_index fraction_table i) (2 ^ 62) 1
  pub first : slice_index_or fraction_table 0 0 ≡ 2 ^ 62
