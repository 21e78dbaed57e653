-- The cases, each by computation.
use mathlib.Core.Path.{refl}
use lib.Ieee.{of_bits, to_bits}
use Rattle.report.specs.Numerals.{digit, in_tens, decimal_text, in_sixteens, hex_text, bits_of, bits_text}
use Rattle.report.specs.Listing.{listing, refused_text}
use Rattle.report.specs.Printed.{printed, listed}
use Rattle.report.specs.Cases.{Cases}

pub cases : Cases
unfolding digit in_tens decimal_text in_sixteens hex_text bits_of bits_text listing refused_text printed listed of_bits to_bits
cases = record {
  bytes = refl;
  case_b_lem = refl;
  just_room = refl;
  more_room = refl;
  less_room = refl;
  two_figures = refl;
  two_variances = refl;
  two_trends = refl;
  no_trend_lem = refl;
  case_c = refl;
  trend_nan = refl;
  any_nan = refl;
  every_digit = refl;
  minus_zero = refl;
  no_node_lem = refl;
  two_columns_lem = refl;
  ten_nodes = refl;
  refused_9 = refl;
  refused_16 = refl;
  refusal_with_room = refl;
  refusal_without = refl;
  reached = refl;
}
