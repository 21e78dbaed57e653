-- The cases of interpolations, each computed by the definitions.
use mathlib.Core.Path.{refl}
use lib.Ieee.{of_bits, to_bits, add, sub, mul, div, lt, le, eq, of_int, to_unsigned, round}
use Rattle.interpolator_theory.specs.Interpolation.{interpolated}
use Rattle.cases.specs.InterpolationCases.{InterpolationCases, OnALine, InThePlane, InSpace}

on_a_line : OnALine
unfolding interpolated add sub mul div lt le eq of_int to_unsigned round of_bits to_bits
on_a_line = refl

in_the_plane : InThePlane
unfolding interpolated add sub mul div lt le eq of_int to_unsigned round of_bits to_bits
in_the_plane = refl

in_space : InSpace
unfolding interpolated add sub mul div lt le eq of_int to_unsigned round of_bits to_bits
in_space = refl

pub interpolation_cases : InterpolationCases
interpolation_cases = record { on_a_line = on_a_line; in_the_plane = in_the_plane; in_space = in_space }
