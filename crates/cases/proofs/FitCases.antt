-- The cases of fits, each computed by the definitions.
use mathlib.Core.Path.{refl}
use lib.Ieee.{of_bits, to_bits, add, sub, mul, div, lt, le, eq, of_int, to_unsigned, round}
use Rattle.kriging_theory.specs.Fit.{fitted}
use Rattle.cases.specs.FitCases.{FitCases, TwoExternals, NoNode, LinearDrift, Row1Missed, Row1Met, FigureMissed}
use Rattle.cases.specs.FitCases.{WeightInfinite, FigureInfinite, QuadraticDrift, FromTheFirst}

two_externals_lem : TwoExternals
unfolding fitted add sub mul div lt le eq of_int to_unsigned round of_bits to_bits
two_externals_lem = refl

no_node_lem : NoNode
unfolding fitted add sub mul div lt le eq of_int to_unsigned round of_bits to_bits
no_node_lem = refl

linear_drift_lem : LinearDrift
unfolding fitted add sub mul div lt le eq of_int to_unsigned round of_bits to_bits
linear_drift_lem = refl

row_1_missed : Row1Missed
unfolding fitted add sub mul div lt le eq of_int to_unsigned round of_bits to_bits
row_1_missed = refl

row_1_met : Row1Met
unfolding fitted add sub mul div lt le eq of_int to_unsigned round of_bits to_bits
row_1_met = refl

figure_missed : FigureMissed
unfolding fitted add sub mul div lt le eq of_int to_unsigned round of_bits to_bits
figure_missed = refl

weight_infinite : WeightInfinite
unfolding fitted add sub mul div lt le eq of_int to_unsigned round of_bits to_bits
weight_infinite = refl

figure_infinite : FigureInfinite
unfolding fitted add sub mul div lt le eq of_int to_unsigned round of_bits to_bits
figure_infinite = refl

quadratic_drift_lem : QuadraticDrift
unfolding fitted add sub mul div lt le eq of_int to_unsigned round of_bits to_bits
quadratic_drift_lem = refl

from_the_first : FromTheFirst
unfolding fitted add sub mul div lt le eq of_int to_unsigned round of_bits to_bits
from_the_first = refl

pub fit_cases : FitCases
fit_cases = record {
  two_externals_lem = two_externals_lem;
  no_node_lem = no_node_lem;
  linear_drift_lem = linear_drift_lem;
  row_1_missed = row_1_missed;
  row_1_met = row_1_met;
  figure_missed = figure_missed;
  weight_infinite = weight_infinite;
  figure_infinite = figure_infinite;
  quadratic_drift_lem = quadratic_drift_lem;
  from_the_first = from_the_first;
}
