-- The comparisons, each computed by the definitions.
use mathlib.Core.Path.{refl}
use Rattle.words.specs.Words.{reading, half, modulus}
use Rattle.words.specs.Compared.{words_taken}
use Rattle.cases.specs.ComparisonCases.{ComparisonCases}

pub comparison_cases : ComparisonCases
unfolding reading half modulus words_taken
comparison_cases = record {
  equal = (refl, refl);
  equal_below_zero = (refl, refl);
  one_unit = (refl, refl);
  second_word = (refl, refl);
  top_word = (refl, refl);
  lowest_of_all = (refl, refl);
  minus_one = (refl, refl);
  minus_one_above = (refl, refl);
  lower_word = (refl, refl);
  carry = (refl, refl);
}
