-- The numbers, the kinds and the default options, each computed by the definitions.
use native.Mathlib.Omega.{arith}
use mathlib.Core.Path.{refl}
use mathlib.Core.Logic.{inl}
use lib.Ieee.{of_bits, to_bits}
use Rattle.exact.specs.Units.{units}
use Rattle.cases.specs.RefusalCases.{Numbers, Nearest, Defaults, RefusalCases}

numbers : Numbers
numbers = record {
  coordinates = (refl, refl);
  nodes = (refl, refl);
  no_basis_lem = (refl, refl);
  code = (refl, refl);
  r = (refl, refl);
  externals = (refl, refl);
  few_wells = (refl, refl);
  node_externals_lem = refl;
  node_externals_kind = inl refl;
  many = (refl, refl);
  t = (refl, refl);
  not_finite = (refl, refl);
  model = (refl, refl);
  dimension = (refl, refl);
  few_samples = (refl, refl);
  bins = (refl, refl);
  survey_file = (refl, refl);
  work_area = (refl, refl);
  answer_area = (refl, refl);
  pivot = (refl, refl);
  same_spot = (refl, refl);
}

nearest : Nearest 7737125245533627
nearest = record { least = omega arith; most = omega arith; below = omega arith; above = omega arith }

defaults : Defaults
unfolding units of_bits to_bits
defaults = record { constant = refl; model = refl; nugget = refl; sill = refl; range = refl; spot = refl; r = refl; pattern = refl; nearest = nearest }

pub refusal_cases : RefusalCases
refusal_cases = record { numbers = numbers; defaults = defaults }
