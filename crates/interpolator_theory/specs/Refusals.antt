-- What turns a call of the interpolator away before it eliminates, as tests that compute, in the order of `Rules`.
use Rattle.std.specs.Prelude.{ℕ, ◌*◌, ◌%◌, Bool, true, false, not, ◌&&◌, ◌||◌, List, [], ◌∷◌, ◌++◌, eqb, ltb, length}
use Rattle.error.specs.Tests.{Test, test, first_of}
use Rattle.error.specs.Short.{too_short}
use Rattle.ieee.specs.Finite.{all_finite}
use Rattle.variogram.specs.Distance.{offered}
use Rattle.elimination.specs.Call.{work_tests}
use Rattle.survey.specs.declared.Limits.{Limits}
use Rattle.survey.specs.Refusals.{differ, variogram_not_finite, variogram_tests}
use Rattle.interpolator_theory.specs.declared.KrigingType.{KrigingType}
use Rattle.interpolator_theory.specs.declared.KrigingType.TheVariants.{Ordinary, Universal}
use Rattle.interpolator_theory.specs.Call.{Query, Areas, answer_areas, wells, node_count, size}

-- "with Universal"
abbrev pub is_universal : KrigingType → Bool
is_universal Ordinary = false
is_universal Universal = true

-- 13: "d not 1, 2 or 3, or d = 1 with Universal"
abbrev pub wrong_dimension : Query → Bool
wrong_dimension q = not (offered q.dimension) || (eqb q.dimension 1 && is_universal q.kriging_type)

-- 1: "coordinates not .. n·d in the two older calls"
abbrev pub wrong_points : Query → Bool
wrong_points q = differ (length q.points) (wells q * q.dimension)

-- 2: "node list .. not a multiple of d"
abbrev pub wrong_targets : Query → Bool
wrong_targets q = differ (length q.targets % q.dimension) 0

-- 9: "n > 48 .. or m > 100", with "n > 96 in place of n > 48": what the limits say
abbrev pub too_many : Limits → Query → Bool
too_many limits q = ltb limits.wells (wells q) || ltb limits.nodes (node_count q)

-- 11: "nugget, sill, range, a value, coordinate, .. node .. not finite, as far as the call takes them"
abbrev pub number_not_finite : Query → Bool
number_not_finite q = variogram_not_finite q.variogram || (not (all_finite q.values) || (not (all_finite q.points) || not (all_finite q.targets)))

-- the tests, in the order of the rules
abbrev pub tests : Limits → Query → Areas → List Test
tests limits q a =
    test 13 (wrong_dimension q)
    ∷ test 1 (wrong_points q)
    ∷ test 2 (wrong_targets q)
    ∷ test 9 (too_many limits q)
    ∷ test 11 (number_not_finite q)
    ∷ (variogram_tests q.variogram
    ++ (work_tests (size q) a.work
    ++ (test 18 (too_short (answer_areas q a))
    ∷ [])))

-- the number that refuses the call before it eliminates, and 0 where none does
unfoldable pub refusal : Limits → Query → Areas → ℕ
unfolding first_of all_finite
refusal limits q a = first_of (tests limits q a)
