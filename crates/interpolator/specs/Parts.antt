-- The tests of a call in parts: those of what is asked, and past the variogram's those of what is lent.
use Rattle.std.specs.Prelude.{List, [], ◌∷◌, ◌++◌}
use Rattle.error.specs.Tests.{Test, test}
use Rattle.error.specs.Short.{too_short}
use Rattle.elimination.specs.Call.{work_tests}
use Rattle.survey.specs.declared.Limits.{Limits}
use Rattle.interpolator_theory.specs.Call.{Query, Areas, answer_areas, size}
use Rattle.interpolator_theory.specs.Refusals.{wrong_dimension, wrong_points, wrong_targets, too_many, number_not_finite}

abbrev pub query_tests : Limits → Query → List Test
query_tests limits q =
    test 13 (wrong_dimension q)
    ∷ test 1 (wrong_points q)
    ∷ test 2 (wrong_targets q)
    ∷ test 9 (too_many limits q)
    ∷ test 11 (number_not_finite q)
    ∷ []

abbrev pub area_tests : Query → Areas → List Test
area_tests q a = work_tests (size q) a.work ++ (test 18 (too_short (answer_areas q a)) ∷ [])
