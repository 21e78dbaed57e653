-- What turns a fit away before it eliminates, as tests that compute, in the order of `Rules`.
use Rattle.std.specs.Prelude.{ℕ, List, [], ◌∷◌, ◌++◌}
use Rattle.error.specs.Tests.{Test, test, first_of}
use Rattle.error.specs.Short.{too_short}
use Rattle.elimination.specs.Call.{work_tests}
use Rattle.survey.specs.declared.Limits.{Limits}
use Rattle.survey.specs.Survey.{Survey, node_count, size}
use Rattle.survey.specs.Refusals.{survey_tests}
use Rattle.kriging_theory.specs.Areas.{Areas, answer_areas}

abbrev pub answer_tests : Survey → Areas → List Test
answer_tests s a = test 18 (too_short (answer_areas s a)) ∷ []

-- 1 to 11, 22, 12, 17, 18
unfoldable pub tests : Limits → Survey → Areas → List Test
unfolding survey_tests
tests limits s a = survey_tests limits s (node_count s) s.node_external ++ (work_tests (size s) a.work ++ answer_tests s a)

-- the number of the first that holds, and 0 where none does
unfoldable pub refusal : Limits → Survey → Areas → ℕ
unfolding tests first_of
refusal limits s a = first_of (tests limits s a)
