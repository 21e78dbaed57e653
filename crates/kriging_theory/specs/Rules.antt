-- What turns a fit away before it eliminates, as the papers say it and not as tests: the survey's rules, the work area's and the answer areas'.
-- "The lowest applying number wins in a fit.", and 22 comes "straight after 11".
use Rattle.std.specs.Prelude.{List, [], ◌∷◌, ◌++◌}
use Rattle.error.specs.Rules.{Rule, rule}
use Rattle.error.specs.Short.{TooShort}
use Rattle.elimination.specs.Call.{work_rules}
use Rattle.survey.specs.declared.Limits.{Limits}
use Rattle.survey.specs.Survey.{Survey, node_count, size}
use Rattle.survey.specs.Rules.{survey_rules}
use Rattle.kriging_theory.specs.Areas.{Areas, answer_areas}

abbrev pub answer_rules : Survey → Areas → List Rule
answer_rules s a = rule 18 (TooShort (answer_areas s a)) ∷ []

-- 1 to 11, 22, 12, 17, 18
abbrev pub rules : Limits → Survey → Areas → List Rule
rules limits s a = survey_rules limits s (node_count s) s.node_external ++ (work_rules (size s) a.work ++ answer_rules s a)
