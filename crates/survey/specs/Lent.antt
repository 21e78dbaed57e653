-- A survey as a program lends it, and as everything here speaks of it.
use Rattle.survey.specs.declared.Survey as Declared
use Rattle.survey.specs.Survey.{Survey, survey_of}

-- the survey that a lent one is
abbrev pub survey_lent : Declared.Survey → Survey
survey_lent s =
    survey_of s.values.now s.coords.now s.bases.now s.external.now s.options s.nodes.now s.node_external.now s.tolerance
