-- What a survey that no rule turns away has, as the calls that take it use it.
use Prim.Native.Nat.{ℕ, ◌^◌, ◌≤◌, ◌<◌}
use native.Mathlib.Omega.{arith}
use mathlib.Core.Path.{◌≡◌, refl}
use mathlib.Core.Logic.{inl}
use Rattle.error.specs.Tests.{first_of}
use Rattle.error.specs.Rules.{Condition}
use Rattle.error.proofs.Rules.{none_exactly, no_condition}
use Rattle.survey.specs.declared.Limits.{Limits}
use Rattle.survey.specs.Survey.{Survey, wells, node_count, columns, columns_held}
use Rattle.survey.specs.Rules.{survey_rules}
use Rattle.survey.specs.Refusals.{survey_tests, survey_refusal}
use Rattle.survey.proofs.Told.{survey_told}
use Rattle.survey.proofs.Codes.{held_exact}

-- the number is that of its tests
pub survey_first : (limits : Limits) (s : Survey) → survey_refusal limits s ≡ first_of (survey_tests limits s (node_count s) s.node_external)
unfolding survey_refusal
survey_first limits s = refl

-- no number's condition holds
none : (limits : Limits) (s : Survey) → survey_refusal limits s ≡ 0 → (k : ℕ) → ¬ Condition (survey_rules limits s (node_count s) s.node_external) k
unfolding survey_refusal
none limits s e =
    no_condition (survey_rules limits s (node_count s) s.node_external) ((none_exactly (survey_told limits s (node_count s) s.node_external) tt).0 e)

-- 7 does not apply: there are no more columns than wells
pub enough_wells : (limits : Limits) (s : Survey) → survey_refusal limits s ≡ 0 → columns s ≤ wells s
enough_wells limits s e = let h : ¬ (wells s < columns s) = none limits s e 7 in omega arith

-- so the count that a word holds is p itself
pub counted_exactly : (limits : Limits) (s : Survey) → survey_refusal limits s ≡ 0 → wells s < 2 ^ 60 → columns_held s.bases ≡ columns s
counted_exactly limits s e l = let h = enough_wells limits s e in held_exact s.bases (omega arith)

-- 9 does not apply: there are no more wells than the limits say
pub few_wells : (limits : Limits) (s : Survey) → survey_refusal limits s ≡ 0 → wells s ≤ limits.wells
few_wells limits s e = let h : ¬ (limits.wells < wells s) = λ l. none limits s e 9 (inl l) in omega arith
