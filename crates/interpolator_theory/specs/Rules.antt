-- What turns a call of the interpolator away before it eliminates, as the paper says it and not as tests:
-- for each number its condition, and the order in which they count.
use Rattle.std.specs.Prelude.{◌*◌, ◌%◌, ◌<◌, ◌≤◌, ◌≡◌, ◌≢◌, ◌⊎◌, List, [], ◌∷◌, ◌++◌, length}
use Rattle.error.specs.Rules.{Rule, rule}
use Rattle.error.specs.Short.{TooShort}
use Rattle.ieee.specs.Finite.{SomeNotFinite}
use Rattle.elimination.specs.Call.{work_rules}
use Rattle.survey.specs.declared.Limits.{Limits}
use Rattle.survey.specs.Rules.{VariogramNotFinite, variogram_rules}
use Rattle.interpolator_theory.specs.declared.KrigingType.TheVariants.{Universal}
use Rattle.interpolator_theory.specs.Call.{Query, Areas, answer_areas, wells, node_count, size}

-- 13: "d not 1, 2 or 3, or d = 1 with Universal"
abbrev pub WrongDimension : Query → Type 0
WrongDimension q = (¬ ((1 ≤ q.dimension) × (q.dimension ≤ 3))) ⊎ ((q.dimension ≡ 1) × (q.kriging_type ≡ Universal))

-- 1: "coordinates not .. n·d in the two older calls"
abbrev pub WrongPoints : Query → Type 0
WrongPoints q = length q.points ≢ wells q * q.dimension

-- 2: "node list .. not a multiple of d"
abbrev pub WrongTargets : Query → Type 0
WrongTargets q = length q.targets % q.dimension ≢ 0

-- 9: "n > 48 .. or m > 100", with "n > 96 in place of n > 48": what the limits say
abbrev pub TooMany : Limits → Query → Type 0
TooMany limits q = (limits.wells < wells q) ⊎ (limits.nodes < node_count q)

-- 11: "nugget, sill, range, a value, coordinate, .. node .. not finite, as far as the call takes them"
abbrev pub NumberNotFinite : Query → Type 0
NumberNotFinite q = VariogramNotFinite q.variogram ⊎ SomeNotFinite q.values ⊎ SomeNotFinite q.points ⊎ SomeNotFinite q.targets

-- "Interpolator: 13, 1, 2, 9, 11, 12, 17, 18, 19": all but 19, which is the elimination's; and 22, "straight after 11".
-- 22 and 12 are those of every call that takes a variogram, 17 that of every call that eliminates.
abbrev pub rules : Limits → Query → Areas → List Rule
rules limits q a =
    rule 13 (WrongDimension q)
    ∷ rule 1 (WrongPoints q)
    ∷ rule 2 (WrongTargets q)
    ∷ rule 9 (TooMany limits q)
    ∷ rule 11 (NumberNotFinite q)
    ∷ (variogram_rules q.variogram
    ++ (work_rules (size q) a.work
    ++ (rule 18 (TooShort (answer_areas q a))
    ∷ [])))
