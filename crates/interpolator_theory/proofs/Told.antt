-- Each test of a call of the interpolator tells its rule's condition.
use Prim.Native.Nat.{◌*◌, ◌%◌, ◌<◌}
use mathlib.Core.Path.{◌≡◌, refl, sym, subst}
use mathlib.Core.Logic.{◌⊎◌, ◌↔◌}
use mathlib.Core.List.{[], ◌∷◌}
use lib.Dec.{T}
use lib.ListN.{length}
use Rattle.error.specs.Tests.{Tells}
use Rattle.error.proofs.Tells.{opposite, both, either, equal, different, below, at_most, some_not_finite}
use Rattle.error.specs.Rules.{Told, no_more, tells, numbers_of}
use Rattle.error.proofs.Short.{short_told}
use Rattle.error.proofs.Rules.{joined}
use Rattle.elimination.proofs.Call.{work_told}
use Rattle.survey.specs.declared.Limits.{Limits}
use Rattle.survey.specs.Limits.{library}
use Rattle.survey.proofs.Told.{variogram_told, variogram_rules_told}
use Rattle.interpolator_theory.specs.declared.KrigingType.{KrigingType}
use Rattle.interpolator_theory.specs.declared.KrigingType.TheVariants.{Ordinary, Universal}
use Rattle.interpolator_theory.specs.Call.{Query, Areas, answer_areas, wells, node_count, size}
use Rattle.interpolator_theory.specs.Rules.{WrongDimension, TooMany, NumberNotFinite, rules}
use Rattle.interpolator_theory.specs.Refusals.{is_universal, wrong_dimension, number_not_finite, tests}

universal : (t : KrigingType) → Tells (is_universal t) (t ≡ Universal)
universal Ordinary = record { then = λ h. absurd h; back = λ x. subst (λ (t : KrigingType). T (is_universal t)) (sym x) tt }
universal Universal = record { then = λ h. refl; back = λ x. tt }

dimension_told : (q : Query) → Tells (wrong_dimension q) (WrongDimension q)
dimension_told q =
    either (opposite (both (at_most 1 q.dimension) (at_most q.dimension 3))) (both (equal q.dimension 1) (universal q.kriging_type))

numbers_told : (q : Query) → Tells (number_not_finite q) (NumberNotFinite q)
numbers_told q =
    either (variogram_told q.variogram)
    (either (some_not_finite q.values) (either (some_not_finite q.points) (some_not_finite q.targets)))

-- in their order
pub all_told : (limits : Limits) (q : Query) (a : Areas) → Told (tests limits q a) (rules limits q a)
all_told limits q a =
    tells 13 (dimension_told q)
    (tells 1 (different (length q.points) (wells q * q.dimension))
    (tells 2 (different (length q.targets % q.dimension) 0)
    (tells 9 (either (below limits.wells (wells q)) (below limits.nodes (node_count q)))
    (tells 11 (numbers_told q)
    (joined (variogram_rules_told q.variogram)
    (joined (work_told (size q) a.work)
    (tells 18 (short_told (answer_areas q a)) no_more)))))))

-- the order in which its numbers count, in full
pub order : (limits : Limits) (q : Query) (a : Areas) → numbers_of (rules limits q a) ≡ 13 ∷ 1 ∷ 2 ∷ 9 ∷ 11 ∷ 22 ∷ 12 ∷ 17 ∷ 18 ∷ []
order limits q a = refl

-- "9 n > 48 .. or m > 100", with "n > 96 in place of n > 48 in the library calls"
pub library_limits : (q : Query) → TooMany library q ↔ ((96 < wells q) ⊎ (100 < node_count q))
library_limits q = (λ h. h, λ h. h)
