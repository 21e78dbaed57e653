-- Each test of the semivariogram tells its rule's condition; and the limit of the library.
use Prim.Native.Nat.{◌*◌, ◌<◌}
use mathlib.Core.Path.{◌≡◌, refl}
use mathlib.Core.Logic.{◌↔◌}
use mathlib.Core.List.{[], ◌∷◌}
use lib.ListN.{length}
use Rattle.error.proofs.Tells.{either, different, below, some_not_finite}
use Rattle.error.specs.Rules.{Told, no_more, tells, numbers_of}
use Rattle.error.proofs.Short.{short_told}
use Rattle.survey.specs.declared.Limits.{Limits}
use Rattle.survey.specs.Limits.{library}
use Rattle.semivariogram_theory.specs.Call.{Samples, Areas, answer_areas, samples}
use Rattle.semivariogram_theory.specs.Rules.{TooMany, rules}
use Rattle.semivariogram_theory.specs.Refusals.{most_bins, tests}

pub told : (limits : Limits) (q : Samples) (a : Areas) → Told (tests limits q a) (rules limits q a)
told limits q a =
    tells 13 (either (below q.dimension 1) (below 3 q.dimension))
    (tells 1 (different (length q.points) (samples q * q.dimension))
    (tells 14 (below (samples q) 2)
    (tells 15 (either (below q.bins 1) (below most_bins q.bins))
    (tells 9 (below limits.wells (samples q))
    (tells 11 (either (some_not_finite q.values) (some_not_finite q.points))
    (tells 18 (short_told (answer_areas q a)) no_more))))))

-- the order in which its numbers count, in full
pub order : (limits : Limits) (q : Samples) (a : Areas) → numbers_of (rules limits q a) ≡ 13 ∷ 1 ∷ 14 ∷ 15 ∷ 9 ∷ 11 ∷ 18 ∷ []
order limits q a = refl

-- "9 n > 48", with "n > 96 in place of n > 48 in the library calls"
pub samples_limit : (q : Samples) → TooMany library q ↔ (96 < samples q)
samples_limit q = (λ h. h, λ h. h)
