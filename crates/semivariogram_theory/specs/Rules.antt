-- What turns a call of the semivariogram away, as the paper says it and not as tests.
use Rattle.std.specs.Prelude.{◌*◌, ◌<◌, ◌≢◌, ◌⊎◌, List, [], ◌∷◌, length}
use Rattle.error.specs.Rules.{Rule, rule}
use Rattle.error.specs.Short.{TooShort}
use Rattle.ieee.specs.Finite.{SomeNotFinite}
use Rattle.survey.specs.declared.Limits.{Limits}
use Rattle.semivariogram_theory.specs.Call.{Samples, Areas, answer_areas, samples}

-- 13: "d not 1, 2 or 3"
abbrev pub WrongDimension : Samples → Type 0
WrongDimension q = (q.dimension < 1) ⊎ (3 < q.dimension)

-- 1: "coordinates not .. n·d in the two older calls"
abbrev pub WrongPoints : Samples → Type 0
WrongPoints q = length q.points ≢ samples q * q.dimension

-- 14: "fewer than 2 samples"
abbrev pub TooFew : Samples → Type 0
TooFew q = samples q < 2

-- 15: "bins not 1..64"
abbrev pub WrongBins : Samples → Type 0
WrongBins q = (q.bins < 1) ⊎ (64 < q.bins)

-- 9: "n > 48", with "n > 96 in place of n > 48": what the limits say
abbrev pub TooMany : Limits → Samples → Type 0
TooMany limits q = limits.wells < samples q

-- 11: "a value, coordinate .. not finite, as far as the call takes them"
abbrev pub NumberNotFinite : Samples → Type 0
NumberNotFinite q = SomeNotFinite q.values ⊎ SomeNotFinite q.points

-- "Semivariogram: 13, 1, 14, 15, 9, 11, 18"
abbrev pub rules : Limits → Samples → Areas → List Rule
rules limits q a =
    rule 13 (WrongDimension q)
    ∷ rule 1 (WrongPoints q)
    ∷ rule 14 (TooFew q)
    ∷ rule 15 (WrongBins q)
    ∷ rule 9 (TooMany limits q)
    ∷ rule 11 (NumberNotFinite q)
    ∷ rule 18 (TooShort (answer_areas q a))
    ∷ []
