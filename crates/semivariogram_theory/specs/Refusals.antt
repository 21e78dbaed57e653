-- What turns a call of the semivariogram away, as tests that compute.
use Rattle.std.specs.Prelude.{ℕ, ◌*◌, Bool, not, ◌||◌, List, [], ◌∷◌, eqb, ltb, length}
use Rattle.error.specs.Tests.{Test, test, first_of}
use Rattle.error.specs.Short.{too_short}
use Rattle.ieee.specs.Finite.{all_finite}
use Rattle.survey.specs.declared.Limits.{Limits}
use Rattle.semivariogram_theory.specs.Call.{Samples, Areas, answer_areas, samples}

-- "bins not 1..64"
abbrev pub most_bins : ℕ
most_bins = 64

-- 13: "d not 1, 2 or 3"
abbrev pub wrong_dimension : Samples → Bool
wrong_dimension q = ltb q.dimension 1 || ltb 3 q.dimension

-- 1: "coordinates not .. n·d in the two older calls"
abbrev pub wrong_points : Samples → Bool
wrong_points q = not (eqb (length q.points) (samples q * q.dimension))

-- 14: "fewer than 2 samples"
abbrev pub too_few : Samples → Bool
too_few q = ltb (samples q) 2

-- 15: "bins not 1..64"
abbrev pub wrong_bins : Samples → Bool
wrong_bins q = ltb q.bins 1 || ltb most_bins q.bins

-- 9: "n > 48", with "n > 96 in place of n > 48": what the limits say
abbrev pub too_many : Limits → Samples → Bool
too_many limits q = ltb limits.wells (samples q)

-- 11: "a value, coordinate .. not finite, as far as the call takes them"
abbrev pub not_finite : Samples → Bool
not_finite q = not (all_finite q.values) || not (all_finite q.points)

-- "Semivariogram: 13, 1, 14, 15, 9, 11, 18"
abbrev pub tests : Limits → Samples → Areas → List Test
tests limits q a =
    test 13 (wrong_dimension q)
    ∷ test 1 (wrong_points q)
    ∷ test 14 (too_few q)
    ∷ test 15 (wrong_bins q)
    ∷ test 9 (too_many limits q)
    ∷ test 11 (not_finite q)
    ∷ test 18 (too_short (answer_areas q a))
    ∷ []

-- the number that refuses the call, and 0 where it is accepted
unfoldable pub refusal : Limits → Samples → Areas → ℕ
unfolding first_of all_finite
refusal limits q a = first_of (tests limits q a)
