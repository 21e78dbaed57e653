-- The number that refuses a call, written out.
use Rattle.std.proofs.Common.{◌≡◌, ℕ, ◌*◌, not, ◌||◌, cond, eqb, ltb, List, length, refl}
use lib.Ieee.{Float}
use Rattle.error.specs.Tests.{first_of}
use Rattle.error.specs.Short.{too_short}
use Rattle.ieee.specs.Finite.{all_finite}
use Rattle.survey.specs.declared.Limits.{Limits}
use Rattle.semivariogram_theory.specs.Call.{Areas, samples_of}
use Rattle.semivariogram_theory.specs.Refusals.{refusal}
use Rattle.semivariogram.specs.Called.{areas_for}

pub refusal_is : (limits : Limits) (points values : List Float) (d bins : ℕ) (a : Areas) → refusal limits (samples_of points values d bins) a
    ≡ cond (ltb d 1 || ltb 3 d) 13 (cond (not (eqb (length points) (length values * d))) 1 (cond (ltb (length values) 2) 14
    (cond (ltb bins 1 || ltb 64 bins) 15 (cond (ltb limits.wells (length values)) 9
    (cond (not (all_finite values) || not (all_finite points)) 11 (cond (too_short (areas_for bins a)) 18 0))))))
unfolding refusal first_of
refusal_is limits points values d bins a = refl
