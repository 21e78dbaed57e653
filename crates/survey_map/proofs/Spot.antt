-- 22 never shows in what is printed for a file: files take 2^-52, which no rule turns away.
use Prim.Native.Nat.{ℕ}
use native.Mathlib.Omega.{arith}
use mathlib.Core.Path.{◌≡◌, refl, subst}
use mathlib.Core.Logic.{◌≢◌, inl, inr}
use mathlib.Core.Bool.{true, false≢true}
use mathlib.Core.List.{List}
use lib.Ieee.{Float, lt, of_bits}
use Rattle.ieee.specs.Floats.{epsilon}
use Rattle.ieee.specs.Finite.{NotFinite}
use Rattle.ieee.proofs.FiniteLists.{not_finite}
use Rattle.variogram.specs.Model.{WrongSpot}
use Rattle.survey.specs.Limits.{program}
use Rattle.survey.specs.Survey.{Survey}
use Rattle.kriging_theory.specs.Fit.{fitted}
use Rattle.survey_file_theory.specs.Reader.{survey_in}
use Rattle.survey_map.specs.Areas.{own_areas}
use Rattle.survey_map.specs.Text.{NeverSpot}
use Rattle.survey_map.proofs.Ample.{first, apart, file_apart}

-- "below 2^-52" is not said of 2^-52, nor "not finite"
taken : ¬ (NotFinite epsilon)
unfolding of_bits
taken n = (not_finite epsilon).1 n

not_below : ¬ (lt epsilon epsilon ≡ true)
unfolding lt of_bits
not_below h = false≢true h

plain : (s : Survey) → s.options.variogram.same_spot ≡ epsilon → ¬ WrongSpot s.options.variogram
plain s e (inl x) = taken (subst NotFinite e x)
plain s e (inr x) = not_below (subst (λ (f : Float). lt f epsilon ≡ true) e x)

never_22 : (s : Survey) → s.options.variogram.same_spot ≡ epsilon → (fitted program s own_areas).number ≢ 22
never_22 s e n = plain s e (first s 22 (λ x. omega arith) (λ x. omega arith) n).applies

of_file : (bytes : List ℕ) → (survey_in bytes).options.variogram.same_spot ≡ epsilon
unfolding survey_in
of_file bytes = refl

pub never_spot : (bytes : List ℕ) → NeverSpot bytes
never_spot bytes = let s = survey_in bytes in file_apart bytes 22 (λ x. omega arith) (apart s 22 (never_22 s (of_file bytes)))
