-- The parts of a call's refusal, one after another: the first that turns the call away gives the number of the whole.
use Rattle.std.proofs.Common.{ℕ, ◌≡◌, ◌∙◌, ◌++◌, ◌∷◌, ◌≤◌, refl, sym, List, Bool, true, false}
use native.Mathlib.Omega.{arith}
use Rattle.error.specs.declared.Refusal.{Refusal}
use Rattle.error.specs.Numbers.{number_of}
use Rattle.error.specs.Tests.{Test, test, first_of}
use Rattle.error.proofs.First.{turned_away, first_later}
use Rattle.survey.specs.declared.Limits.{Limits}
use Rattle.survey.specs.Refusals.{variogram_tests}
use Rattle.interpolator_theory.specs.Call.{Query, Areas}
use Rattle.interpolator_theory.specs.Refusals.{wrong_dimension, refusal}
use Rattle.interpolator.proofs.Sizes.{some_axis}
use Rattle.interpolator.specs.Parts.{query_tests, area_tests}

not_first : (b : Bool) (ts : List Test) → 0 ≡ first_of (test 13 b ∷ ts) → b ≡ false
unfolding first_of
not_first true ts e = absurd (omega (arith, e))
not_first false ts e = refl

module _ (limits : Limits) (q : Query) (a : Areas) where
  whole : refusal limits q a ≡ first_of (query_tests limits q ++ (variogram_tests q.variogram ++ area_tests q a))
  unfolding refusal
  whole = refl

  -- where 13 does not apply a point has an axis
  pub some_axis_asked : 0 ≡ first_of (query_tests limits q) → 1 ≤ q.dimension
  some_axis_asked e = some_axis q.dimension _ (not_first (wrong_dimension q) _ e)

  past_query : 0 ≡ first_of (query_tests limits q) → refusal limits q a ≡ first_of (variogram_tests q.variogram ++ area_tests q a)
  past_query e = whole ∙ first_later (query_tests limits q) _ tt (sym e)

  pub by_query : (r : Refusal) → number_of r ≡ first_of (query_tests limits q) → number_of r ≡ refusal limits q a
  by_query r e = turned_away r (query_tests limits q) _ e ∙ sym whole

  pub by_variogram : (r : Refusal) → 0 ≡ first_of (query_tests limits q) → number_of r ≡ first_of (variogram_tests q.variogram)
      → number_of r ≡ refusal limits q a
  by_variogram r e f = turned_away r (variogram_tests q.variogram) _ f ∙ sym (past_query e)

  pub by_areas : (n : ℕ) → 0 ≡ first_of (query_tests limits q) → 0 ≡ first_of (variogram_tests q.variogram) → n ≡ first_of (area_tests q a)
      → n ≡ refusal limits q a
  by_areas n e f g = g ∙ sym (past_query e ∙ first_later (variogram_tests q.variogram) _ tt (sym f))
