-- Each test of a survey tells its rule's condition.
use Prim.Native.Nat.{ℕ, zero, suc, ◌*◌, ◌%◌, ◌<◌}
use native.Mathlib.Nat.{not-suc-le-zero, le_of_suc-le-suc}
use native.Mathlib.Omega.{arith}
use mathlib.Core.Logic.{◌⊎◌, inl, inr}
use mathlib.Core.List.{List, [], ◌∷◌}
use lib.ListN.{length, get_or}
use lib.Ieee.{Float, lt}
use Rattle.error.specs.Tests.{any, Tells}
use Rattle.error.proofs.Tells.{told, told_as, both, either, is_true, equal, different, below, not_finite_is, some_not_finite}
use Rattle.error.specs.Rules.{Told, no_more, tells}
use Rattle.error.proofs.Rules.{joined}
use Rattle.ieee.specs.Floats.{zero_float, epsilon}
use Rattle.variogram.specs.declared.Variogram.{Variogram}
use Rattle.variogram.specs.Model.{wrong_model}
use Rattle.variogram.proofs.Model.{wrong_model_lem}
use Rattle.survey.specs.declared.Limits.{Limits}
use Rattle.survey.specs.Survey.{Survey, wells, columns, externals}
use Rattle.survey.specs.Rules.{WrongCoords, OddNodes, BadCode, SomeBadCode, BadAmount, WrongExternal, WrongNodeExternal}
use Rattle.survey.specs.Rules.{TooMany, VariogramNotFinite, NumberNotFinite}
use Rattle.survey.specs.Rules.{coord_rules, node_rules, basis_rules, node_external_rules, limit_rules, tolerance_rules, finite_rules, spot_rules, model_rules}
use Rattle.survey.specs.Rules.{list_rules, number_rules, variogram_rules, survey_rules}
use Rattle.survey.specs.Refusals.{wrong_coords, odd_nodes, bad_code, bad_amount, wrong_external, wrong_node_external}
use Rattle.survey.specs.Refusals.{too_many, variogram_not_finite, number_not_finite}
use Rattle.survey.specs.Refusals.{coord_tests, node_tests, basis_tests, node_external_tests, limit_tests, tolerance_tests, finite_tests, spot_tests, model_tests}
use Rattle.survey.specs.Refusals.{list_tests, number_tests, variogram_tests, survey_tests}

-- ---- test by test
pub coords_told : (s : Survey) → Tells (wrong_coords s) (WrongCoords s)
coords_told s = different (length s.coords) (2 * wells s)

pub nodes_told : (s : Survey) → Tells (odd_nodes s) (OddNodes s)
nodes_told s = different (length s.nodes % 2) 0

code_told : (c : ℕ) → Tells (bad_code c) (BadCode c)
code_told c = either (below c 1) (below 4 c)

codes_told : (cs : List ℕ) → Tells (any bad_code cs) (SomeBadCode cs)
codes_told [] = record { then = λ h. absurd h; back = λ r. not-suc-le-zero r.inside }
codes_told (c ∷ cs) = told_as (either (code_told c) (codes_told cs)) there (λ r. from r.place r.inside r.is)
  where
    there : BadCode c ⊎ SomeBadCode cs → SomeBadCode (c ∷ cs)
    there (inl h) = record { place = 0; inside = omega arith; is = h }
    there (inr r) = record { place = suc r.place; inside = let b = r.inside in omega arith; is = r.is }

    from : (i : ℕ) → i < length (c ∷ cs) → BadCode (get_or (c ∷ cs) i 0) → BadCode c ⊎ SomeBadCode cs
    from zero l h = inl h
    from (suc i) l h = inr record { place = i; inside = le_of_suc-le-suc l; is = h }

amount_told : (x : Float) → Tells (bad_amount x) (BadAmount x)
amount_told x = either (is_true (lt x zero_float)) (not_finite_is x)

pub external_told : (s : Survey) → Tells (wrong_external s) (WrongExternal s)
external_told s = different (length s.external) (externals s * wells s)

pub node_external_told : (s : Survey) (m : ℕ) (e : List Float) → Tells (wrong_node_external s m e) (WrongNodeExternal s m e)
node_external_told s m e = both (below 0 (externals s)) (different (length e) (externals s * m))

many_told : (limits : Limits) (s : Survey) (m : ℕ) → Tells (too_many limits s m) (TooMany limits s m)
many_told limits s m = either (below limits.wells (wells s)) (either (below limits.columns (columns s)) (below limits.nodes m))

pub variogram_told : (v : Variogram) → Tells (variogram_not_finite v) (VariogramNotFinite v)
variogram_told v = either (not_finite_is v.nugget) (either (not_finite_is v.sill) (not_finite_is v.range))

pub numbers_told : (s : Survey) (e : List Float) → Tells (number_not_finite s e) (NumberNotFinite s e)
unfolding number_not_finite
numbers_told s e =
    either (variogram_told s.options.variogram)
    (either (some_not_finite s.values)
    (either (some_not_finite s.coords)
    (either (some_not_finite s.external) (either (some_not_finite s.nodes) (both (below 0 (externals s)) (some_not_finite e))))))

-- ---- part by part
pub coord_told : (s : Survey) → Told (coord_tests s) (coord_rules s)
coord_told s = tells 1 (coords_told s) no_more

pub node_told : (s : Survey) → Told (node_tests s) (node_rules s)
node_told s = tells 2 (nodes_told s) no_more

pub basis_told : (s : Survey) → Told (basis_tests s) (basis_rules s)
basis_told s =
    tells 3 (equal (length s.bases) 0)
    (tells 4 (codes_told s.bases)
    (tells 5 (amount_told s.options.regularization)
    (tells 6 (external_told s)
    (tells 7 (below (wells s) (columns s)) no_more))))

pub node_externals_told : (s : Survey) (m : ℕ) (e : List Float) → Told (node_external_tests s m e) (node_external_rules s m e)
node_externals_told s m e = tells 8 (node_external_told s m e) no_more

pub limit_told : (limits : Limits) (s : Survey) (m : ℕ) → Told (limit_tests limits s m) (limit_rules limits s m)
limit_told limits s m = tells 9 (many_told limits s m) no_more

pub tolerance_told : (t : Float) → Told (tolerance_tests t) (tolerance_rules t)
tolerance_told t = tells 10 (amount_told t) no_more

pub finite_told : (s : Survey) (e : List Float) → Told (finite_tests s e) (finite_rules s e)
finite_told s e = tells 11 (numbers_told s e) no_more

pub spot_told : (v : Variogram) → Told (spot_tests v) (spot_rules v)
spot_told v = tells 22 (either (not_finite_is v.same_spot) (is_true (lt v.same_spot epsilon))) no_more

pub model_told : (v : Variogram) → Told (model_tests v) (model_rules v)
model_told v = tells 12 (told (wrong_model v) (wrong_model_lem v)) no_more

-- ---- joined
pub list_told : (s : Survey) (m : ℕ) (e : List Float) → Told (list_tests s m e) (list_rules s m e)
list_told s m e = joined (coord_told s) (joined (node_told s) (joined (basis_told s) (node_externals_told s m e)))

pub number_told : (s : Survey) (e : List Float) → Told (number_tests s e) (number_rules s e)
number_told s e = joined (tolerance_told s.tolerance) (finite_told s e)

pub variogram_rules_told : (v : Variogram) → Told (variogram_tests v) (variogram_rules v)
variogram_rules_told v = joined (spot_told v) (model_told v)

pub survey_told : (limits : Limits) (s : Survey) (m : ℕ) (e : List Float) → Told (survey_tests limits s m e) (survey_rules limits s m e)
unfolding survey_tests
survey_told limits s m e = joined (list_told s m e) (joined (limit_told limits s m) (joined (number_told s e) (variogram_rules_told s.options.variogram)))
