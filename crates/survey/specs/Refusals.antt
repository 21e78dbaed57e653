-- What turns a survey away, as tests that compute: paper 01, "What turns a call away", 1 to 12, with 22 of paper 02, in the parts of `Rules`.
use Rattle.std.specs.Prelude.{ℕ, ◌*◌, ◌%◌, Bool, not, ◌&&◌, ◌||◌, List, [], ◌∷◌, ◌++◌, ltb, eqb, length, Float}
use Rattle.std.specs.Float.Ieee.{lt}
use Rattle.std.specs.Float.Ieee.Scale.{finite}
use Rattle.error.specs.Tests.{Test, test, any, first_of}
use Rattle.ieee.specs.Floats.{zero_float}
use Rattle.ieee.specs.Finite.{all_finite}
use Rattle.variogram.specs.declared.Variogram.{Variogram}
use Rattle.variogram.specs.Model.{wrong_spot, wrong_model}
use Rattle.survey.specs.declared.Limits.{Limits}
use Rattle.survey.specs.Survey.{Survey, wells, node_count, columns, externals}

abbrev pub differ : ℕ → ℕ → Bool
differ a b = not (eqb a b)

-- 1: "coordinates not 2n long"
abbrev pub wrong_coords : Survey → Bool
wrong_coords s = differ (length s.coords) (2 * wells s)

-- 2: "node list odd"
abbrev pub odd_nodes : Survey → Bool
odd_nodes s = differ (length s.nodes % 2) 0

-- 3: "no basis"
abbrev pub no_basis : Survey → Bool
no_basis s = eqb (length s.bases) 0

-- 4: "a code outside 1..4"
abbrev pub bad_code : ℕ → Bool
bad_code c = ltb c 1 || ltb 4 c

-- 5 and 10: "negative or not finite": -0 is neither
abbrev pub bad_amount : Float → Bool
bad_amount x = lt x zero_float || not (finite x)

-- 6: "externals not k·n"
abbrev pub wrong_external : Survey → Bool
wrong_external s = differ (length s.external) (externals s * wells s)

-- 7: "n < p"
abbrev pub too_few_wells : Survey → Bool
too_few_wells s = ltb (wells s) (columns s)

-- 8: "k > 0 and node externals not k·m"
abbrev pub wrong_node_external : Survey → ℕ → List Float → Bool
wrong_node_external s m e = ltb 0 (externals s) && differ (length e) (externals s * m)

-- 9: "n > 48, p > 12 or m > 100", by the limits of the library ("n > 96 in place of n > 48") or of the program
abbrev pub too_many : Limits → Survey → ℕ → Bool
too_many limits s m = ltb limits.wells (wells s) || (ltb limits.columns (columns s) || ltb limits.nodes m)

-- 11: "nugget, sill, range, .. not finite"
abbrev pub variogram_not_finite : Variogram → Bool
variogram_not_finite v = not (finite v.nugget) || (not (finite v.sill) || not (finite v.range))

-- 11: "nugget, sill, range, a value, coordinate, external, node or, if k > 0, node external not finite"
unfoldable pub number_not_finite : Survey → List Float → Bool
unfolding all_finite
number_not_finite s e =
    variogram_not_finite s.options.variogram
    || (not (all_finite s.values)
    || (not (all_finite s.coords)
    || (not (all_finite s.external) || (not (all_finite s.nodes) || (ltb 0 (externals s) && not (all_finite e))))))

-- ---- tests, in single parts, as the rules are
abbrev pub coord_tests : Survey → List Test
coord_tests s = test 1 (wrong_coords s) ∷ []

abbrev pub node_tests : Survey → List Test
node_tests s = test 2 (odd_nodes s) ∷ []

abbrev pub basis_tests : Survey → List Test
basis_tests s =
    test 3 (no_basis s)
    ∷ test 4 (any bad_code s.bases)
    ∷ test 5 (bad_amount s.options.regularization)
    ∷ test 6 (wrong_external s)
    ∷ test 7 (too_few_wells s)
    ∷ []

abbrev pub node_external_tests : Survey → ℕ → List Float → List Test
node_external_tests s m e = test 8 (wrong_node_external s m e) ∷ []

abbrev pub limit_tests : Limits → Survey → ℕ → List Test
limit_tests limits s m = test 9 (too_many limits s m) ∷ []

abbrev pub tolerance_tests : Float → List Test
tolerance_tests t = test 10 (bad_amount t) ∷ []

abbrev pub finite_tests : Survey → List Float → List Test
finite_tests s e = test 11 (number_not_finite s e) ∷ []

-- 22: "same-spot distance not finite or below 2^-52, straight after 11"
abbrev pub spot_tests : Variogram → List Test
spot_tests v = test 22 (wrong_spot v) ∷ []

-- 12: "an Exponential survey whose range is not above zero"
abbrev pub model_tests : Variogram → List Test
model_tests v = test 12 (wrong_model v) ∷ []

-- ---- joined: 1 to 8, the lists; 10 and 11, the numbers; 22 and 12, the variogram; and all of them, 1 to 11, 22, 12
abbrev pub list_tests : Survey → ℕ → List Float → List Test
list_tests s m e = coord_tests s ++ (node_tests s ++ (basis_tests s ++ node_external_tests s m e))

abbrev pub number_tests : Survey → List Float → List Test
number_tests s e = tolerance_tests s.tolerance ++ finite_tests s e

abbrev pub variogram_tests : Variogram → List Test
variogram_tests v = spot_tests v ++ model_tests v

unfoldable pub survey_tests : Limits → Survey → ℕ → List Float → List Test
unfolding number_not_finite
survey_tests limits s m e = list_tests s m e ++ (limit_tests limits s m ++ (number_tests s e ++ variogram_tests s.options.variogram))

-- the number of the first that holds of a survey with its own nodes, and 0 where none does
unfoldable pub survey_refusal : Limits → Survey → ℕ
unfolding survey_tests first_of
survey_refusal limits s = first_of (survey_tests limits s (node_count s) s.node_external)
