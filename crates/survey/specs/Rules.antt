-- What turns a survey away, as the papers say it and not as tests: paper 01, "What turns a call away", 1 to 12, and 22 of paper 02, each from its own line.
-- The rules come in single parts, which the calls join, so that a call can widen one number or put one in between by one line.
-- How many nodes there are, m, and their externals, e, stand apart from the survey's own lists.
use Rattle.std.specs.Prelude.{ℕ, ◌*◌, ◌%◌, ◌<◌, ◌≡◌, ◌≢◌, ◌⊎◌, true, List, [], ◌∷◌, ◌++◌, length, get_or, Float}
use Rattle.std.specs.Float.Ieee.{lt}
use Rattle.error.specs.Rules.{Rule, rule}
use Rattle.ieee.specs.Floats.{zero_float}
use Rattle.ieee.specs.Finite.{NotFinite, SomeNotFinite}
use Rattle.variogram.specs.declared.Variogram.{Variogram}
use Rattle.variogram.specs.Model.{WrongSpot, WrongModel}
use Rattle.survey.specs.declared.Limits.{Limits}
use Rattle.survey.specs.Survey.{Survey, wells, columns, externals}

-- ---- conditions
-- 1: "coordinates not 2n long"
abbrev pub WrongCoords : Survey → Type 0
WrongCoords s = length s.coords ≢ 2 * wells s

-- 2: "node list odd"
abbrev pub OddNodes : Survey → Type 0
OddNodes s = length s.nodes % 2 ≢ 0

-- 3: "no basis"
abbrev pub NoBasis : Survey → Type 0
NoBasis s = length s.bases ≡ 0

-- 4: "a code outside 1..4"
abbrev pub BadCode : ℕ → Type 0
BadCode c = (c < 1) ⊎ (4 < c)

pub record SomeBadCode (codes : List ℕ) : Type 0 where
  pub place : ℕ
  pub inside : place < length codes
  pub is : BadCode (get_or codes place 0)

-- 5 and 10: "negative or not finite"
abbrev pub BadAmount : Float → Type 0
BadAmount x = (lt x zero_float ≡ true) ⊎ NotFinite x

-- 6: "externals not k·n"
abbrev pub WrongExternal : Survey → Type 0
WrongExternal s = length s.external ≢ externals s * wells s

-- 7: "n < p"
abbrev pub TooFewWells : Survey → Type 0
TooFewWells s = wells s < columns s

-- 8: "k > 0 and node externals not k·m"
abbrev pub WrongNodeExternal : Survey → ℕ → List Float → Type 0
WrongNodeExternal s m e = (0 < externals s) × (length e ≢ externals s * m)

-- 9: "n > 48, p > 12 or m > 100", by the limits of the library ("n > 96 in place of n > 48") or of the program
abbrev pub TooMany : Limits → Survey → ℕ → Type 0
TooMany limits s m = (limits.wells < wells s) ⊎ (limits.columns < columns s) ⊎ (limits.nodes < m)

-- 11: "nugget, sill, range, .. not finite"
abbrev pub VariogramNotFinite : Variogram → Type 0
VariogramNotFinite v = NotFinite v.nugget ⊎ NotFinite v.sill ⊎ NotFinite v.range

-- 11: "nugget, sill, range, a value, coordinate, external, node or, if k > 0, node external not finite"
abbrev pub NumberNotFinite : Survey → List Float → Type 0
NumberNotFinite s e =
    VariogramNotFinite s.options.variogram
    ⊎ SomeNotFinite s.values
    ⊎ SomeNotFinite s.coords
    ⊎ SomeNotFinite s.external
    ⊎ SomeNotFinite s.nodes
    ⊎ ((0 < externals s) × SomeNotFinite e)

-- ---- rules, in single parts: a call joins those that it has, in the order in which they count there
abbrev pub coord_rules : Survey → List Rule
coord_rules s = rule 1 (WrongCoords s) ∷ []

abbrev pub node_rules : Survey → List Rule
node_rules s = rule 2 (OddNodes s) ∷ []

-- the codes, with r and what they ask of the wells
abbrev pub basis_rules : Survey → List Rule
basis_rules s =
    rule 3 (NoBasis s)
    ∷ rule 4 (SomeBadCode s.bases)
    ∷ rule 5 (BadAmount s.options.regularization)
    ∷ rule 6 (WrongExternal s)
    ∷ rule 7 (TooFewWells s)
    ∷ []

abbrev pub node_external_rules : Survey → ℕ → List Float → List Rule
node_external_rules s m e = rule 8 (WrongNodeExternal s m e) ∷ []

abbrev pub limit_rules : Limits → Survey → ℕ → List Rule
limit_rules limits s m = rule 9 (TooMany limits s m) ∷ []

abbrev pub tolerance_rules : Float → List Rule
tolerance_rules t = rule 10 (BadAmount t) ∷ []

abbrev pub finite_rules : Survey → List Float → List Rule
finite_rules s e = rule 11 (NumberNotFinite s e) ∷ []

-- "22 same-spot distance not finite or below 2^-52, straight after 11"
abbrev pub spot_rules : Variogram → List Rule
spot_rules v = rule 22 (WrongSpot v) ∷ []

-- "12 now means an Exponential survey whose range is not above zero, and nothing else"
abbrev pub model_rules : Variogram → List Rule
model_rules v = rule 12 (WrongModel v) ∷ []

-- ---- joined: 1 to 8, the lists; 10 and 11, the numbers; 22 and 12, the variogram; and all of them, 1 to 11, 22, 12
abbrev pub list_rules : Survey → ℕ → List Float → List Rule
list_rules s m e = coord_rules s ++ (node_rules s ++ (basis_rules s ++ node_external_rules s m e))

abbrev pub number_rules : Survey → List Float → List Rule
number_rules s e = tolerance_rules s.tolerance ++ finite_rules s e

abbrev pub variogram_rules : Variogram → List Rule
variogram_rules v = spot_rules v ++ model_rules v

abbrev pub survey_rules : Limits → Survey → ℕ → List Float → List Rule
survey_rules limits s m e = list_rules s m e ++ (limit_rules limits s m ++ (number_rules s e ++ variogram_rules s.options.variogram))
