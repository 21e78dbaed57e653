-- The drift columns: F at the wells and f0 at a node.
use Rattle.std.specs.Prelude.{ℕ, ◌+◌, ◌*◌, ◌<◌, ◌≡◌, cond, List, [], ◌∷◌, ◌++◌, eqb, get_or, Float}
use Rattle.std.specs.Float.{nan, binary64}
use Rattle.std.specs.Float.Ieee.{mul}
use Rattle.ieee.specs.Floats.{one_float}
use Rattle.survey.specs.Survey.{Survey, wells, columns, well_x, well_y, well_external, node_x, node_y, node_external_at}

-- "1; 1, x, y; 1, x, y, x², xy, y²; or the external value": the columns of one code at x, y with the external value e
abbrev pub block : ℕ → Float → Float → Float → List Float
block c x y e =
    cond (eqb c 1) (one_float ∷ [])
    (cond (eqb c 2) (one_float ∷ x ∷ y ∷ [])
    (cond (eqb c 3) (one_float ∷ x ∷ y ∷ mul binary64 x x ∷ mul binary64 x y ∷ mul binary64 y y ∷ [])
    (cond (eqb c 4) (e ∷ []) [])))

-- "row i of F joins .., in basis order": each code 4 takes the next external column; `used` are taken already
abbrev pub drift_row : List ℕ → Float → Float → (ℕ → Float) → ℕ → List Float
drift_row [] x y external used = []
drift_row (c ∷ cs) x y external used = block c x y (external used) ++ drift_row cs x y external (used + cond (eqb c 4) 1 0)

-- row i of F
abbrev pub well_row : Survey → ℕ → List Float
well_row s i = drift_row s.bases (well_x s i) (well_y s i) (well_external s i) 0

-- "the node's drift entries f0"
abbrev pub node_row : Survey → ℕ → List Float
node_row s q = drift_row s.bases (node_x s q) (node_y s q) (node_external_at s q) 0

-- F_ij, at well i and column j
abbrev pub drift : Survey → ℕ → ℕ → Float
drift s i j = get_or (well_row s i) j nan

-- F as it lies in a list, row after row
abbrev pub DriftIn : Survey → List Float → Type 0
DriftIn s F = (i j : ℕ) → i < wells s → j < columns s → get_or F (i * columns s + j) nan ≡ drift s i j
