-- The universal kriging equations in terms of the variogram, block by block: Chilès and Delfiner, Geostatistics, chapter 3, kriging with an unknown mean.
-- With wells x_i, a node x_0 and drift functions f_l,
--     Σ_j γ(x_i, x_j) λ_j + Σ_l μ_l f_l(x_i) = γ(x_i, x_0) for each well i,
--     Σ_j λ_j f_l(x_j) = f_l(x_0) for each l,
--     and the variance is Σ_i λ_i γ(x_i, x_0) + Σ_l μ_l f_l(x_0).
-- Paper 01 adds r to the diagonal. The equations, their unknowns and where they stand in the matrix are said in system_theory/specs/System, for this system
-- and the interpolator's.
use Rattle.std.specs.Prelude.{ℕ, suc, ◌-◌, ◌*◌, ◌+◌, ◌<◌, ◌≡◌, cond, List, [], ◌∷◌, ◌++◌, eqb, get_or, Float}
use Rattle.std.specs.Float.{nan, binary64}
use Rattle.std.specs.Float.Ieee.{add, mul}
use Rattle.ieee.specs.Floats.{zero_float, not_below_zero}
use Rattle.elimination.specs.Elimination.{at}
use Rattle.variogram.specs.Model.{semivariance}
use Rattle.variogram.specs.Distance.{distance2d}
use Rattle.system_theory.specs.Drift.{Place, in_plane, Monomial, One, X, Y, XX, XY, YY, External}
use Rattle.system_theory.specs.System.{System, size as equations, Index, Well, Drift, Within, coefficient_of, right_of, sum_over, estimate_of, row_of, unknown_of}
use Rattle.system_theory.specs.Slopes.{slope_of}
use Rattle.survey.specs.Survey.{Survey, wells, node_count, columns, size, well_x, well_y, well_external, node_x, node_y, node_external_at, value_at}
use Rattle.kriging_theory.specs.Areas.{Areas}
use Rattle.kriging_theory.specs.Assembly.{assembled}

-- ---- places: x_i of a well and x_0 of a node
abbrev pub well_place : Survey → ℕ → Place
well_place s i = record { axis = in_plane (well_x s i) (well_y s i); external = well_external s i }

abbrev pub node_place : Survey → ℕ → Place
node_place s q = record { axis = in_plane (node_x s q) (node_y s q); external = node_external_at s q }

-- γ(a, b)
unfoldable pub variogram_of : Survey → Place → Place → Float
unfolding semivariance distance2d
variogram_of s a b = semivariance s.options.variogram (distance2d (a.axis 0) (a.axis 1) (b.axis 0) (b.axis 1))

-- ---- drift functions f_l

-- "basis codes 1 Constant, 2 Linear, 3 Quadratic, 4 External": the functions of one code, where `used` external columns are taken already
unfoldable pub basis : ℕ → ℕ → List Monomial
basis used c =
    cond (eqb c 1) (One ∷ [])
    (cond (eqb c 2) (One ∷ X ∷ Y ∷ [])
    (cond (eqb c 3) (One ∷ X ∷ Y ∷ XX ∷ XY ∷ YY ∷ [])
    (cond (eqb c 4) (External used ∷ []) [])))

-- those of a list of codes, "in basis order"
unfoldable pub monomials : ℕ → List ℕ → List Monomial
unfolding basis
monomials used [] = []
monomials used (c ∷ cs) = basis used c ++ monomials (cond (eqb c 4) (suc used) used) cs

-- ---- the system: "variogram between different wells, 0 + r on the diagonal"
abbrev pub system_of : Survey → System
system_of s = record {
  wells = wells s;
  place = well_place s;
  functions = monomials 0 s.bases;
  between = λ i j. cond (eqb i j) (add binary64 zero_float s.options.regularization) (variogram_of s (well_place s i) (well_place s j));
  measure = variogram_of s;
}

-- Σ_i λ_i γ(x_i, x_0) + Σ_l μ_l f_l(x_0), from the unknowns
unfoldable pub variance_sum : Survey → Place → (Index → Float) → Float
unfolding variogram_of monomials right_of sum_over
variance_sum s node unknown = sum_over (system_of s) (λ u. mul binary64 (unknown u) (right_of (system_of s) node u))

-- ---- the answer
-- an unknown of node q, from the work area of a finished elimination
abbrev pub unknown_at : Survey → List Float → ℕ → Index → Float
unknown_at s work q u = unknown_of (system_of s) work (node_place s q) u

-- what an accepted fit eliminated in the areas a, and what they hold at exit, in these terms
pub record Kriged (s : Survey) (a e : Areas) : Type 0 where
  -- the matrix has a row for each equation
  pub rows : size s ≡ equations (system_of s)
  -- and it is the system's
  pub matrix : (u v : Index) → Within (system_of s) u → Within (system_of s) v
      → at (2 * size s) (assembled s a.work) (row_of (system_of s) u) (row_of (system_of s) v) ≡ coefficient_of (system_of s) u v
  -- "The first n entries of z are the weights", the λ of each node
  pub weight : (q i : ℕ) → q < node_count s → i < wells s → get_or e.weights (q * wells s + i) nan ≡ unknown_at s e.work q (Well i)
  -- Σ_i λ_i value_i
  pub figure : (q : ℕ) → q < node_count s → get_or e.predicted q nan ≡ estimate_of (system_of s) (value_at s) (unknown_at s e.work q)
  -- "minus zero, anything below zero and NaN become +0"
  pub variance : (q : ℕ) → q < node_count s → get_or e.variance q nan ≡ not_below_zero (variance_sum s (node_place s q) (unknown_at s e.work q))
  -- "In Chilès and Delfiner those p numbers are Lagrange multipliers": the μ of the last node
  pub multiplier : (j : ℕ) → 0 < node_count s → j < columns s → get_or e.multipliers j nan ≡ unknown_at s e.work (node_count s - 1) (Drift j)
  -- the trend, from the same inverse that gives every λ and μ; nodes or none (specs/LeastSquares)
  pub trend : (j : ℕ) → j < columns s → get_or e.trend j nan ≡ slope_of (system_of s) e.work (value_at s) (Drift j)
  -- "zeros if m = 0"
  pub no_nodes : (j : ℕ) → node_count s ≡ 0 → j < columns s → get_or e.multipliers j nan ≡ zero_float
