-- The kriging equations, block by block, whatever function k measures two places by: Chilès and Delfiner, Geostatistics, chapter 3.
-- With wells x_i, their values v_i, a node x_0 and drift functions f_l,
--     Σ_j k(x_i, x_j) λ_j + Σ_l μ_l f_l(x_i) = k(x_i, x_0) for each well i,
--     Σ_j λ_j f_l(x_j) = f_l(x_0) for each l,
--     and the estimate is Σ_i λ_i v_i.
-- k is the variogram in a fit, the covariance in the interpolator. Each operation is rounded once. Where the equations stand in the matrix is said last and
-- apart, by `row_of`.
use Rattle.std.specs.Prelude.{ℕ, ◌+◌, ◌<◌, List, map, length, get_or, Float}
use Rattle.std.specs.Float.{nan, binary64}
use Rattle.std.specs.Float.Ieee.{mul}
use Rattle.ieee.specs.Floats.{zero_float}
use Rattle.ieee.specs.Sums.{add_each, running_sum}
use Rattle.elimination.specs.Inverse.{inverse_at}
use Rattle.system_theory.specs.Drift.{Place, Monomial, value_of}

pub record System : Type 0 where
  -- n
  pub wells : ℕ
  -- x_i
  pub place : ℕ → Place
  -- the f_l, in their order
  pub functions : List Monomial
  -- k(x_i, x_j) of two wells, by their numbers: a call may have its own on the diagonal
  pub between : ℕ → ℕ → Float
  -- k(x_i, x_0), of a well and a node
  pub measure : Place → Place → Float

-- p, how many drift functions there are
abbrev pub columns : System → ℕ
columns s = length s.functions

-- "Size s = n + p."
abbrev pub size : System → ℕ
size s = s.wells + columns s

-- f_l at a place
unfoldable pub drift_at : System → ℕ → Place → Float
unfolding value_of
drift_at s l a = get_or (map (λ m. value_of m a) s.functions) l nan

-- ---- the equations

-- an unknown, λ_j of well j or μ_l of drift function l; and an equation, that of well i or of drift function l
pub data Index : Type 0 where
  Well : ℕ → Index
  Drift : ℕ → Index

-- n of the one kind and p of the other
abbrev pub Within : System → Index → Type 0
Within s (Well i) = i < s.wells
Within s (Drift l) = l < columns s

-- what equation u multiplies the unknown v by
unfoldable pub coefficient_of : System → Index → Index → Float
unfolding drift_at
coefficient_of s (Well i) (Well j) = s.between i j
coefficient_of s (Well i) (Drift l) = drift_at s l (s.place i)
coefficient_of s (Drift l) (Well j) = drift_at s l (s.place j)
coefficient_of s (Drift l) (Drift k) = zero_float

-- its right-hand side at the node x_0
unfoldable pub right_of : System → Place → Index → Float
unfolding drift_at
right_of s node (Well i) = s.measure (s.place i) node
right_of s node (Drift l) = drift_at s l node

-- a sum over all unknowns, "summed from 0": the wells', then the drift functions'
unfoldable pub sum_over : System → (Index → Float) → Float
unfolding add_each
sum_over s f = add_each (running_sum s.wells (λ i. f (Well i))) (columns s) (λ l. f (Drift l))

-- Σ_i λ_i v_i, from the values of the wells and the unknowns
unfoldable pub estimate_of : System → (ℕ → Float) → (Index → Float) → Float
unfolding add_each
estimate_of s value unknown = running_sum s.wells (λ i. mul binary64 (unknown (Well i)) (value i))

-- ---- where they stand: wells first, then drift functions
abbrev pub row_of : System → Index → ℕ
row_of s (Well i) = i
row_of s (Drift l) = s.wells + l

-- ---- the unknowns
-- "The right half is the inverse": of the work area of a finished elimination, in the row of equation u and the column of v
abbrev pub inverse_of : System → List Float → Index → Index → Float
inverse_of s work u v = inverse_at (size s) work (row_of s u) (row_of s v)

-- an unknown at the node x_0: the inverse times the right-hand side there, "summed from 0 by rising column"
unfoldable pub unknown_of : System → List Float → Place → Index → Float
unfolding sum_over right_of
unknown_of s work node u = sum_over s (λ v. mul binary64 (inverse_of s work u v) (right_of s node v))
