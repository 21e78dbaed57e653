-- The assembled matrix is the kriging system's, entry by entry, beside the identity; its right-hand side and its variance are the node's;
-- and it is symmetric, bit for bit.
use Prim.Native.Nat.{ℕ, ◌+◌, ◌-◌, ◌*◌, ◌<◌, ◌≤◌}
use native.Mathlib.Decide.{ℕ_discrete}
use native.Mathlib.Omega.{arith}
use mathlib.Core.Path.{◌≡◌, refl, ap₂, sym, ◌∙◌}
use mathlib.Core.Logic.{◌≢◌}
use mathlib.Core.Bool.{Bool, true, false, cond}
use mathlib.Core.List.{List}
use borrow.Author.Tests.{lt-ltb, le-ltb, ne_eqb}
use lib.Dec.{ltb}
use lib.ListN.{length, get_or, length-append}
use lib.Ieee.{Float, nan, binary64, mul}
use Rattle.area.specs.Area.{table}
use Rattle.area.proofs.Tables.{table_length, joined_at, joined_past}
use Rattle.ieee.specs.Floats.{zero_float, one_float}
use Rattle.ieee.specs.Sums.{running_sum}
use Rattle.variogram.proofs.Distance.{distance2d_back}
use Rattle.elimination.specs.Elimination.{at}
use Rattle.elimination.proofs.Laid.{laid_left, laid_one, laid_zero}
use Rattle.system_theory.specs.System.{Index, Well, Drift, Within, coefficient_of, right_of, row_of}
use Rattle.system_theory.proofs.System.{own_transpose, matrix_at as laid-matrix, sum_is}
use Rattle.survey.specs.declared.UniversalKrigingOptions.{UniversalKrigingOptions}
use Rattle.survey.specs.Survey.{Survey, wells, size, x_of, y_of}
use Rattle.kriging_theory.specs.Drift.{drift, node_row}
use Rattle.kriging_theory.specs.Assembly.{between, joined, entry, assembled}
use Rattle.kriging_theory.specs.Node.{right_hand_of, right_hand}
use Rattle.kriging_theory.specs.System.{node_place, variogram_of, system_of, variance_sum}
use Rattle.kriging_theory.proofs.SystemDrift.{drift_well, drift_node, node_row_length, rows_are}

-- ---- entries
module _ (s : Survey) where
  inside : (i : ℕ) → i < wells s → ltb i (wells s) ≡ true
  inside i h = lt-ltb i (wells s) h

  past : (l : ℕ) → ltb (wells s + l) (wells s) ≡ false
  past l = le-ltb (wells s + l) (wells s) (omega arith)

  back : (l : ℕ) → wells s + l - wells s ≡ l
  back l = omega arith

  pub entry_is : (u v : Index) → Within (system_of s) u → Within (system_of s) v
      → entry s (row_of (system_of s) u) (row_of (system_of s) v) ≡ coefficient_of (system_of s) u v
  unfolding entry joined between coefficient_of variogram_of
  entry_is (Well i) (Well j) hu hv = rw (inside i hu, inside j hv)
  entry_is (Well i) (Drift l) hu hv = rw (inside i hu, past l, back l) (drift_well s i l)
  entry_is (Drift l) (Well j) hu hv = rw (past l, inside j hv, back l) (drift_well s j l)
  entry_is (Drift l) (Drift k) hu hv = rw (past l, past k)

-- ---- the work area: the matrix, and the identity beside it
pub matrix_at : (s : Survey) (work : List Float) → 2 * size s * size s ≤ length work → (u v : Index) → Within (system_of s) u → Within (system_of s) v
    → at (2 * size s) (assembled s work) (row_of (system_of s) u) (row_of (system_of s) v) ≡ coefficient_of (system_of s) u v
matrix_at s work long = laid-matrix (system_of s) (size s) (rows_are s) (entry s) (entry_is s) work long

module _ (s : Survey) (work : List Float) (d : Float) (long : 2 * size s * size s ≤ length work) where
  -- in the left half, column j of row i
  left_half : (i j : ℕ) → i < size s → j < size s → get_or (assembled s work) (i * (2 * size s) + j) d ≡ entry s i j
  left_half = laid_left (size s) (entry s) work d long

  -- in the right half, column j of row i
  pub identity_one : (i : ℕ) → i < size s → get_or (assembled s work) (i * (2 * size s) + (size s + i)) d ≡ one_float
  identity_one = laid_one (size s) (entry s) work d long

  pub identity_zero : (i j : ℕ) → i < size s → j < size s → i ≢ j → get_or (assembled s work) (i * (2 * size s) + (size s + j)) d ≡ zero_float
  identity_zero = laid_zero (size s) (entry s) work d long

-- ---- the right-hand side and the variance of a node
pub right_length : (s : Survey) (q : ℕ) → length (right_hand s q) ≡ size s
unfolding right_hand right_hand_of
right_length s q = length-append (table (wells s) _) (node_row s q) ∙ ap₂ (λ (m n : ℕ). m + n) (table_length (wells s) _) (node_row_length s q)

pub right_is : (s : Survey) (q : ℕ) (u : Index) → Within (system_of s) u
    → get_or (right_hand s q) (row_of (system_of s) u) nan ≡ right_of (system_of s) (node_place s q) u
unfolding right_hand right_hand_of right_of variogram_of
right_is s q (Well i) h = joined_at (wells s) _ (node_row s q) i nan h
right_is s q (Drift l) h = joined_past (wells s) _ (node_row s q) l nan ∙ drift_node s q l

-- before minus zero, what is below zero and NaN become +0: z holds the unknowns, row by row
pub variance_is : (s : Survey) (q : ℕ) (z : List Float)
    → running_sum (size s) (λ i. mul binary64 (get_or z i nan) (get_or (right_hand s q) i nan))
    ≡ variance_sum s (node_place s q) (λ u. get_or z (row_of (system_of s) u) nan)
unfolding variance_sum
variance_is s q z = sum_is (system_of s) (size s) (rows_are s) (node_place s q) (λ i. get_or (right_hand s q) i nan) (right_is s q) (λ i. get_or z i nan)

-- ---- symmetry, bit for bit, for every survey
between_back : (options : UniversalKrigingOptions) (coords : List Float) (i j : ℕ) → between options coords i j ≡ between options coords j i
unfolding between
between_back options coords i j =
    elim (ℕ_discrete i j) [
      | yes e ↦ ap₂ (between options coords) e (sym e)
      | no n ↦ rw (ne_eqb i j n, ne_eqb j i (λ e. n (sym e)), distance2d_back (x_of coords i) (y_of coords i) (x_of coords j) (y_of coords j))
    ]

-- whatever F is
pub joined_back : (n : ℕ) (options : UniversalKrigingOptions) (coords : List Float) (f : ℕ → ℕ → Float) (i j : ℕ)
    → joined n (between options coords) f i j ≡ joined n (between options coords) f j i
unfolding joined
joined_back n options coords f i j = by (ltb i n) (ltb j n)
  where
    gamma : ℕ → ℕ → Float
    gamma = between options coords

    by : (p q : Bool)
        → cond p (cond q (gamma i j) (f i (j - n))) (cond q (f j (i - n)) zero_float)
        ≡ cond q (cond p (gamma j i) (f j (i - n))) (cond p (f i (j - n)) zero_float)
    by true true = between_back options coords i j
    by true false = refl
    by false true = refl
    by false false = refl

pub symmetric : (s : Survey) (i j : ℕ) → entry s i j ≡ entry s j i
unfolding entry
symmetric s i j = joined_back (wells s) s.options s.coords (drift s) i j

pub system_symmetric : (s : Survey) (u v : Index) → coefficient_of (system_of s) u v ≡ coefficient_of (system_of s) v u
unfolding between variogram_of
system_symmetric s = own_transpose (system_of s) (between_back s.options s.coords)

pub area_symmetric : (s : Survey) (work : List Float) (i j : ℕ) (d : Float) → 2 * size s * size s ≤ length work → i < size s → j < size s
    → get_or (assembled s work) (i * (2 * size s) + j) d ≡ get_or (assembled s work) (j * (2 * size s) + i) d
area_symmetric s work i j d long hi hj = left_half s work d long i j hi hj ∙ symmetric s i j ∙ sym (left_half s work d long j i hj hi)
