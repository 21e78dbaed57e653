-- The system is its own transpose where k is. Of a call whose entries are the system's, row by row: the matrix in its work area is the system's, its z the
-- unknowns, its sums those over all unknowns. And the slope by rows is the slope by unknowns.
use Prim.Native.Nat.{ℕ, ◌+◌, ◌*◌, ◌<◌, ◌≤◌}
use mathlib.Core.Path.{◌≡◌, refl, ap, ◌∙◌}
use mathlib.Core.List.{List}
use lib.ListN.{length, get_or}
use lib.Ieee.{Float, nan, binary64, mul}
use Rattle.ieee.specs.Sums.{add_each, running_sum}
use Rattle.ieee.proofs.Sums.{same_sum, same_added, sum_on}
use Rattle.elimination.specs.Elimination.{at}
use Rattle.elimination.specs.Inverse.{laid, inverse_at, times_inverse}
use Rattle.elimination.proofs.Laid.{laid_left}
use Rattle.system_theory.specs.Drift.{Place}
use Rattle.system_theory.specs.System.{System, columns, size, Index, Well, Drift, Within, coefficient_of, right_of, sum_over, row_of, unknown_of}
use Rattle.system_theory.specs.Slopes.{slope, slope_of}
use Rattle.system_theory.proofs.Rows.{row_below}

-- beside the wells' part stands F, and below it F's transpose
pub own_transpose : (s : System) → ((i j : ℕ) → s.between i j ≡ s.between j i) → (u v : Index) → coefficient_of s u v ≡ coefficient_of s v u
unfolding coefficient_of
own_transpose s h (Well i) (Well j) = h i j
own_transpose s h (Well i) (Drift l) = refl
own_transpose s h (Drift l) (Well j) = refl
own_transpose s h (Drift l) (Drift k) = refl

-- sums over the same terms
pub same_over : (s : System) (f g : Index → Float) → ((u : Index) → Within s u → f u ≡ g u) → sum_over s f ≡ sum_over s g
unfolding sum_over
same_over s f g h =
    ap (λ (x : Float). add_each x (columns s) (λ l. f (Drift l))) (same_sum s.wells _ _ (λ i b. h (Well i) b))
    ∙ same_added _ (columns s) _ _ (λ l b. h (Drift l) b)

-- a matrix of m rows
module _ (s : System) (m : ℕ) (rows : m ≡ size s) where
  -- whose entries are the system's, in a work area beside the identity
  pub matrix_at : (entry : ℕ → ℕ → Float) → ((u v : Index) → Within s u → Within s v → entry (row_of s u) (row_of s v) ≡ coefficient_of s u v)
      → (work : List Float) → 2 * m * m ≤ length work → (u v : Index) → Within s u → Within s v
      → at (2 * m) (laid m entry work) (row_of s u) (row_of s v) ≡ coefficient_of s u v
  matrix_at entry is work long u v hu hv = laid_left m entry work nan long (row_of s u) (row_of s v) (below u hu) (below v hv) ∙ is u v hu hv
    where
      below : (u : Index) → Within s u → row_of s u < m
      below u h = rw rows (row_below s u h)

  -- and whose right-hand side is the system's at a node
  module _ (node : Place) (b : ℕ → Float) (is : (u : Index) → Within s u → b (row_of s u) ≡ right_of s node u) where
    pub sum_is : (z : ℕ → Float) → running_sum m (λ i. mul binary64 (z i) (b i)) ≡ sum_over s (λ u. mul binary64 (z (row_of s u)) (right_of s node u))
    unfolding sum_over
    sum_is z =
        ap (λ (k : ℕ). running_sum k (λ i. mul binary64 (z i) (b i))) rows
        ∙ sum_on s.wells _ _ _ (columns s)
        (λ i h. ap (λ (x : Float). mul binary64 (z i) x) (is (Well i) h))
        (λ l h. ap (λ (x : Float). mul binary64 (z (s.wells + l)) x) (is (Drift l) h))

    pub unknown_is : (work : List Float) (u : Index) → times_inverse m work b (row_of s u) ≡ unknown_of s work node u
    unfolding times_inverse unknown_of
    unknown_is work u =
        sum_is (inverse_at m work (row_of s u))
        ∙ ap (λ (k : ℕ). sum_over s (λ v. mul binary64 (inverse_at k work (row_of s u) (row_of s v)) (right_of s node v))) rows

  -- the slope of drift function l
  pub slope_is : (work values : List Float) → length values ≡ s.wells → (l : ℕ) → slope m work values l ≡ slope_of s work (λ i. get_or values i nan) (Drift l)
  unfolding slope slope_of
  slope_is work values e l = rw (rows, e)
