-- "Trend slopes on the report": the estimate of the drift's coefficients, from a finished elimination. It is said twice, on purpose: `slope` as the paper
-- says it, by rows of the inverse and for whatever list is lent, which the calls cite; `slope_of` as the books do, by unknowns of the system. That
-- the two are one is a theorem (proofs/System).
use Rattle.std.specs.Prelude.{ℕ, ◌+◌, List, length, get_or, Float}
use Rattle.std.specs.Float.{nan, binary64}
use Rattle.std.specs.Float.Ieee.{mul}
use Rattle.ieee.specs.Sums.{add_each, running_sum}
use Rattle.elimination.specs.Inverse.{inverse_at}
use Rattle.system_theory.specs.System.{System, Index, Well, inverse_of}

-- "for column j, the sum from 0 over the wells, in order, of inverse entry (n + j, i) times value i, j and i counted from 1": of n values, in a work area of
-- `size` rows, and here both are counted from 0. "It doesn't depend on the nodes".
unfoldable pub slope : ℕ → List Float → List Float → ℕ → Float
unfolding add_each
slope size work values j = running_sum (length values) (λ i. mul binary64 (inverse_at size work (length values + j) i) (get_or values i nan))

-- the unknown u where the values stand on the right in place of a node's side, and 0 for every drift function: the inverse times these, over the wells.
-- Of drift function l it is the estimate of its coefficient.
unfoldable pub slope_of : System → List Float → (ℕ → Float) → Index → Float
unfolding add_each
slope_of s work value u = running_sum s.wells (λ i. mul binary64 (inverse_of s work u (Well i)) (value i))
