-- One node: paper 01, "Node", in two parts: what does not depend on the values of the wells, and what does.
use Rattle.std.specs.Prelude.{ℕ, List, ◌++◌, get_or, Float}
use Rattle.std.specs.Float.{nan, binary64}
use Rattle.std.specs.Float.Ieee.{mul}
use Rattle.area.specs.Area.{table}
use Rattle.ieee.specs.Floats.{not_below_zero}
use Rattle.ieee.specs.Sums.{add_each, running_sum}
use Rattle.elimination.specs.Inverse.{times_inverse}
use Rattle.variogram.specs.declared.Variogram.{Variogram}
use Rattle.variogram.specs.Model.{semivariance}
use Rattle.variogram.specs.Distance.{distance2d}
use Rattle.survey.specs.Survey.{Survey, wells, columns, size, x_of, y_of, node_x, node_y, value_at}
use Rattle.audit.specs.Audit.{Weighed, Audited, column_verdict, verdict_with}
use Rattle.kriging_theory.specs.Drift.{drift, node_row}

-- "b is the variogram to each well ..": of the place x, y to well i
unfoldable pub gamma_to : Variogram → List Float → Float → Float → ℕ → Float
unfolding semivariance distance2d
gamma_to variogram coords x y i = semivariance variogram (distance2d (x_of coords i) (y_of coords i) x y)

-- "then the node's drift entries f0": to n wells
unfoldable pub right_hand_of : ℕ → (ℕ → Float) → List Float → List Float
right_hand_of n gamma f0 = table n gamma ++ f0

unfoldable pub right_hand : Survey → ℕ → List Float
unfolding gamma_to right_hand_of
right_hand s q = right_hand_of (wells s) (gamma_to s.options.variogram s.coords (node_x s q) (node_y s q)) (node_row s q)

-- "z = inverse times b"
unfoldable pub z_of : ℕ → List Float → List Float → List Float
unfolding times_inverse
z_of size work b = table size (times_inverse size work (λ j. get_or b j nan))

-- "Variance: Σ z·b over all s entries; minus zero, anything below zero and NaN become +0"
unfoldable pub variance_of : ℕ → List Float → List Float → Float
unfolding add_each
variance_of size z b = not_below_zero (running_sum size (λ i. mul binary64 (get_or z i nan) (get_or b i nan)))

-- "Figure: Σ z_i·value_i"
unfoldable pub figure_of : Survey → List Float → Float
unfolding add_each
figure_of s z = running_sum (wells s) (λ i. mul binary64 (get_or z i nan) (value_at s i))

-- ---- without the values

-- what the audit's rows 1 to p read: "The first n entries of z are the weights"
abbrev pub weighed_of : Survey → ℕ → List Float → Weighed
weighed_of s q z = record {
  n = wells s;
  p = columns s;
  weight = λ i. get_or z i nan;
  drift = drift s;
  node_drift = λ j. get_or (node_row s q) j nan;
  tolerance = s.tolerance;
}

-- z, the variance, and the verdict of rows 1 to p
pub record Solution : Type 0 where
  pub z : List Float
  pub variance : Float
  pub drift_verdict : ℕ

-- of node q, from the finished elimination
unfoldable pub solution_of : Survey → List Float → ℕ → Solution
unfolding right_hand z_of variance_of column_verdict
solution_of s work q =
    let b = right_hand s q in
    let z = z_of (size s) work b in
    record { z = z; variance = variance_of (size s) z b; drift_verdict = column_verdict (weighed_of s q z) }

-- ---- with the values

-- all that its audit reads
abbrev pub audit_of : Survey → ℕ → List Float → Float → Audited
audit_of s q z figure = record { weighed = weighed_of s q z; value = value_at s; figure = figure }

-- what a node gets: z with its weights, its figure, its variance and its verdict
pub record Node : Type 0 where
  pub z : List Float
  pub figure : Float
  pub variance : Float
  pub verdict : ℕ

-- node q, from its solution
unfoldable pub node_with : Survey → ℕ → Solution → Node
unfolding figure_of verdict_with
node_with s q v =
    let figure = figure_of s v.z in
    record { z = v.z; figure = figure; variance = v.variance; verdict = verdict_with v.drift_verdict (audit_of s q v.z figure) }

-- node q, from the finished elimination
unfoldable pub node_of : Survey → List Float → ℕ → Node
unfolding solution_of node_with
node_of s work q = node_with s q (solution_of s work q)
