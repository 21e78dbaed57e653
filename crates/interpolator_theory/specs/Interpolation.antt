-- What the interpolator answers: paper 01, "Interpolator", each operation rounded once.
use Rattle.std.specs.Prelude.{ℕ, false, List, get_or, Float}
use Rattle.std.specs.Float.{nan, binary64}
use Rattle.std.specs.Float.Ieee.{mul}
use Rattle.error.specs.Outcome.{Outcome}
use Rattle.area.specs.Area.{written}
use Rattle.ieee.specs.Floats.{not_below_zero}
use Rattle.ieee.specs.Sums.{add_each, running_sum, less_each}
use Rattle.elimination.specs.Inverse.{times_inverse}
use Rattle.elimination.specs.Call.{Call, called}
use Rattle.survey.specs.declared.Limits.{Limits}
use Rattle.interpolator_theory.specs.Call.{Query, Areas, with_work, with_figures, with_variances, wells, node_count, size}
use Rattle.interpolator_theory.specs.Assembly.{column, entry, right_side}
use Rattle.interpolator_theory.specs.Refusals.{refusal}

-- "z = inverse times b" of the target t, from the work area of the finished elimination
unfoldable pub solution : Query → List Float → ℕ → ℕ → Float
unfolding times_inverse column
solution q work t i = times_inverse (size q) work (right_side q t) i

-- "Figure: Σ z_i·value_i"
unfoldable pub figure : Query → List Float → ℕ → Float
unfolding add_each solution
figure q work t = running_sum (wells q) (λ i. mul binary64 (solution q work t i) (get_or q.values i nan))

-- "Variance: sill minus each z·b in turn, then as above"
unfoldable pub variance : Query → List Float → ℕ → Float
unfolding less_each solution column
variance q work t =
    not_below_zero (less_each q.variogram.sill (size q) (λ i. mul binary64 (solution q work t i) (right_side q t i)))

-- every target's figure and variance, from the finished elimination: "m figures and variances"
unfoldable pub answered : Query → Areas → List Float → Areas
unfolding figure variance
answered q a work =
    with_variances
    (with_figures (with_work a work) (written 0 (node_count q) (figure q work) a.figures))
    (written 0 (node_count q) (variance q work) a.variances)

-- what the call eliminates: "Its elimination does not skip a zero factor"
abbrev pub interpolation_call : Limits → Query → Areas → Call Areas
interpolation_call limits q a = record {
  refusal = refusal limits q a;
  skip = false;
  size = size q;
  entry = entry q;
  work = a.work;
  lent = a;
  stopped = with_work a;
  answered = answered q a;
}

-- the whole call: refused, stopped by 19, or answered
unfoldable pub interpolated : Limits → Query → Areas → Outcome Areas
unfolding called refusal entry answered
interpolated limits q a = called (interpolation_call limits q a)
