-- A fit, from a survey and the areas lent to the answer and the areas at exit.
use Rattle.std.specs.Prelude.{ℕ, ◌+◌, ◌-◌, ◌*◌, ◌/◌, ◌%◌, true, cond, List, eqb, get_or, Float}
use Rattle.std.specs.Float.{nan}
use Rattle.area.specs.Area.{written}
use Rattle.error.specs.Outcome.{Outcome}
use Rattle.ieee.specs.Floats.{zero_float}
use Rattle.elimination.specs.Elimination.{stepped}
use Rattle.elimination.specs.Call.{Call, called}
use Rattle.system_theory.specs.Slopes.{slope}
use Rattle.survey.specs.declared.Limits.{Limits}
use Rattle.survey.specs.Survey.{Survey, wells, node_count, columns, size}
use Rattle.kriging_theory.specs.Areas.{Areas, with_work}
use Rattle.kriging_theory.specs.Assembly.{entry, assembled}
use Rattle.kriging_theory.specs.Node.{Node, node_of}
use Rattle.kriging_theory.specs.Refusals.{refusal}

-- "The coefficient area gets .. the last p entries of the last node's z; zeros if m = 0." It "keeps its bits and is called multipliers".
abbrev pub multiplier : Survey → (ℕ → Node) → ℕ → Float
multiplier s node j = cond (eqb (node_count s) 0) zero_float (get_or (node (node_count s - 1)).z (wells s + j) nan)

-- the areas of an accepted fit: "m figures and variances; .. m verdicts, n·m weights (node after node), p coefficients", now called multipliers; and
-- "A new area of p numbers gets the trend's estimate", which no node has a part in
unfoldable pub answered : Survey → Areas → List Float → (ℕ → Node) → Areas
unfolding slope
answered s a work node = record {
  work = work;
  predicted = written 0 (node_count s) (λ q. (node q).figure) a.predicted;
  variance = written 0 (node_count s) (λ q. (node q).variance) a.variance;
  verdicts = written 0 (node_count s) (λ q. (node q).verdict) a.verdicts;
  weights = written 0 (wells s * node_count s) (λ t. get_or (node (t / wells s)).z (t % wells s) nan) a.weights;
  multipliers = written 0 (columns s) (multiplier s node) a.multipliers;
  trend = written 0 (columns s) (slope (size s) work s.values) a.trend;
}

-- the fit as a call that eliminates, and skips a zero factor
abbrev pub fit_call : Limits → Survey → Areas → Call Areas
fit_call limits s a = record {
  refusal = refusal limits s a;
  skip = true;
  size = size s;
  entry = entry s;
  work = a.work;
  lent = a;
  stopped = with_work a;
  answered = λ work. answered s a work (node_of s work);
}

-- "the finished elimination"
abbrev pub worked : Survey → Areas → List Float
worked s a = stepped true (size s) (size s) (assembled s a.work)

-- the fit
unfoldable pub fitted : Limits → Survey → Areas → Outcome Areas
unfolding refusal called entry answered node_of
fitted limits s a = called (fit_call limits s a)
