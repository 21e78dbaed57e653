-- Demand 3, read off the areas of a fit at exit: when a node has which verdict, and the trend bound of a node that passed. Paper 01, "Audit (added)".
use Rattle.std.specs.Prelude.{ℕ, ◌+◌, ◌*◌, ◌<◌, ◌≡◌, T, get_or}
use Rattle.std.specs.Float.{nan}
use Rattle.std.specs.Float.Ieee.Scale.{finite}
use Rattle.error.specs.Outcome.{Outcome}
use Rattle.survey.specs.Survey.{Survey, wells, node_count, columns, value_at}
use Rattle.audit.specs.Audit.{Audited}
use Rattle.audit.specs.Trend.{Verdict, TrendBound}
use Rattle.kriging_theory.specs.Areas.{Areas}
use Rattle.kriging_theory.specs.Drift.{drift, node_row}

-- node q as the areas at exit have it: its weights and its figure are those that the fit wrote; "Column entries are those of F and f0, the f64 numbers of the
-- assembly and of the node"
abbrev pub at_exit : Survey → Areas → ℕ → Audited
at_exit s e q = record {
  weighed = record {
    n = wells s;
    p = columns s;
    weight = λ i. get_or e.weights (q * wells s + i) nan;
    drift = drift s;
    node_drift = λ j. get_or (node_row s q) j nan;
    tolerance = s.tolerance;
  };
  value = value_at s;
  figure = get_or e.predicted q nan;
}

-- the verdict that the fit wrote for node q
abbrev pub verdict_at_exit : Areas → ℕ → ℕ
verdict_at_exit e q = get_or e.verdicts q 255

-- demand 3: in every accepted fit each node has the verdict of its own weights and figure, and a node that passed keeps the trend bound.
-- What the bound reads and the verdict does not ask to be finite, the values and the tolerance, is finite too: `units` is the value of every number there.
pub record TrendKept (s : Survey) (e : Outcome Areas) : Type 0 where
  pub verdict : e.number ≡ 0 → (q : ℕ) → q < node_count s → Verdict (at_exit s e.areas q) (verdict_at_exit e.areas q)
  pub trend : e.number ≡ 0 → (q : ℕ) → q < node_count s → verdict_at_exit e.areas q ≡ 0 → TrendBound (at_exit s e.areas q)
  pub values : e.number ≡ 0 → (i : ℕ) → i < wells s → T (finite (value_at s i))
  pub tolerance : e.number ≡ 0 → T (finite s.tolerance)
