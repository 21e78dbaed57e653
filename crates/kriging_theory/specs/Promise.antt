-- All that a fit promises, in one record: every call that rests on a fit cites it.
use Rattle.std.specs.Prelude.{ℕ, ◌≡◌, ◌≢◌, ◌↔◌, true}
use Rattle.error.specs.Rules.{Ruled, NoneApplies}
use Rattle.error.specs.Outcome.{Outcome}
use Rattle.elimination.specs.Elimination.{stepped, StopsAt, Through}
use Rattle.survey.specs.declared.Limits.{Limits}
use Rattle.survey.specs.Survey.{Survey, size}
use Rattle.kriging_theory.specs.Areas.{Areas, with_work}
use Rattle.kriging_theory.specs.Assembly.{assembled}
use Rattle.kriging_theory.specs.Rules.{rules}
use Rattle.kriging_theory.specs.Fit.{fitted}
use Rattle.kriging_theory.specs.Untouched.{Untouched}
use Rattle.kriging_theory.specs.System.{Kriged}
use Rattle.kriging_theory.specs.Trend.{TrendKept}

-- a fit of the survey s within these limits, on the areas a as they were lent, ended as e: its number, and the areas at exit
pub record Promise (limits : Limits) (s : Survey) (a : Areas) (e : Outcome Areas) : Type 0 where
  -- the whole of it, refused calls too
  pub equation : e ≡ fitted limits s a
  -- any number but 0 and 19 is that of the first rule that applies, and then nothing is written
  pub ruled : ((k : ℕ) → k ≢ 0 → k ≢ 19 → (e.number ≡ k) ↔ Ruled (rules limits s a) k) × (e.number ≢ 0 → e.number ≢ 19 → e.areas ≡ a)
  -- 19 exactly where no rule applies and some step holds a magnitude below 2^-52; the work area is then as it was before that step
  pub stopped : ((e.number ≡ 19) ↔ (NoneApplies (rules limits s a) × ((i : ℕ) × StopsAt true (size s) i (assembled s a.work))))
      × ((i : ℕ) → e.number ≡ 19 → StopsAt true (size s) i (assembled s a.work)
      → e.areas ≡ with_work a (stepped true (size s) i (assembled s a.work)))
  -- 0 exactly where no rule applies and every step goes through
  pub accepted : (e.number ≡ 0) ↔ (NoneApplies (rules limits s a) × Through true (size s) (size s) (assembled s a.work))
  -- past the named lengths every area is as it was, however the call ends
  pub kept : Untouched s a e.areas
  -- the matrix of an accepted fit is the kriging system's, and its areas hold the unknowns: weights, figures, variances, multipliers; and the trend, from
  -- the same inverse
  pub kriged : e.number ≡ 0 → Kriged s a e.areas
  -- demand 3: in an accepted fit each node has exactly the verdict of its own weights and figure, and one that passed keeps the trend bound
  pub bounded : TrendKept s e
