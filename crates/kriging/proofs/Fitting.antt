-- The fit stage by stage, as its code goes: F is the paper's, and each way in which the call ends is that of its definition.
use Rattle.std.proofs.Common.{◌+◌, ◌*◌, ◌≤◌, ◌<◌, ◌≡◌, ap, sym, ◌∙◌, true, List, length, get_or, Err, arith}
use lib.Ieee.{Float, nan}
use Rattle.area.specs.Area.{filled}
use Rattle.area.proofs.Filled as Filled
use Rattle.error.specs.declared.Refusal.{Refusal}
use Rattle.error.specs.Numbers.{number_of}
use Rattle.error.specs.Outcome.{outcome}
use Rattle.elimination.specs.declared.Stop.{Stop}
use Rattle.elimination.specs.declared.Stop.TheVariants.{Pivot, TooShort}
use Rattle.elimination.specs.Elimination.{End, outcome_of, eliminated, refusal_of, Outcome}
use Rattle.elimination.specs.Call.{after_elimination}
use Rattle.elimination.proofs.Call as Call
use Rattle.elimination.proofs.Laid.{kept_laid}
use Rattle.elimination.proofs.Stops.{refused_exactly}
use Rattle.survey.specs.Limits.{library}
use Rattle.survey.specs.Survey.{Survey, wells, columns, size}
use Rattle.kriging_theory.specs.Areas.{Areas, with_work}
use Rattle.kriging_theory.specs.Drift.{DriftIn, drift}
use Rattle.kriging_theory.specs.Assembly.{entry, assembled}
use Rattle.kriging_theory.specs.Refusals.{refusal}
use Rattle.kriging_theory.specs.Fit.{fit_call, fitted}

-- F, row after row in a list that is long enough
pub drift_laid : (s : Survey) (F xs : List Float) → wells s * columns s ≤ length xs → F ≡ filled (columns s) (wells s) (drift s) xs → DriftIn s F
drift_laid s F xs long e i j h k =
    ap (λ (ys : List Float). get_or ys (i * columns s + j) nan) e ∙ Filled.entry (columns s) (wells s) (drift s) xs i j nan long h k

-- an area that holds the matrix is not too short for the elimination
not_short : (s : Survey) (w : List Float) → 2 * size s * size s ≤ length w → ¬ (length (assembled s w) < 2 * size s * size s)
not_short s w h l = omega (arith, (kept_laid (size s) (entry s) w).len)

module _ (s : Survey) (a : Areas) where
  -- turned away
  pub refused_there : (r : Refusal) → number_of r ≡ refusal library s a → outcome (number_of r) a ≡ fitted library s a
  unfolding fitted
  refused_there r e = Call.refused_there (fit_call library s a) r e

  -- taken, and eliminated
  pub taken_there : (r : End) (xs : List Float) → refusal library s a ≡ 0 → outcome_of r xs ≡ eliminated true (size s) (assembled s a.work)
      → after_elimination (fit_call library s a) r xs ≡ fitted library s a
  unfolding fitted
  taken_there r xs e h = Call.eliminated_there (fit_call library s a) r xs e h

  -- and stopped at a step
  pub stopped_there : (stop : Stop) (xs : List Float) → refusal library s a ≡ 0 → 2 * size s * size s ≤ length a.work
      → outcome_of (Err stop) xs ≡ eliminated true (size s) (assembled s a.work)
      → outcome (number_of (refusal_of stop)) (with_work a xs) ≡ fitted library s a
  unfolding after_elimination
  stopped_there (Pivot i) xs e long h = taken_there (Err (Pivot i)) xs e h
  stopped_there TooShort xs e long h =
      absurd (not_short s a.work long ((refused_exactly true (size s) (assembled s a.work)).0 (ap (λ (o : Outcome). o.answer) (sym h))))
