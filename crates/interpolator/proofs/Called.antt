-- The whole call as the code goes through it: turned away, or eliminated, and then by how the elimination ended.
use Prim.Native.Nat.{ℕ, ◌≤◌}
use native.Mathlib.Omega.{arith}
use mathlib.Core.Path.{◌≡◌, ap, sym, ◌∙◌, subst}
use mathlib.Core.Logic.{◌≢◌}
use mathlib.Core.Bool.{false}
use mathlib.Core.List.{List}
use lib.Ieee.{Float}
use Rattle.error.specs.declared.Refusal.{Refusal}
use Rattle.error.specs.Numbers.{number_of}
use Rattle.error.specs.Outcome.{Outcome, outcome}
use Rattle.error.specs.Rules.{NoneApplies}
use Rattle.error.proofs.Rules.{none_exactly}
use Rattle.std.specs.Prelude.{Ok, Err}
use Rattle.elimination.specs.declared.Stop.{Stop}
use Rattle.elimination.specs.declared.Stop.TheVariants.{Pivot, TooShort}
use Rattle.elimination.specs.Elimination.{End, refusal_of, eliminated, outcome_of, Outcome as Eliminated}
use Rattle.elimination.specs.Inverse.{laid}
use Rattle.elimination.specs.Call.{after_elimination}
use Rattle.elimination.proofs.Call as Call
use Rattle.elimination.proofs.Laid.{kept_laid}
use Rattle.elimination.proofs.Stops.{refused_exactly}
use Rattle.survey.specs.declared.Limits.{Limits}
use Rattle.survey.specs.Limits.{library}
use Rattle.interpolator_theory.specs.Call.{Query, Areas, with_work, areas_of, wells, size}
use Rattle.interpolator_theory.specs.Rules.{rules}
use Rattle.interpolator_theory.specs.Refusals.{refusal}
use Rattle.interpolator_theory.specs.Assembly.{entry}
use Rattle.interpolator_theory.specs.Interpolation.{answered, interpolation_call, interpolated}
use Rattle.interpolator_theory.proofs.Told.{all_told}
use Rattle.interpolator_theory.specs.Exit.{Promise}
use Rattle.interpolator_theory.proofs.Accepted.{Accepted, accepted, few_wells}
use Rattle.interpolator_theory.proofs.Promise.{promise}

module _ (limits : Limits) (q : Query) (a : Areas) where
  -- "A refusal carries only its number and writes nothing"
  pub turned_away : (r : Refusal) → number_of r ≡ refusal limits q a → outcome (number_of r) a ≡ interpolated limits q a
  unfolding interpolated
  turned_away r e = Call.refused_there (interpolation_call limits q a) r e

  -- where no number is given, no rule applies
  pub not_turned_away : refusal limits q a ≡ 0 → NoneApplies (rules limits q a)
  unfolding refusal
  not_turned_away e = (none_exactly (all_told limits q a) tt).0 e

  -- the elimination of the matrix, of this size and with these entries, in the work area
  module _ (zero : refusal limits q a ≡ 0) (s : ℕ) (sized : s ≡ size q) (matrix : ℕ → ℕ → Float) (entries : matrix ≡ entry q)
      (xs work : List Float) (assembled : xs ≡ laid s matrix a.work) where
    whole : (o : End) → outcome_of o work ≡ eliminated false s xs → outcome_of o work ≡ eliminated false (size q) (laid (size q) (entry q) a.work)
    whole o e =
        e
        ∙ ap (λ (ys : List Float). eliminated false s ys) (assembled ∙ ap (λ (m : ℕ → ℕ → Float). laid s m a.work) entries)
        ∙ ap (λ (n : ℕ). eliminated false n (laid n (entry q) a.work)) sized

    after : (o : End) → outcome_of o work ≡ eliminated false s xs
        → after_elimination (interpolation_call limits q a) o work ≡ interpolated limits q a
    unfolding interpolated
    after o e = Call.eliminated_there (interpolation_call limits q a) o work zero (whole o e)

    -- "On success the work area holds the finished elimination": every target is answered from it
    pub gone_through : (b : Areas) → outcome_of (Ok tt) work ≡ eliminated false s xs
        → b ≡ answered q (areas_of work a.figures a.variances) work → outcome 0 b ≡ interpolated limits q a
    unfolding after_elimination answered
    gone_through b e f = ap (λ (c : Areas). outcome 0 c) f ∙ after (Ok tt) e

    -- "19 leaves the work area as elimination stopped"
    pub stopped_at : (i : ℕ) → outcome_of (Err (Pivot i)) work ≡ eliminated false s xs → outcome 19 (with_work a work) ≡ interpolated limits q a
    unfolding after_elimination
    stopped_at i e = after (Err (Pivot i)) e

    -- 17 came before
    pub never_short : outcome_of (Err TooShort) work ≢ eliminated false s xs
    never_short e =
        let long = (accepted limits q a (not_turned_away zero)).work in
        let m = (kept_laid (size q) (entry q) a.work).len in
        let r = (refused_exactly false (size q) (laid (size q) (entry q) a.work)).0 (sym (ap (λ (d : Eliminated). d.answer) (whole (Err TooShort) e))) in
        omega arith

    -- how it stops, by the refusal that the stop turns into
    pub stopped_by : (stop : Stop) → outcome_of (Err stop) work ≡ eliminated false s xs
        → outcome (number_of (refusal_of stop)) (with_work a work) ≡ interpolated limits q a
    stopped_by (Pivot i) e = stopped_at i e
    stopped_by TooShort e = absurd (never_short e)

-- the number by limits that are the library's
pub by_library : (limits : Limits) (q : Query) (a : Areas) {k : ℕ} → k ≡ refusal limits q a → limits ≡ library → k ≡ refusal library q a
by_library limits q a e f = e ∙ ap (λ (l : Limits). refusal l q a) f

-- what a call has that is not turned away
pub fits : (q : Query) (a : Areas) → 0 ≡ refusal library q a → Accepted q a
fits q a e = accepted library q a (not_turned_away library q a (sym e))

pub few : (q : Query) (a : Areas) → 0 ≡ refusal library q a → wells q ≤ library.wells
few q a e = few_wells library q a (not_turned_away library q a (sym e))

-- the promise, from the equation
pub promised : (q : Query) (a : Areas) (o : Outcome Areas) → o ≡ interpolated library q a → Promise library q a o
promised q a o e = subst (Promise library q a) (sym e) (promise library q a)
