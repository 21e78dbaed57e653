-- How a call of the interpolator ends, and what it leaves in its areas.
use Prim.Native.Nat.{◌<◌}
use native.Mathlib.Omega.{arith}
use mathlib.Core.Path.{◌≡◌, refl, ◌∙◌}
use mathlib.Core.Bool.{false}
use lib.Ieee.{nan}
use Rattle.area.proofs.Kept.{kept_same}
use Rattle.area.proofs.Start.{kept_start}
use Rattle.error.specs.Outcome.{outcome}
use Rattle.error.specs.Rules.{NoneApplies}
use Rattle.error.proofs.Rules.{none_exactly}
use Rattle.elimination.specs.Elimination.{stepped}
use Rattle.elimination.specs.Call.{Call, Ends}
use Rattle.elimination.proofs.Laid.{kept_laid, laid_left}
use Rattle.elimination.proofs.Stops.{zero_column}
use Rattle.elimination.proofs.Call.{kept_work, where_it_stops, ends, whichever}
use Rattle.survey.specs.declared.Limits.{Limits}
use Rattle.interpolator_theory.specs.declared.KrigingType.{KrigingType}
use Rattle.interpolator_theory.specs.declared.KrigingType.TheVariants.{Ordinary, Universal}
use Rattle.interpolator_theory.specs.Call.{Query, Areas, with_work, wells, node_count, added, size}
use Rattle.interpolator_theory.specs.Rules.{rules}
use Rattle.interpolator_theory.specs.Refusals.{tests, refusal}
use Rattle.interpolator_theory.specs.Assembly.{entry}
use Rattle.interpolator_theory.specs.Interpolation.{answered, interpolation_call, interpolated}
use Rattle.interpolator_theory.specs.Exit.{assembled, Untouched}
use Rattle.interpolator_theory.proofs.Told.{all_told}
use Rattle.interpolator_theory.proofs.Accepted.{accepted}
use Rattle.interpolator_theory.proofs.Matrix.{lower_right}

module _ (limits : Limits) (q : Query) (a : Areas) where
  -- each number exactly where its condition holds, and the areas then
  pub ended : Ends (rules limits q a) false (size q) (assembled q a) a (with_work a) (answered q a) (interpolated limits q a)
  unfolding interpolated refusal
  ended =
      ends (tests limits q a) (rules limits q a) (interpolation_call limits q a) refl (all_told limits q a) tt tt (λ n. (accepted limits q a n).work)

  -- "all past the named lengths is untouched", of every call
  pub untouched : Untouched q a (interpolated limits q a).areas
  unfolding interpolated refusal answered
  untouched =
      let c : Call Areas = interpolation_call limits q a in
      whichever (tests limits q a) (rules limits q a) c refl (all_told limits q a) tt tt (λ n. (accepted limits q a n).work) (Untouched q a)
      (record { work = kept_same _ _; figures = kept_same _ _; variances = kept_same _ _ })
      (λ i l. record { work = kept_work c i l; figures = kept_same _ _; variances = kept_same _ _ })
      (record { work = kept_work c (size q) (omega arith); figures = kept_start (node_count q) _ _; variances = kept_start (node_count q) _ _ })

-- ---- no wells
added_some : (t : KrigingType) → 0 < added t
added_some Ordinary = omega arith
added_some Universal = omega arith

-- "n = 0 gives 19", of Ordinary and of Universal, and the work area holds the matrix beside the identity
pub no_wells : (limits : Limits) (q : Query) (a : Areas) → NoneApplies (rules limits q a) → wells q ≡ 0
    → interpolated limits q a ≡ outcome 19 (with_work a (assembled q a))
unfolding interpolated stepped
no_wells limits q a n z =
    let c : Call Areas = interpolation_call limits q a in
    let long = (accepted limits q a n).work in
    let p : 0 < size q = omega (arith, added_some q.kriging_type) in
    where_it_stops c 0 ((none_exactly (all_told limits q a) tt).1 n)
    (zero_column false (size q) (assembled q a) p (omega (arith, (kept_laid (size q) (entry q) a.work).len))
    (λ r b. laid_left (size q) (entry q) a.work nan long r 0 b p ∙ lower_right q r 0 (omega arith) (omega arith)))
