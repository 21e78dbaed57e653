-- What a call that eliminates is known to have, since no rule turns it away.
use Prim.Native.Nat.{ℕ, ◌*◌, ◌%◌, ◌≤◌, ◌<◌}
use native.Mathlib.Nat.{div-add-mod'}
use native.Mathlib.Omega.{arith}
use mathlib.Core.Path.{◌≡◌}
use mathlib.Core.Bool.{true}
use mathlib.Core.Logic.{inl, inr}
use lib.Dec.{T}
use lib.ListN.{length, get_or}
use lib.Ieee.{nan, lt}
use lib.Ieee.Scale.{finite}
use Rattle.error.specs.Rules.{NoneApplies, Condition}
use Rattle.error.proofs.Tells.{stable, both, equal, at_most}
use Rattle.error.proofs.Short.{long_at}
use Rattle.error.proofs.Rules.{no_condition}
use Rattle.ieee.specs.Floats.{zero_float}
use Rattle.ieee.proofs.FiniteLists.{is_finite}
use Rattle.variogram.specs.Distance.{offered}
use Rattle.variogram.proofs.Distance.{is_offered}
use Rattle.variogram.proofs.Spot.{spot_taken}
use Rattle.survey.specs.declared.Limits.{Limits}
use Rattle.interpolator_theory.specs.declared.KrigingType.TheVariants.{Universal}
use Rattle.interpolator_theory.specs.Call.{Query, Areas, answer_areas, wells, node_count, size}
use Rattle.interpolator_theory.specs.Rules.{rules}

pub record Accepted (q : Query) (a : Areas) : Type 0 where
  pub dimension : offered q.dimension ≡ true
  pub axes : 1 ≤ q.dimension
  pub surface : q.kriging_type ≡ Universal → 2 ≤ q.dimension
  pub points : length q.points ≡ wells q * q.dimension
  pub targets : length q.targets ≡ node_count q * q.dimension
  pub coordinates : (k : ℕ) → k < length q.points → T (finite (get_or q.points k nan))
  pub spot : lt zero_float q.variogram.same_spot ≡ true
  pub work : 2 * size q * size q ≤ length a.work
  pub figures : node_count q ≤ length a.figures
  pub variances : node_count q ≤ length a.variances

-- each from the rule that it does not break
pub accepted : (limits : Limits) (q : Query) (a : Areas) → NoneApplies (rules limits q a) → Accepted q a
accepted limits q a none =
    let d = stable (both (at_most 1 q.dimension) (at_most q.dimension 3)) (λ x. no_rule 13 (inl x)) in
    record {
      dimension = is_offered q.dimension d.0 d.1;
      axes = d.0;
      surface = λ u. let h : ¬ (q.dimension ≡ 1) = λ e. no_rule 13 (inr (e, u)) in omega (arith, d.0);
      points = stable (equal (length q.points) (wells q * q.dimension)) (no_rule 1);
      targets =
          let e = stable (equal (length q.targets % q.dimension) 0) (no_rule 2) in
          let f = div-add-mod' (length q.targets) q.dimension in
          omega arith;
      coordinates = λ k l. is_finite (get_or q.points k nan) (λ x. no_rule 11 (inr (inr (inl record { place = k; inside = l; is = x }))));
      spot = spot_taken q.variogram (no_rule 22);
      work = let h : ¬ (length a.work < 2 * size q * size q) = no_rule 17 in omega arith;
      figures = long_at (answer_areas q a) (no_rule 18) 0;
      variances = long_at (answer_areas q a) (no_rule 18) 1;
    }
  where
    no_rule : (k : ℕ) → ¬ Condition (rules limits q a) k
    no_rule = no_condition (rules limits q a) none

-- and no more wells than its limits say
pub few_wells : (limits : Limits) (q : Query) (a : Areas) → NoneApplies (rules limits q a) → wells q ≤ limits.wells
few_wells limits q a none = let h : ¬ (limits.wells < wells q) = λ x. no_condition (rules limits q a) none 9 (inl x) in omega arith
