-- What a call that is not refused is known to have, since no rule applies.
use Prim.Native.Nat.{ℕ, ◌*◌, ◌≤◌, ◌<◌}
use native.Mathlib.Omega.{arith}
use mathlib.Core.Path.{◌≡◌}
use mathlib.Core.Logic.{inl, inr, ◌↔◌}
use lib.Dec.{T}
use lib.ListN.{length, get_or}
use lib.Ieee.{nan}
use lib.Ieee.Scale.{finite}
use Rattle.error.specs.Rules.{NoneApplies, Condition}
use Rattle.error.proofs.Tells.{stable, equal}
use Rattle.error.proofs.Short.{area_at, long_at}
use Rattle.error.proofs.Rules.{none_exactly, no_condition}
use Rattle.ieee.proofs.FiniteLists.{is_finite}
use Rattle.survey.specs.declared.Limits.{Limits}
use Rattle.semivariogram_theory.specs.Call.{Samples, Areas, answer_areas, samples}
use Rattle.semivariogram_theory.specs.Rules.{rules}
use Rattle.semivariogram_theory.specs.Refusals.{most_bins, refusal}
use Rattle.semivariogram_theory.proofs.Told.{told}

pub record Accepted (q : Samples) (a : Areas) : Type 0 where
  pub dimension : (1 ≤ q.dimension) × (q.dimension ≤ 3)
  pub points : length q.points ≡ samples q * q.dimension
  pub coordinates : (k : ℕ) → k < length q.points → T (finite (get_or q.points k nan))
  pub bins : (1 ≤ q.bins) × (q.bins ≤ most_bins)
  pub distances : q.bins ≤ length a.distances
  pub semivariances : q.bins ≤ length a.semivariances
  pub counts : q.bins ≤ length a.counts

pub accepted_exactly : (limits : Limits) (q : Samples) (a : Areas) → (refusal limits q a ≡ 0) ↔ NoneApplies (rules limits q a)
unfolding refusal
accepted_exactly limits q a = none_exactly (told limits q a) tt

pub accepted : (limits : Limits) (q : Samples) (a : Areas) → refusal limits q a ≡ 0 → Accepted q a
accepted limits q a h =
    let not : (k : ℕ) → ¬ Condition (rules limits q a) k = no_condition (rules limits q a) ((accepted_exactly limits q a).0 h) in
    let d1 : ¬ (q.dimension < 1) = λ x. not 13 (inl x) in
    let d3 : ¬ (3 < q.dimension) = λ x. not 13 (inr x) in
    let b1 : ¬ (q.bins < 1) = λ x. not 15 (inl x) in
    let b64 : ¬ (most_bins < q.bins) = λ x. not 15 (inr x) in
    let long : (i : ℕ) → (area_at (answer_areas q a) i).taken ≤ (area_at (answer_areas q a) i).places = long_at (answer_areas q a) (not 18) in
    record {
      dimension = omega arith;
      points = stable (equal (length q.points) (samples q * q.dimension)) (not 1);
      coordinates = λ k l. is_finite (get_or q.points k nan) (λ x. not 11 (inr (record { place = k; inside = l; is = x })));
      bins = omega arith;
      distances = long 0;
      semivariances = long 1;
      counts = long 2;
    }

-- "n > 96" is refused by 9
pub few_samples : (limits : Limits) (q : Samples) (a : Areas) → refusal limits q a ≡ 0 → samples q ≤ limits.wells
few_samples limits q a h =
    let not : ¬ (limits.wells < samples q) = no_condition (rules limits q a) ((accepted_exactly limits q a).0 h) 9 in
    omega arith
