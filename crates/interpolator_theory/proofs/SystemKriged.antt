-- What each target gets, in the terms of the kriging system, read off the areas of an accepted call at exit.
use Prim.Native.Nat.{ℕ, ◌<◌}
use mathlib.Core.Path.{◌≡◌, ap, ap₂, subst, sym, ◌∙◌}
use mathlib.Core.Bool.{true, false}
use mathlib.Core.List.{List}
use lib.ListN.{get_or}
use lib.Ieee.{Float, nan, binary64, mul}
use Rattle.area.proofs.Start.{from_start}
use Rattle.ieee.specs.Floats.{not_below_zero}
use Rattle.ieee.specs.Sums.{less_each}
use Rattle.ieee.proofs.Sums.{same_sum, less_turn}
use Rattle.elimination.specs.Elimination.{stepped}
use Rattle.variogram.specs.Distance.{offered}
use Rattle.system_theory.specs.System.{columns, Index, Well, Drift, estimate_of, row_of}
use Rattle.system_theory.proofs.System.{unknown_is as timed-unknown}
use Rattle.survey.specs.declared.Limits.{Limits}
use Rattle.interpolator_theory.specs.Call.{Query, Areas, wells, node_count, size}
use Rattle.interpolator_theory.specs.Assembly.{right_side}
use Rattle.interpolator_theory.specs.Interpolation.{solution, figure, variance, answered, interpolated}
use Rattle.interpolator_theory.specs.System.{target_place, system_of, variance_of, unknown_at}
use Rattle.interpolator_theory.specs.Exit.{assembled, Kriged}
use Rattle.interpolator_theory.proofs.Accepted.{Accepted, accepted}
use Rattle.interpolator_theory.proofs.System.{rows_are, right_is}
use Rattle.interpolator_theory.proofs.Endings.{ended}

module _ (q : Query) (ok : offered q.dimension ≡ true) (work : List Float) (t : ℕ) where
  -- z, row by row
  unknown_is : (u : Index) → solution q work t (row_of (system_of q) u) ≡ unknown_at q work t u
  unfolding solution
  unknown_is u = timed-unknown (system_of q) (size q) (rows_are q) (target_place q t) (right_side q t) (right_is q ok t) work u

  figure_is : figure q work t ≡ estimate_of (system_of q) (λ i. get_or q.values i nan) (unknown_at q work t)
  unfolding figure estimate_of
  figure_is = same_sum (wells q) _ _ (λ i b. ap (λ (x : Float). mul binary64 x (get_or q.values i nan)) (unknown_is (Well i)))

  variance_is : variance q work t ≡ not_below_zero (variance_of q (target_place q t) (unknown_at q work t))
  unfolding variance variance_of
  variance_is =
      ap not_below_zero
      (ap (λ (k : ℕ). less_each q.variogram.sill k (λ j. mul binary64 (solution q work t j) (right_side q t j))) (rows_are q)
      ∙ less_turn q.variogram.sill (wells q) _ _ _ (columns (system_of q))
      (λ i b. ap₂ (mul binary64) (unknown_is (Well i)) (right_is q ok t (Well i) b))
      (λ l b. ap₂ (mul binary64) (unknown_is (Drift l)) (right_is q ok t (Drift l) b)))

  answered_kriged : (a : Areas) → Accepted q a → t < node_count q → Kriged q (answered q a work) t
  unfolding answered
  answered_kriged a k h = record {
    figure = from_start (node_count q) (figure q work) a.figures t nan k.figures h ∙ figure_is;
    variance = from_start (node_count q) (variance q work) a.variances t nan k.variances h ∙ variance_is;
  }

-- each target of an accepted call is kriged
pub kriged : (limits : Limits) (q : Query) (a : Areas) → (interpolated limits q a).number ≡ 0 → (t : ℕ) → t < node_count q
    → Kriged q (interpolated limits q a).areas t
kriged limits q a e t h =
    let done = ended limits q a in
    let k = accepted limits q a (done.accepted.0 e).0 in
    subst (λ (o : Areas). Kriged q o t) (sym (done.accepted_areas e))
    (answered_kriged q k.dimension (stepped false (size q) (size q) (assembled q a)) t a k h)
