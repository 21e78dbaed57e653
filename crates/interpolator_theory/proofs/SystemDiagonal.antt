-- The diagonal of the matrix is C(0), the sill: a well is at the distance +0 from itself, where the variogram is +0.
use Prim.Native.Nat.{ℕ, ◌+◌, ◌*◌, ◌<◌}
use native.Mathlib.Omega.{arith}
use mathlib.Core.Path.{◌≡◌, ap, ◌∙◌}
use lib.Dec.{T}
use lib.ListN.{length}
use lib.Ieee.{Float, binary64, sub, fits}
use borrow.Author.Tests.{lt-ltb}
use Rattle.area.proofs.Rows.{row_end}
use Rattle.error.specs.Rules.{NoneApplies}
use Rattle.ieee.proofs.WithZero.{less_zero}
use Rattle.variogram.specs.Model.{semivariance}
use Rattle.variogram.specs.Distance.{distance}
use Rattle.variogram.proofs.Itself.{distance_itself, variogram_itself}
use Rattle.survey.specs.declared.Limits.{Limits}
use Rattle.interpolator_theory.specs.Call.{Query, Areas, wells}
use Rattle.interpolator_theory.specs.Rules.{rules}
use Rattle.interpolator_theory.specs.Assembly.{covariance, column, entry}
use Rattle.interpolator_theory.proofs.Accepted.{accepted}

own_entry : (q : Query) (i : ℕ) → i < wells q
    → entry q i i ≡ sub binary64 q.variogram.sill (semivariance q.variogram (distance q.points i q.points i q.dimension))
unfolding entry column covariance
own_entry q i h = rw (lt-ltb i (wells q) h)

-- "the diagonal too": of an accepted call with an f64 for a sill
pub diagonal : (limits : Limits) (q : Query) (a : Areas) → NoneApplies (rules limits q a) → T (fits binary64 q.variogram.sill)
    → (i : ℕ) → i < wells q → entry q i i ≡ q.variogram.sill
diagonal limits q a none f i h =
    let k = accepted limits q a none in
    let d : ℕ = q.dimension in
    let v = q.variogram in
    let long : length q.points ≡ wells q * d = k.points in
    own_entry q i h
    ∙ ap (λ (x : Float). sub binary64 v.sill (semivariance v x))
    (distance_itself q.points i d k.dimension (λ c b. k.coordinates (i * d + c) (omega (arith, row_end d i (wells q) h))))
    ∙ ap (λ (x : Float). sub binary64 v.sill x) (variogram_itself v k.spot)
    ∙ less_zero v.sill f
