-- Counts of a query: of the axes of a point, and of the terms of a trend.
use Prim.Native.Nat.{ℕ, ◌≤◌}
use native.Mathlib.Decide.{dec_lt}
use native.Mathlib.Omega.{arith}
use mathlib.Core.Path.{◌≡◌, ap, sym, ◌∙◌}
use mathlib.Core.Bool.{Bool, false, not, ◌||◌, false≢true}
use Rattle.variogram.specs.Distance.{offered}
use Rattle.variogram.proofs.Distance.{none_offered}
use Rattle.interpolator_theory.specs.declared.KrigingType.{KrigingType}
use Rattle.interpolator_theory.specs.declared.KrigingType.TheVariants.{Ordinary, Universal}
use Rattle.interpolator_theory.specs.Call.{added}

-- where 13 does not apply a point has an axis
pub some_axis : (d : ℕ) (b : Bool) → (not (offered d) || b) ≡ false → 1 ≤ d
some_axis d b h =
    elim (dec_lt d 1) [
      | yes l ↦ absurd (false≢true (sym h ∙ ap (λ (o : Bool). not o || b) (none_offered d l)))
      | no n ↦ omega arith
    ]

-- a trend has four terms at most
pub added_few : (t : KrigingType) → added t ≤ 4
added_few Ordinary = omega arith
added_few Universal = omega arith
