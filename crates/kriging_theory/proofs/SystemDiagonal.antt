-- The diagonal's 0 is the variogram between a well and itself, so that r is added to it there as it stands: in every survey that no rule turns away.
use Prim.Native.Nat.{ℕ, ◌+◌, ◌*◌, ◌<◌}
use native.Mathlib.Omega.{arith}
use mathlib.Core.Path.{◌≡◌, refl, ap, ◌∙◌}
use borrow.Author.Tests.{eq-eqb}
use lib.Dec.{T}
use mathlib.Core.Bool.{true}
use lib.Ieee.{Float, binary64, add, lt}
use lib.Ieee.Scale.{finite}
use Rattle.ieee.specs.Floats.{zero_float}
use Rattle.variogram.specs.declared.Variogram.{Variogram}
use Rattle.variogram.specs.Model.{semivariance}
use Rattle.variogram.specs.Distance.{distance2d}
use Rattle.variogram.proofs.Itself.{distance2d_itself, variogram_itself}
use Rattle.error.specs.Rules.{NoneApplies}
use Rattle.system_theory.specs.System.{Well, coefficient_of}
use Rattle.survey.specs.declared.Limits.{Limits}
use Rattle.survey.specs.Survey.{Survey, wells, well_x, well_y}
use Rattle.kriging_theory.specs.Areas.{Areas}
use Rattle.kriging_theory.specs.Rules.{rules}
use Rattle.kriging_theory.specs.System.{well_place, variogram_of, system_of}
use Rattle.kriging_theory.proofs.Endings.{finite_coords, coords_length, spot_above_zero}

own_variogram : (v : Variogram) (x y : Float) → lt zero_float v.same_spot ≡ true → T (finite x) → T (finite y) → semivariance v (distance2d x y x y) ≡ zero_float
own_variogram v x y spot hx hy = ap (semivariance v) (distance2d_itself x y hx hy) ∙ variogram_itself v spot

-- "0 + r on the diagonal": γ(x_i, x_i) + r
pub diagonal : (limits : Limits) (s : Survey) (a : Areas) → NoneApplies (rules limits s a) → (i : ℕ) → i < wells s
    → coefficient_of (system_of s) (Well i) (Well i) ≡ add binary64 (variogram_of s (well_place s i) (well_place s i)) s.options.regularization
unfolding coefficient_of variogram_of
diagonal limits s a none i h =
    let l = coords_length limits s a none in
    let finite_at = finite_coords limits s a none in
    let own = own_variogram s.options.variogram (well_x s i) (well_y s i) (spot_above_zero limits s a none) in
    rw (eq-eqb i i refl, own (finite_at (2 * i) (omega arith)) (finite_at (2 * i + 1) (omega arith)))
