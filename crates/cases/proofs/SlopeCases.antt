-- Sounding B's wells in exact arithmetic, computed entry by entry.
use Prim.Native.Nat.{zero, suc, ◌<◌}
use native.Mathlib.Omega.{arith}
use mathlib.Core.Path.{◌≡◌, refl}
use lib.IntN.{◌*ℤ◌}
use lib.Ieee.{of_bits, to_bits, add, sub, mul, div, lt, le, eq, of_int, to_unsigned, round}
use Rattle.exact.specs.Units.{units}
use Rattle.system_theory.specs.System.{System, Index, Well, Drift, Within, coefficient_of}
use Rattle.kriging_theory.specs.System.{variogram_of, monomials, system_of}
use Rattle.kriging_theory.specs.LeastSquares.{exact_of, exact_sum, scaled}
use Rattle.cases.specs.SlopeCases.{two_wells, inverse, over, SlopeCases}

abbrev system : System
system = system_of two_wells

-- there are two wells and one drift function
each : (P : Index → Type 0) → P (Well 0) → P (Well 1) → P (Drift 0) → (u : Index) → Within system u → P u
unfolding monomials
each P a b c (Well zero) h = a
each P a b c (Well (suc zero)) h = b
each P a b c (Well (suc (suc i))) h = let l : suc (suc i) < 2 = h in absurd (omega arith)
each P a b c (Drift zero) h = c
each P a b c (Drift (suc l)) h = let m : suc l < 1 = h in absurd (omega arith)

-- inverse times matrix, and matrix times inverse, at u and v
abbrev Left : Index → Index → Type 0
Left u v = exact_sum system (λ w. inverse u w *ℤ exact_of system w v) ≡ scaled over u v

abbrev Right : Index → Index → Type 0
Right u v = exact_sum system (λ w. exact_of system u w *ℤ inverse w v) ≡ scaled over u v

left : (u v : Index) → Within system u → Within system v → Left u v
unfolding coefficient_of variogram_of monomials units add sub mul div lt le eq of_int to_unsigned round of_bits to_bits
left u v hu hv =
    each (λ u. Left u v)
    (each (Left (Well 0)) refl refl refl v hv)
    (each (Left (Well 1)) refl refl refl v hv)
    (each (Left (Drift 0)) refl refl refl v hv)
    u hu

right : (u v : Index) → Within system u → Within system v → Right u v
unfolding coefficient_of variogram_of monomials units add sub mul div lt le eq of_int to_unsigned round of_bits to_bits
right u v hu hv =
    each (λ u. Right u v)
    (each (Right (Well 0)) refl refl refl v hv)
    (each (Right (Well 1)) refl refl refl v hv)
    (each (Right (Drift 0)) refl refl refl v hv)
    u hu

pub slope_cases : SlopeCases
unfolding units of_bits to_bits
slope_cases = record { exact = record { left = left; right = right }; trend = refl }
