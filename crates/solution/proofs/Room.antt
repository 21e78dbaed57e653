-- z and the trend where there is room, and where there is none.
use Prim.Native.Nat.{ℕ, ◌-◌, ◌*◌, ◌≤◌, ◌<◌}
use native.Mathlib.Omega.{arith}
use mathlib.Core.Path.{◌≡◌, ap, ◌∙◌}
use mathlib.Core.List.{List}
use borrow.Author.Tests.{lt-ltb, le-ltb}
use lib.ListN.{length, get_or}
use lib.Ieee.{Float, nan}
use Rattle.area.specs.Area.{written}
use Rattle.elimination.specs.Inverse.{times_inverse}
use Rattle.solution.specs.Solution.{solved}
use Rattle.system_theory.specs.Slopes.{slope}
use Rattle.solution.specs.Slopes.{estimated}

-- every list is long enough
pub solved_is : (size : ℕ) (work b z : List Float) → 2 * size * size ≤ length work → size ≤ length b → size ≤ length z
    → solved size work b z ≡ written 0 size (times_inverse size work (λ j. get_or b j nan)) z
unfolding solved
solved_is size work b z hw hb hz = simp (le-ltb _ _ hw, le-ltb _ _ hb, le-ltb _ _ hz)

-- one is not
pub short_work : (size : ℕ) (work b z : List Float) → length work < 2 * size * size → solved size work b z ≡ z
unfolding solved
short_work size work b z h = simp (lt-ltb _ _ h)

pub short_right : (size : ℕ) (work b z : List Float) → 2 * size * size ≤ length work → length b < size → solved size work b z ≡ z
unfolding solved
short_right size work b z h hb = simp (le-ltb _ _ h, lt-ltb _ _ hb)

pub short_z : (size : ℕ) (work b z : List Float) → 2 * size * size ≤ length work → size ≤ length b → length z < size → solved size work b z ≡ z
unfolding solved
short_z size work b z h hb hz = simp (le-ltb _ _ h, le-ltb _ _ hb, lt-ltb _ _ hz)

-- the trend: the area is a matrix's, and there is room
pub estimated_is : (size : ℕ) (work values trend : List Float) → 2 * size * size ≤ length work → size - length values ≤ length trend
    → estimated size work values trend ≡ written 0 (size - length values) (slope size work values) trend
unfolding estimated
estimated_is size work values trend hw ht = simp (le-ltb _ _ hw, le-ltb _ _ ht)

-- it is none
pub no_matrix : (size : ℕ) (work values trend : List Float) → length work < 2 * size * size → estimated size work values trend ≡ trend
unfolding estimated
no_matrix size work values trend h = simp (lt-ltb _ _ h)

-- there is no row past the wells'
pub no_rows : (size : ℕ) (work values trend : List Float) → 2 * size * size ≤ length work → size < length values → estimated size work values trend ≡ trend
no_rows size work values trend hw h =
    let e : size - length values ≡ 0 = omega arith in
    estimated_is size work values trend hw (omega arith) ∙ ap (λ (k : ℕ). written 0 k (slope size work values) trend) e

-- there is no room
pub short_trend : (size : ℕ) (work values trend : List Float) → 2 * size * size ≤ length work → length trend < size - length values
    → estimated size work values trend ≡ trend
unfolding estimated
short_trend size work values trend hw h = simp (le-ltb _ _ hw, lt-ltb _ _ h)
