-- Rows and equations: an equation has a row of the matrix, every row is an equation's, and no row is that of two.
use Prim.Native.Nat.{ℕ, ◌-◌, ◌<◌}
use native.Mathlib.Decide.{dec_lt}
use native.Mathlib.Omega.{arith}
use mathlib.Core.Path.{◌≡◌, refl, ap}
use Rattle.system_theory.specs.System.{System, size, Index, Well, Drift, Within, row_of}

pub row_below : (s : System) (u : Index) → Within s u → row_of s u < size s
row_below s (Well i) h = omega arith
row_below s (Drift l) h = omega arith

pub every_row : (s : System) (i : ℕ) → i < size s → (u : Index) × Within s u × (row_of s u ≡ i)
every_row s i h =
    elim (dec_lt i s.wells) [
      | yes p ↦ (Well i, p, refl)
      | no n ↦ (Drift (i - s.wells), omega arith, omega arith)
    ]

pub one_equation : (s : System) (u v : Index) → Within s u → Within s v → row_of s u ≡ row_of s v → u ≡ v
one_equation s (Well i) (Well j) hu hv e = ap Well e
one_equation s (Well i) (Drift l) hu hv e = absurd (omega arith)
one_equation s (Drift l) (Well j) hu hv e = absurd (omega arith)
one_equation s (Drift l) (Drift k) hu hv e = ap Drift (omega arith)
