-- The identity beside a matrix, by the part that a column stands in.
use Prim.Native.Nat.{ℕ, ◌+◌, ◌<◌, ◌≤◌}
use mathlib.Core.Path.{◌≡◌, ◌∙◌}
use mathlib.Core.Logic.{◌≢◌}
use borrow.Author.Tests.{lt-ltb, le-ltb, eq-eqb, ne_eqb}
use lib.Ieee.{Float}
use Rattle.ieee.specs.Floats.{zero_float, one_float}
use Rattle.elimination.specs.Inverse.{beside_identity}

module _ (s : ℕ) (matrix : ℕ → ℕ → Float) (i c : ℕ) where
  pub beside_left : {v : Float} → c < s → v ≡ matrix i c → v ≡ beside_identity s matrix i c
  unfolding beside_identity
  beside_left h e = e ∙ rw (lt-ltb c s h)

  pub beside_one : s ≤ c → c ≡ s + i → one_float ≡ beside_identity s matrix i c
  unfolding beside_identity
  beside_one h e = rw (le-ltb c s h, eq-eqb c (s + i) e)

  pub beside_zero : s ≤ c → c ≢ s + i → zero_float ≡ beside_identity s matrix i c
  unfolding beside_identity
  beside_zero h e = rw (le-ltb c s h, ne_eqb c (s + i) e)
