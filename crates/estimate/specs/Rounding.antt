-- How far what is rounded lies from the exact value. A value is a whole multiple of 2^-1074, and a product of two values one of 2^-2148.
use Rattle.std.specs.Prelude.{ℕ, ◌+◌, ◌*◌, ◌^◌, ◌≤◌, ◌≡◌, false, ℤ, pos, nat_abs, ◌-ℤ◌, ◌*ℤ◌, Float}
use Rattle.std.specs.Float.{binary64}
use Rattle.std.specs.Float.Ieee.Scale.{grid}
use Rattle.ieee.specs.Values.{multiple, value_of, Signed}
use Rattle.exact.specs.Whole.{sumℤ}
use Rattle.estimate.specs.Estimate.{rounded_sum, rounded_size}

-- how far apart two whole numbers are
abbrev pub far : ℤ → ℤ → ℕ
far a b = nat_abs (a -ℤ b)

-- the magnitude that the rounding gives of a magnitude, in units of 2^-1074 both
abbrev pub rounded_to : ℕ → ℕ
rounded_to n = grid binary64 n (2 ^ 1074)

-- r is a sum whose exact value is v: its magnitude is v's, rounded; and it lies within 2^-53 of itself of v, or within half of the smallest f64
pub record Added (r : Float) (v : ℤ) : Type 0 where
  pub is : multiple r ≡ rounded_to (nat_abs v)
  pub half : 2 ^ 53 * far (value_of r) v ≤ multiple r + 2 ^ 52

-- r is a product whose exact value is v, in units of 2^-2148: it lies within 2^-53 of itself of v, or within half of the smallest f64
pub record Multiplied (r : Float) (v : ℤ) : Type 0 where
  pub half : 2 ^ 53 * far (value_of r *ℤ pos (2 ^ 1074)) v ≤ multiple r * 2 ^ 1074 + 2 ^ 52 * 2 ^ 1074

-- Σ z_i·x_i of k terms, every operation rounded, lies no further from the exact sum than k·2^-52 times Σ |z_i·x_i|, rounded too, and k of the smallest f64.
-- That size has no minus, and the sum's magnitude is not above it
pub record Bounded (z x : ℕ → Float) (k : ℕ) : Type 0 where
  pub clear : Signed false (rounded_size k z x)
  pub below : multiple (rounded_sum k z x) ≤ multiple (rounded_size k z x)
  pub error : 2 ^ 53 * far (value_of (rounded_sum k z x) *ℤ pos (2 ^ 1074)) (sumℤ k (λ i. value_of (z i) *ℤ value_of (x i)))
      ≤ k * (2 * (multiple (rounded_size k z x) * 2 ^ 1074) + 2 ^ 53 * 2 ^ 1074)
