-- A row of the audit by sums that round, where they leave no doubt.
use Rattle.std.specs.Prelude.{ℕ, Bool, ◌&&◌, leb, Float}
use Rattle.std.specs.Float.{binary64}
use Rattle.std.specs.Float.Ieee.{of_bits, sub, mul, le}
use Rattle.std.specs.Float.Ieee.Scale.{finite}
use Rattle.ieee.specs.Floats.{one_float, abs_of, max_of}
use Rattle.ieee.specs.Sums.{add_each, running_sum}

-- term i of a sum of products, rounded
abbrev pub term : (ℕ → Float) → (ℕ → Float) → ℕ → Float
term z x i = mul binary64 (z i) (x i)

-- Σ z_i·x_i, every operation rounded
unfoldable pub rounded_sum : ℕ → (ℕ → Float) → (ℕ → Float) → Float
unfolding add_each
rounded_sum n z x = running_sum n (term z x)

-- and Σ |z_i·x_i|, which says how large the terms are
unfoldable pub rounded_size : ℕ → (ℕ → Float) → (ℕ → Float) → Float
unfolding add_each
rounded_size n z x = running_sum n (λ i. abs_of (term z x i))

-- 16, 2^-36 and 2^-1000
abbrev pub sixteen : Float
sixteen = of_bits binary64 0x4030_0000_0000_0000

abbrev pub share : Float
share = of_bits binary64 0x3db0_0000_0000_0000

abbrev pub least_margin : Float
least_margin = of_bits binary64 0x0170_0000_0000_0000

-- "t·(1 + |target|)" is at least t·max(|target|, 1), which is rounded here
unfoldable pub margin : Float → Float → Float
margin t target = mul binary64 t (max_of (abs_of target) one_float)

-- |sum - target| is less than a sixteenth of the margin, and the magnitudes of n terms, 1,024 at most, are small beside it: too small for the roundings of
-- their sum to fill what is left of it
unfoldable pub clearly : ℕ → Float → Float → Float → Float → Bool
unfolding margin
clearly n sum size target t =
    leb n 1024 && (finite (margin t target) && (finite size && (le least_margin (margin t target)
    && (le (mul binary64 sixteen (abs_of (sub binary64 sum target))) (margin t target) && le (mul binary64 size share) (margin t target)))))
