-- The square root of an f64: "the f64 nearest the exact root, proved over whole numbers; infinity gives infinity".
use Rattle.std.specs.Prelude.{◌≡◌, ℕ, zero, suc, ◌+◌, ◌*◌, ◌/◌, ◌^◌, ◌<◌, ◌≤◌, true, false, cond, nat_le, Float}
use Rattle.std.specs.Float.{nan, inf, fin, binary64}
use Rattle.std.specs.Float.Ieee.{round}
use Rattle.ieee.specs.Values.{multiple, fields_multiple}

-- the next binary digit of a root: r is the root of n / 4, and the root of n is 2r or 2r + 1
abbrev pub next_digit : ℕ → ℕ → ℕ
next_digit r n = cond (nat_le ((2 * r + 1) * (2 * r + 1)) n) (2 * r + 1) (2 * r)

-- the whole part of the square root of n, for an n below 4^k: one binary digit for each k
unfoldable pub whole_root : ℕ → ℕ → ℕ
whole_root zero n = 0
whole_root (suc k) n = next_digit (whole_root k (n / 4)) n

-- The root of v multiples of 2^-1074, for a v above 0: in the same multiples it lies from w up to w + 1, for w the whole root of v * 2^1074, which is below
-- 4^1586.
-- No number half-way between two f64 lies strictly between w and w + 1, nor is a root itself such a number, so w + 1/2 is rounded once and the root's f64
-- comes out.
unfoldable pub root_of : ℕ → Float
unfolding whole_root round
root_of v = round binary64 false (2 * whole_root 1586 (v * 2 ^ 1074) + 1) (2 * 2 ^ 1074)

-- -0 gives -0, +0 gives +0 and infinity infinity; below zero and NaN give NaN
unfoldable pub sqrt_of : Float → Float
unfolding root_of
sqrt_of nan = nan
sqrt_of (inf false) = inf false
sqrt_of (inf true) = nan
sqrt_of (fin s zero e) = fin s zero e
sqrt_of (fin false (suc m) e) = root_of (multiple (fin false (suc m) e))
sqrt_of (fin true (suc m) e) = nan

-- a significand and an exponent of v * 2^1074, for the v that an exponent field and a fraction stand for, with the leading one of the significand at bit 52
pub record Normalised (field fraction significand exponent : ℕ) : Type 0 where
  pub lower : 2 ^ 52 ≤ significand
  pub upper : significand < 2 ^ 53
  pub least : 1022 ≤ exponent
  pub greatest : exponent ≤ 3119
  pub value : significand * 2 ^ exponent ≡ fields_multiple field fraction * 2 ^ 1074
