-- The version that is written is one that is taken, a byte; and what the two bounds of wells have in common.
use Prim.Native.Nat.{ℕ, zero, suc, ◌<◌, ◌≤◌}
use native.Mathlib.Decide.{dec_lt}
use native.Mathlib.Omega.{arith}
use mathlib.Core.Path.{◌≡◌, refl, ap}
use mathlib.Core.Logic.{inl, inr}
use mathlib.Core.Bool.{Bool, cond}
use lib.Dec.{lit≤}
use Rattle.error.proofs.Tells.{affirm, refute, below}
use Rattle.survey_file_theory.specs.File.{version_for}
use Rattle.survey_file_theory.specs.Rules.{VersionTaken, most_written}

-- ---- "A survey above 48 wells is written with version 2 in the same trailer, and others stay version 1"
pub stays_1 : (n : ℕ) → n ≤ 48 → version_for 2 n ≡ 1
stays_1 n h = ap (λ (b : Bool). cond b 2 1) (refute (below 48 n) (λ l. omega arith))

pub above_48 : (n : ℕ) → 48 < n → version_for 2 n ≡ 2
above_48 n h = ap (λ (b : Bool). cond b 2 1) (affirm (below 48 n) h)

-- ---- what is written is taken again
pub written_taken : (newest n : ℕ) → n ≤ most_written newest → VersionTaken newest (version_for newest n) n
written_taken zero n h = refl
written_taken (suc zero) n h = refl
written_taken (suc (suc newer)) n h = elim (dec_lt 48 n) [
  | yes p ↦ inr (above_48 n p, (omega arith, h))
  | no p ↦ inl (stays_1 n (omega arith))
]

pub version_byte : (newest n : ℕ) → version_for newest n < 256
version_byte zero n = lit≤ tt
version_byte (suc zero) n = lit≤ tt
version_byte (suc (suc newer)) n = elim (dec_lt 48 n) [
  | yes p ↦ let e = above_48 n p in omega arith
  | no p ↦ let e = stays_1 n (omega arith) in omega arith
]

-- n has room in its two bytes
pub two_bytes : (newest : ℕ) → most_written newest ≤ 65535
two_bytes zero = lit≤ tt
two_bytes (suc zero) = lit≤ tt
two_bytes (suc (suc newer)) = lit≤ tt
