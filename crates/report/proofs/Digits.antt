-- One digit: the byte that stands for it, and what it means when it is read.
use Prim.Native.Nat.{ℕ, ◌+◌, ◌<◌, ◌≤◌}
use native.Mathlib.Omega.{arith}
use native.Mathlib.Decide.{dec_lt}
use mathlib.Core.Path.{◌≡◌, ◌∙◌}
use mathlib.Core.Bool.{Bool}
use mathlib.Core.Logic.{inl, inr}
use borrow.Author.Tests.{lt-ltb, le-ltb}
use lib.Dec.{T, eqb, eqb→eq}
use Rattle.error.specs.Tests.{all}
use Rattle.error.proofs.Tells.{each, passes}
use Rattle.io.specs.Digits.{hex_digit_ascii}
use Rattle.report.specs.Numerals.{digit}
use Rattle.report.specs.Reading.{IsTen, IsSixteen, meant}

-- a test that each digit passes by computation is passed by a digit
of_each : (f : ℕ → Bool) → T (all 16 f) → (d : ℕ) → d < 16 → T (f d)
of_each f = (each 16 f (λ d. T (f d)) (λ d h. passes (f d))).then

-- a digit is the one that the kit writes
pub digit_glyph : (d : ℕ) → d < 16 → digit d ≡ hex_digit_ascii d
unfolding all digit
digit_glyph d h = eqb→eq (digit d) (hex_digit_ascii d) (of_each (λ k. eqb (digit k) (hex_digit_ascii k)) tt d h)

-- read, it is the number that it was written for
pub digit_meant : (d : ℕ) → d < 16 → meant (digit d) ≡ d
unfolding all digit meant
digit_meant d h = eqb→eq (meant (digit d)) d (of_each (λ k. eqb (meant (digit k)) k) tt d h)

pub digit_low : (d : ℕ) → d < 10 → digit d ≡ 48 + d
digit_low d h = digit_glyph d (omega arith) ∙ rw (lt-ltb d 10)

digit_high : (d : ℕ) → 10 ≤ d → d < 16 → digit d ≡ 87 + d
digit_high d g h = digit_glyph d h ∙ rw (le-ltb d 10)

pub is_ten : (d : ℕ) → d < 10 → IsTen (digit d)
is_ten d h = let e = digit_low d h in (omega arith, omega arith)

pub is_sixteen : (d : ℕ) → d < 16 → IsSixteen (digit d)
is_sixteen d h =
    elim (dec_lt d 10) [
      | yes p ↦ inl (is_ten d p)
      | no n ↦ let e : digit d ≡ 87 + d = digit_high d (omega arith) h in inr (omega arith, omega arith)
    ]
