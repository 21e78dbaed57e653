-- A product of two f64 as a term of three words: its sign, and its place.
use Rattle.std.proofs.Common.{◌≡◌, ℕ, ◌+◌, ◌*◌, ◌/◌, ◌%◌, ◌^◌, Bool, true, false, not, pos, ◌*ℤ◌, neg_ℤ, sym, refl, ap, ◌∙◌, ap₂, mul_assoc, arith, pow-add}
use native.Mathlib.Nat.{mul-mul-mul_comm}
use lib.IntN.{neg_ℤ-neg_ℤ}
use Rattle.ieee.specs.Values.{signed}
use Rattle.words.proofs.Whole.{negℤ_*ℤ, *ℤ-negℤ}

-- ---- signs

pub unlike_product : (s : Bool) (m n : ℕ) → signed true m *ℤ signed s n ≡ signed (not s) (m * n)
unlike_product true m n = negℤ_*ℤ (pos m) (neg_ℤ (pos n)) ∙ ap neg_ℤ (*ℤ-negℤ (pos m) (pos n)) ∙ neg_ℤ-neg_ℤ (pos (m * n))
unlike_product false m n = negℤ_*ℤ (pos m) (pos n)

pub like_product : (s : Bool) (m n : ℕ) → signed false m *ℤ signed s n ≡ signed s (m * n)
like_product true m n = *ℤ-negℤ (pos m) (pos n)
like_product false m n = refl

-- ---- shifts

-- (m·2^i)·(n·2^j), from the product in two words, shifted by what is left of i + j after whole words
pub shifted_product : (m n i j w v : ℕ) → w ≡ m * n → v ≡ w * 2 ^ ((i + j) % 64) → m * 2 ^ i * (n * 2 ^ j) ≡ v * 2 ^ (64 * ((i + j) / 64))
shifted_product m n i j w v e f =
    let r = (i + j) % 64 in
    let q = (i + j) / 64 in
    let s : i + j ≡ r + 64 * q = omega arith in
    mul-mul-mul_comm m (2 ^ i) n (2 ^ j)
    ∙ ap₂ (λ (x y : ℕ). x * y) (sym e) (sym (pow-add 2 i j) ∙ ap (λ (x : ℕ). 2 ^ x) s ∙ pow-add 2 r (64 * q))
    ∙ sym (mul_assoc w (2 ^ r) (2 ^ (64 * q)))
    ∙ ap (λ (x : ℕ). x * 2 ^ (64 * q)) (sym f)
