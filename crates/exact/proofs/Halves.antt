-- A product by halves of words, and a shift over words.
use Rattle.std.proofs.Common.{◌≡◌, ℕ, ◌+◌, ◌-◌, ◌*◌, ◌/◌, ◌%◌, ◌^◌, ◌<◌, ◌≤◌, sym, ap, ◌∙◌, subst, mod-lt, mul_assoc, mul_comm, div-lt_iff_lt-mul, add-mul, mul-lt-mul_of_pos_right, div-add-mod', arith, pow_pos, pow-add}
use native.Mathlib.Nat.{mul-div-mul_right}
use lib.Arith.{digits_lt, digits_mod}
use Rattle.ieee.proofs.Products.{product_lt, word_lt}

-- (a₁·h + a₀)·(b₁·h + b₀), from the product of the low halves and what the two sums in the middle carry, each by its own halves
pub by_halves : (h a₀ a₁ b₀ b₁ l₀ l₁ m₀ m₁ n₀ n₁ : ℕ) → l₁ * h + l₀ ≡ a₀ * b₀ → m₁ * h + m₀ ≡ a₁ * b₀ + l₁ → n₁ * h + n₀ ≡ a₀ * b₁ + m₀
    → n₀ * h + l₀ + h * h * (a₁ * b₁ + m₁ + n₁) ≡ (a₁ * h + a₀) * (b₁ * h + b₀)
by_halves h a₀ a₁ b₀ b₁ l₀ l₁ m₀ m₁ n₀ n₁ l m n = omega (arith, l, ap (λ (x : ℕ). h * x) m, ap (λ (x : ℕ). h * x) n)

-- the low word of it: what the sum in the middle, shifted up by a half, leaves there
pub low_word : (l c d : ℕ) → (l + (c + d) * 2 ^ 32 % 2 ^ 64) % 2 ^ 64 ≡ (c + (d + l / 2 ^ 32) % 2 ^ 32) % 2 ^ 32 * 2 ^ 32 + l % 2 ^ 32
low_word l c d = omega arith

-- the products of the halves of two significands
pub low_low : (a b : ℕ) → a % 2 ^ 32 * (b % 2 ^ 32) < 2 ^ 64
low_low a b = word_lt (a % 2 ^ 32) (b % 2 ^ 32) (omega arith) (omega arith)

pub low_high : (a b : ℕ) → b < 2 ^ 53 → a % 2 ^ 32 * (b / 2 ^ 32) < 2 ^ 53
low_high a b h = product_lt (a % 2 ^ 32) (b / 2 ^ 32) (2 ^ 32) (2 ^ 21) (pow_pos 21) (omega arith) (omega arith)

pub high_low : (a b : ℕ) → a < 2 ^ 53 → a / 2 ^ 32 * (b % 2 ^ 32) < 2 ^ 53
high_low a b h = product_lt (a / 2 ^ 32) (b % 2 ^ 32) (2 ^ 21) (2 ^ 32) (pow_pos 32) (omega arith) (omega arith)

pub high_high : (a b : ℕ) → a < 2 ^ 53 → b < 2 ^ 53 → a / 2 ^ 32 * (b / 2 ^ 32) < 2 ^ 42
high_high a b h k = product_lt (a / 2 ^ 32) (b / 2 ^ 32) (2 ^ 21) (2 ^ 21) (pow_pos 21) (omega arith) (omega arith)

-- what they carry fits, and the high word with it
pub first_fits : (l d : ℕ) → l < 2 ^ 64 → d < 2 ^ 53 → d + l / 2 ^ 32 < 2 ^ 54
first_fits l d h k = omega arith

three_fit : (x y z : ℕ) → x < 2 ^ 42 → y < 2 ^ 22 → z < 2 ^ 22 → x + y + z < 2 ^ 64
three_fit x y z h i j = omega arith

high_fits : (x l c d : ℕ) → x < 2 ^ 42 → l < 2 ^ 64 → c < 2 ^ 53 → d < 2 ^ 53
    → x + (d + l / 2 ^ 32) / 2 ^ 32 + (c + (d + l / 2 ^ 32) % 2 ^ 32) / 2 ^ 32 < 2 ^ 64
high_fits x l c d h i j k =
    let f = first_fits l d i k in
    let p : (d + l / 2 ^ 32) / 2 ^ 32 < 2 ^ 22 = omega arith in
    let q : (c + (d + l / 2 ^ 32) % 2 ^ 32) / 2 ^ 32 < 2 ^ 22 = omega arith in
    three_fit x _ _ h p q

pub high_word : (a b : ℕ) → a < 2 ^ 53 → b < 2 ^ 53
    → let h = 2 ^ 32 in let m = a / h * (b % h) + a % h * (b % h) / h in a / h * (b / h) + m / h + (a % h * (b / h) + m % h) / h < 2 ^ 64
high_word a b h k = high_fits _ _ _ _ (high_high a b h k) (low_low a b) (low_high a b k) (high_low a b h)

-- ---- a shift by s bits: c is 2^s, and d·c is a word's 2^64
module _ (s : ℕ) (fits : s ≤ 64) where
  pub two_parts : 2 ^ (64 - s) * 2 ^ s ≡ 2 ^ 64
  two_parts = let e : 64 - s + s ≡ 64 = omega arith in sym (pow-add 2 (64 - s) s) ∙ ap (λ (n : ℕ). 2 ^ n) e

  -- a word shifted up: what leaves it at the top, and what stays
  pub shift_splits : (x : ℕ) → x / 2 ^ (64 - s) * 2 ^ 64 + x * 2 ^ s % 2 ^ 64 ≡ x * 2 ^ s
  shift_splits x =
      subst (λ (m : ℕ). x / 2 ^ (64 - s) * m + x * 2 ^ s % m ≡ x * 2 ^ s) two_parts
      (ap (λ (q : ℕ). q * (2 ^ (64 - s) * 2 ^ s) + x * 2 ^ s % (2 ^ (64 - s) * 2 ^ s)) (sym (mul-div-mul_right x (2 ^ (64 - s)) (pow_pos s)))
      ∙ div-add-mod' (x * 2 ^ s) (2 ^ (64 - s) * 2 ^ s))

  stays : (x : ℕ) → x * 2 ^ s % (2 ^ (64 - s) * 2 ^ s) ≡ x % 2 ^ (64 - s) * 2 ^ s
  stays x =
      let d = 2 ^ (64 - s) in
      let c = 2 ^ s in
      let e : x * c ≡ x / d * (d * c) + x % d * c =
      ap (λ (n : ℕ). n * c) (sym (div-add-mod' x d)) ∙ add-mul (x / d * d) (x % d) c ∙ ap (λ (n : ℕ). n + x % d * c) (mul_assoc (x / d) d c) in
      ap (λ (n : ℕ). n % (d * c)) e ∙ digits_mod (x / d) (mul-lt-mul_of_pos_right (mod-lt x (pow_pos (64 - s))) (pow_pos s))

  -- what stays of a word and what leaves another do not meet
  pub joins : (x y : ℕ) → y < 2 ^ 64 → x * 2 ^ s % 2 ^ 64 + y / 2 ^ (64 - s) < 2 ^ 64
  joins x y h =
      let d = 2 ^ (64 - s) in
      let c = 2 ^ s in
      let r : y / d < c = (div-lt_iff_lt-mul (pow_pos (64 - s))).1 (subst (λ (m : ℕ). y < m) (sym two_parts ∙ mul_comm d c) h) in
      subst (λ (m : ℕ). x * c % m + y / d < m) two_parts
      (subst (λ (n : ℕ). n + y / d < d * c) (sym (stays x)) (digits_lt (mod-lt x (pow_pos (64 - s))) r))

-- two words shifted up by the same number of bits
pub shifts : (b c l h x₀ x₁ y₀ y₁ : ℕ) → x₁ * b + x₀ ≡ l * c → y₁ * b + y₀ ≡ h * c → x₀ + b * (y₀ + x₁ + b * y₁) ≡ (l + b * h) * c
shifts b c l h x₀ x₁ y₀ y₁ e f = omega (arith, e, ap (λ (n : ℕ). b * n) f)
