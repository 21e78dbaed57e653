-- Products of numbers below two bounds, and of two that fit half a word.
use Rattle.std.proofs.Common.{ℕ, ◌*◌, ◌^◌, ◌<◌, lt_of_le_of_lt, le_of_lt, mul-le-mul_left, mul-lt-mul_of_pos_right, pow_pos}

pub product_lt : (x y m k : ℕ) → 0 < k → x < m → y < k → x * y < m * k
product_lt x y m k p h l = lt_of_le_of_lt (mul-le-mul_left x (le_of_lt l)) (mul-lt-mul_of_pos_right h p)

pub word_lt : (x y : ℕ) → x < 2 ^ 32 → y < 2 ^ 32 → x * y < 2 ^ 64
word_lt x y h l = product_lt x y (2 ^ 32) (2 ^ 32) (pow_pos 32) h l
