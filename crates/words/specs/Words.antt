-- Whole numbers in words of 64 bits, lowest first, and in two's complement in 67 of them.
use Rattle.std.specs.Prelude.{ℕ, zero, suc, ◌+◌, ◌-◌, ◌*◌, ◌/◌, ◌%◌, ◌^◌, cond, List, [], ◌∷◌, ℤ, pos, negsuc, ◌-ℤ◌, nat_lt}

-- the number that words stand for in base 2^64, lowest first
abbrev pub number : List ℕ → ℕ
number [] = 0
number (w ∷ ws) = w + 2 ^ 64 * number ws

-- the k lowest words of a number
abbrev pub words_of : ℕ → ℕ → List ℕ
words_of zero a = []
words_of (suc k) a = a % 2 ^ 64 ∷ words_of k (a / 2 ^ 64)

-- what 67 words can tell apart: 2^(64·67)
unfoldable pub modulus : ℕ
modulus = 2 ^ 4288

unfoldable pub half : ℕ
half = 2 ^ 4287

-- "An exact sum is held in 67 words of 64 bits, in two's complement": the whole number that words stand for
unfoldable pub reading : List ℕ → ℤ
reading ws = cond (nat_lt (number ws) half) (pos (number ws)) (pos (number ws) -ℤ pos modulus)

-- what a whole number leaves below 2^4288: the number that differs from it by a multiple of 2^4288
unfoldable pub residue : ℤ → ℕ
residue (pos n) = n % modulus
residue (negsuc n) = modulus - suc (n % modulus)

-- the 67 words that hold a whole number, modulo 2^4288
unfoldable pub held : ℤ → List ℕ
held z = words_of 67 (residue z)
