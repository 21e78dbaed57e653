-- Numbers in bytes, words of 64 bits among them.
use Rattle.std.specs.Prelude.{ℕ, List, take, drop}
use Rattle.ieee.specs.Bytes.{number_in}

-- the number in so many bytes from a place on: the lowest comes first, and a byte past the end counts as 0
abbrev pub number_at : List ℕ → ℕ → ℕ → ℕ
number_at xs at width = number_in (take width (drop at xs))

-- the word of 64 bits in the 8 bytes from a place on
abbrev pub word_at : List ℕ → ℕ → ℕ
word_at xs at = number_at xs at 8
