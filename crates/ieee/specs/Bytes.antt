-- Numbers as bytes, "little-endian", the lowest byte first. An f64 is its pattern; every NaN pattern is read as the one NaN.
use Rattle.std.specs.Prelude.{ℕ, zero, suc, ◌+◌, ◌*◌, ◌/◌, ◌%◌, Bool, true, ◌&&◌, List, [], ◌∷◌, ◌++◌, take, drop, nat_lt, Float}
use Rattle.std.specs.Float.{binary64}
use Rattle.std.specs.Float.Ieee.{fits, to_bits, of_bits}

-- a number in so many bytes: its lowest ones
unfoldable pub little_endian : ℕ → ℕ → List ℕ
little_endian zero x = []
little_endian (suc width) x = x % 256 ∷ little_endian width (x / 256)

-- the number that bytes are
unfoldable pub number_in : List ℕ → ℕ
number_in [] = 0
number_in (b ∷ bytes) = b + 256 * number_in bytes

-- f64 one after another, 8 bytes each
unfoldable pub f64_bytes : List Float → List ℕ
unfolding little_endian to_bits
f64_bytes [] = []
f64_bytes (x ∷ xs) = little_endian 8 (to_bits binary64 x) ++ f64_bytes xs

-- so many f64 one after another, from the first byte on
unfoldable pub f64s_in : ℕ → List ℕ → List Float
unfolding number_in of_bits
f64s_in zero bytes = []
f64s_in (suc count) bytes = of_bits binary64 (number_in (take 8 bytes)) ∷ f64s_in count (drop 8 bytes)

-- every number of the list is an f64, as every number is that the language hands over
abbrev pub all_fit : List Float → Bool
all_fit [] = true
all_fit (x ∷ xs) = fits binary64 x && all_fit xs

-- every number of the list is a byte
abbrev pub all_bytes : List ℕ → Bool
all_bytes [] = true
all_bytes (b ∷ bytes) = nat_lt b 256 && all_bytes bytes
