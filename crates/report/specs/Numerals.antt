-- Numbers in ASCII: "Bits are 16 hexadecimal digits in small letters, any NaN as 7ff8000000000000; the other figures are decimal".
use Rattle.std.specs.Prelude.{ℕ, zero, suc, ◌/◌, ◌%◌, true, false, List, [], ◌∷◌, ◌++◌, ltb, get_or, Float}
use Prim.Native.Char.{code}
use Prim.Native.String.{String, [] as no_more, ◌∷◌ as ◌then◌}
use Rattle.std.specs.Float.{nan, inf, fin, binary64}
use Rattle.std.specs.Float.Ieee.{to_bits}

-- a text as bytes: the code of each of its characters
abbrev pub ascii : String → List ℕ
ascii no_more = []
ascii (c then s) = code c ∷ ascii s

-- the byte of a digit, "in small letters"
unfoldable pub digit : ℕ → ℕ
digit d = get_or (ascii "0123456789abcdef") d 0

-- n in base ten: one digit where n is below ten, else the digits of n / 10 and then the last one, in at most so many steps
unfoldable pub in_tens : ℕ → ℕ → List ℕ
in_tens zero n = []
in_tens (suc steps) n = elim (ltb n 10) [ true ↦ digit n ∷ [] | false ↦ in_tens steps (n / 10) ++ (digit (n % 10) ∷ []) ]

-- "decimal": no number has more than n + 1 digits
unfoldable pub decimal_text : ℕ → List ℕ
decimal_text n = in_tens (suc n) n

-- the last k digits of n in base sixteen
unfoldable pub in_sixteens : ℕ → ℕ → List ℕ
in_sixteens zero n = []
in_sixteens (suc k) n = in_sixteens k (n / 16) ++ (digit (n % 16) ∷ [])

-- "16 hexadecimal digits"
unfoldable pub hex_text : ℕ → List ℕ
hex_text n = in_sixteens 16 n

-- "any NaN as 7ff8000000000000", and every other float by its own pattern
unfoldable pub bits_of : Float → ℕ
bits_of nan = 0x7ff8_0000_0000_0000
bits_of (inf s) = to_bits binary64 (inf s)
bits_of (fin s m e) = to_bits binary64 (fin s m e)

-- "figure bits, variance bits", and a multiplier's and the trend's
unfoldable pub bits_text : Float → List ℕ
bits_text x = hex_text (bits_of x)
