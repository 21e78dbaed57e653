-- What the Rust's `abs`, `max`, `min` and `floor` on f64 are, as far as its calls need them, at every value.
use Rattle.std.specs.Prelude.{◌+◌, ◌-◌, ◌*◌, ◌/◌, true, false, cond, from_bits, Float}
use Rattle.std.specs.Float.{nan, inf, fin, binary64}
use Rattle.std.specs.Float.Ieee.{lt, up, down, round}

-- +0 and 1
abbrev pub zero_float : Float
zero_float = from_bits binary64 0

abbrev pub one_float : Float
one_float = from_bits binary64 0x3ff0_0000_0000_0000

-- the magnitude: the sign is cleared, a zero's and an infinity's too; a NaN stays one
abbrev pub abs_of : Float → Float
abs_of nan = nan
abs_of (inf s) = inf false
abs_of (fin s m e) = fin false m e

-- x where it is greater than y, else y: so y where one of them is a NaN, and y where both are zeros
abbrev pub max_of : Float → Float → Float
max_of x y = cond (lt y x) x y

-- x where it is less than y, else y: so y where one of them is a NaN, and y where both are zeros
abbrev pub min_of : Float → Float → Float
min_of x y = cond (lt x y) x y

-- "minus zero, anything below zero and NaN become +0"
abbrev pub not_below_zero : Float → Float
not_below_zero x = max_of x zero_float

-- 2^-52
abbrev pub epsilon : Float
epsilon = from_bits binary64 0x3cb0_0000_0000_0000

-- the greatest whole number that is not above x, with x's sign, a zero's too: below zero its magnitude is the least whole number that is not below that of x.
-- Infinities and a NaN stay
unfoldable pub floor_of : Float → Float
unfolding round
floor_of nan = nan
floor_of (inf s) = inf s
floor_of (fin false m e) = round binary64 false (m * up e / down e) 1
floor_of (fin true m e) = round binary64 true ((m * up e + (down e - 1)) / down e) 1
