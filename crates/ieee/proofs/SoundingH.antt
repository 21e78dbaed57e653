-- Sounding H: "root of 2: 3ff6a09e667f3bcd; of 2^-1074: 2^-537".
use Rattle.std.proofs.Common.{◌≡◌, refl}
use lib.Ieee.{binary64, to_bits, of_bits}
use Rattle.ieee.specs.Root.{sqrt_of}

-- 2 is the pattern 0x4000000000000000
pub root_of_two : to_bits binary64 (sqrt_of (of_bits binary64 0x4000_0000_0000_0000)) ≡ 0x3ff6_a09e_667f_3bcd
unfolding sqrt_of to_bits of_bits
root_of_two = refl

-- 2^-1074 is the pattern 1, and 2^-537 has the field 1023 - 537 = 0x1e6
pub root_of_smallest : to_bits binary64 (sqrt_of (of_bits binary64 1)) ≡ 0x1e60_0000_0000_0000
unfolding sqrt_of to_bits of_bits
root_of_smallest = refl
