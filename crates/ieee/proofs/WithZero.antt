-- +0 beside a number: added to one with a clear sign, or taken from any, it leaves that number.
use Rattle.std.proofs.Common.{◌≡◌, ◌*◌, true, false, T, refl, add-zero, one-mul, zero-add, zero-mul, mul-one, arith, le-ltb}
use native.Mathlib.Nat.{sub-zero}
use lib.Ieee.{Float, nan, inf, fin, binary64, fits, up, down, add, sub, of_bits}
use lib.Ieee.Fits.{down_pos}
use Rattle.ieee.specs.Floats.{zero_float, abs_of}
use Rattle.ieee.proofs.Own.{round_own}

pub plus_zero : (x : Float) → T (fits binary64 x) → abs_of x ≡ x → add binary64 zero_float x ≡ x
unfolding add of_bits
plus_zero nan f h = refl
plus_zero (inf s) f h = refl
plus_zero (fin true m e) f h = cc
plus_zero (fin false m e) f h =
    rw (zero-mul (down e), zero-add, mul-one, one-mul) (round_own (fin false m e) false (m * up e) (down e) f (down_pos e) (refl, refl))

pub less_zero : (x : Float) → T (fits binary64 x) → sub binary64 x zero_float ≡ x
unfolding sub of_bits
less_zero nan f = refl
less_zero (inf s) f = refl
less_zero (fin true m e) f =
    rw (zero-mul (down e), add-zero, mul-one (m * up e), mul-one (down e)) (round_own (fin true m e) true (m * up e) (down e) f (down_pos e) (refl, refl))
less_zero (fin false m e) f =
    rw (zero-mul (down e), le-ltb (m * up e * 1) 0 (omega arith), sub-zero, mul-one (m * up e), mul-one (down e))
    (round_own (fin false m e) false (m * up e) (down e) f (down_pos e) (refl, refl))
