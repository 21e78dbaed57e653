-- e^−u by the ranges of u: from 35 on, from 0 up to 35, and the rest, which is a NaN and what is below 0.
use Rattle.std.proofs.Common.{◌≡◌, ◌+◌, ◌*◌, Bool, true, false, ◌&&◌, ◌||◌, T, eqb, ◌⊎◌, refl, inl, inr, ⊎_elim, arith, ltb→lt, ne_eqb}
use lib.Ieee.{Float, nan, inf, fin, le, lt, eq, of_bits, up, down}
use lib.Ieee.Fits.{down_pos}
use Rattle.ieee.specs.Floats.{zero_float}
use Rattle.exponential.specs.Exponential.{cut, by_range}

pub from_cut : (u y : Float) → le cut u ≡ true → by_range u y ≡ zero_float
from_cut u y h = rw h

pub inside : (u y : Float) → le cut u ≡ false → le zero_float u ≡ true → by_range u y ≡ y
inside u y h k = rw (h, k)

pub elsewhere : (u y : Float) → le cut u ≡ false → le zero_float u ≡ false → by_range u y ≡ nan
elsewhere u y h k = rw (h, k)

-- ---- below zero: neither from 35 on nor from 0 on
neither : (p q : Bool) → (p ≡ false) ⊎ (q ≡ false) → (false || (p && (false || q))) ≡ false
neither true true h = ⊎_elim (λ e. e) (λ e. e) h
neither true false h = refl
neither false q h = refl

pub below_zero : (u y : Float) → T (lt u zero_float) → by_range u y ≡ nan
unfolding le lt eq of_bits
below_zero nan y h = absurd h
below_zero (inf true) y h = refl
below_zero (inf false) y h = absurd h
below_zero (fin false m e) y h =
    let l = ltb→lt (m * up e * 1) (0 * 1 * down e) h in
    absurd (omega arith)
below_zero (fin true m e) y h =
    let l = ltb→lt 0 (m * up e * 1 + 0 * 1 * down e) h in
    let p = down_pos e in
    elsewhere (fin true m e) y
    (neither (eqb (35 * 1 * down e) (m * up e * 1)) (eqb (35 * 1 * down e) 0) (inr (ne_eqb (35 * 1 * down e) 0 (λ z. omega arith))))
    (neither (eqb (0 * 1 * down e) (m * up e * 1)) (eqb (0 * 1 * down e) 0) (inl (ne_eqb (0 * 1 * down e) (m * up e * 1) (λ z. omega arith))))
