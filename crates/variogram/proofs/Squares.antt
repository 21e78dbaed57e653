-- The square of a difference is that of the opposite difference, bit for bit, and has a clear sign: what rounding does to a magnitude does not look at its
-- sign.
use Prim.Native.Nat.{ℕ, zero, suc, ◌+◌, ◌-◌, ◌*◌, ◌≤◌, ◌<◌}
use native.Mathlib.Nat.{mul_comm, add_comm}
use native.Mathlib.Omega.{arith}
use mathlib.Core.Path.{◌≡◌, refl, ap, sym, ◌∙◌}
use mathlib.Core.Bool.{Bool, true, false, not, cond}
use lib.Dec.{ltb}
use lib.Ieee.{Float, nan, inf, fin, binary64, up, down, round, units, odd, sum, add, neg, sub, mul}
use lib.Ieee.Fits.{mul-fits}
use borrow.Author.Tests.{ltb-true, ltb-false}
use Rattle.ieee.specs.Floats.{zero_float, abs_of}
use Rattle.variogram.specs.Distance.{square}
use Rattle.ieee.proofs.WithZero.{plus_zero}

-- ---- the magnitude of what is rounded is the rounded magnitude
abs_odd : (d : ℕ) (s : Bool) (q k l : ℕ) → abs_of (odd d s q k l) ≡ odd d false q k l
unfolding odd
abs_odd d s zero k l = refl
abs_odd d s (suc q) k l = refl

abs_cond : (b : Bool) (x y : Float) → abs_of (cond b x y) ≡ cond b (abs_of x) (abs_of y)
abs_cond true x y = refl
abs_cond false x y = refl

pub abs_round : (s : Bool) (num den : ℕ) → abs_of (round binary64 s num den) ≡ round binary64 false num den
unfolding round units
abs_round s num den = rw (abs_cond, abs_odd)

-- ---- the two differences of two numbers have one magnitude
-- the gap between a and b, from either side
module _ (a b c : ℕ) where
  pub gap : (p q : Bool) → ltb a b ≡ p → ltb b a ≡ q
      → cond p (round binary64 false (b - a) c) (round binary64 false (a - b) c) ≡ cond q (round binary64 false (a - b) c) (round binary64 false (b - a) c)
  gap true true h g = let l : a < b = ltb-true a b h in let m : b < a = ltb-true b a g in absurd (omega arith)
  gap true false h g = refl
  gap false true h g = refl
  gap false false h g =
      let l : b ≤ a = ltb-false a b h in
      let m : a ≤ b = ltb-false b a g in
      let e : a - b ≡ b - a = omega arith in
      ap (λ (z : ℕ). round binary64 false z c) e

abs_gap : (b s t : Bool) (n m c : ℕ)
    → abs_of (cond b (round binary64 s n c) (round binary64 t m c)) ≡ cond b (round binary64 false n c) (round binary64 false m c)
abs_gap true s t n m c = abs_round s n c
abs_gap false s t n m c = abs_round t m c

abs_sub : (s t : Bool) (a b c : ℕ) → abs_of (sum binary64 s a (not t) b c) ≡ abs_of (sum binary64 t b (not s) a c)
unfolding sum
abs_sub true true a b c =
    abs_gap (ltb a b) false (ltb b a) (b - a) (a - b) c ∙ gap a b c (ltb a b) (ltb b a) refl refl ∙ sym (abs_gap (ltb b a) false (ltb a b) (a - b) (b - a) c)
abs_sub false false a b c =
    abs_gap (ltb a b) true false (b - a) (a - b) c ∙ gap a b c (ltb a b) (ltb b a) refl refl ∙ sym (abs_gap (ltb b a) true false (a - b) (b - a) c)
abs_sub true false a b c = abs_round true (a + b) c ∙ ap (λ (n : ℕ). round binary64 false n c) (add_comm a b) ∙ sym (abs_round false (b + a) c)
abs_sub false true a b c = abs_round false (a + b) c ∙ ap (λ (n : ℕ). round binary64 false n c) (add_comm a b) ∙ sym (abs_round true (b + a) c)

pub abs_opposite : (x y : Float) → abs_of (sub binary64 x y) ≡ abs_of (sub binary64 y x)
unfolding sub neg add
abs_opposite nan nan = refl
abs_opposite nan (inf t) = refl
abs_opposite nan (fin t n d) = refl
abs_opposite (inf s) nan = refl
abs_opposite (inf true) (inf true) = refl
abs_opposite (inf true) (inf false) = refl
abs_opposite (inf false) (inf true) = refl
abs_opposite (inf false) (inf false) = refl
abs_opposite (inf s) (fin t n d) = refl
abs_opposite (fin s m e) nan = refl
abs_opposite (fin s m e) (inf t) = refl
abs_opposite (fin s m e) (fin t n d) =
    let a = m * up e * down d in
    let b = n * up d * down e in
    abs_sub s t a b (down e * down d) ∙ ap (λ (c : ℕ). abs_of (sum binary64 t b (not s) a c)) (mul_comm (down e) (down d))

-- ---- squares
square_abs : (x : Float) → square x ≡ square (abs_of x)
unfolding mul
square_abs nan = refl
square_abs (inf true) = refl
square_abs (inf false) = refl
square_abs (fin true m e) = refl
square_abs (fin false m e) = refl

-- the square of a difference is that of the opposite difference
pub square_opposite : (x y : Float) → square (sub binary64 x y) ≡ square (sub binary64 y x)
square_opposite x y = square_abs (sub binary64 x y) ∙ ap square (abs_opposite x y) ∙ sym (square_abs (sub binary64 y x))

abs_square : (x : Float) → abs_of (square x) ≡ square x
unfolding mul
abs_square nan = refl
abs_square (inf true) = refl
abs_square (inf false) = refl
abs_square (fin true m e) = abs_round false (m * up e * (m * up e)) (down e * down e)
abs_square (fin false m e) = abs_round false (m * up e * (m * up e)) (down e * down e)

-- a sum of squares may begin at +0
pub plus_square : (x : Float) → add binary64 zero_float (square x) ≡ square x
plus_square x = plus_zero (square x) (mul-fits binary64 x x) (abs_square x)
