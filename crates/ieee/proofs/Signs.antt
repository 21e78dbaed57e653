-- Numbers and infinities by their sign: what is rounded keeps its sign.
use Rattle.std.proofs.Common.{ℕ, zero, suc, ◌+◌, ◌-◌, ◌*◌, ◌^◌, Bool, true, false, cond, not, ◌&&◌, T, ltb, sym, subst}
use mathlib.Core.Bool.{beq}
use lib.Ieee.{Float, inf, fin, binary64, prec, emax, low, up, down, round, units, odd, sum, add, sub, neg, mul}
use lib.Ieee.Fits.{round_is}
use lib.Ieee.Scale.{finite}
use Rattle.ieee.specs.Root.{whole_root, sqrt_of, root_of}
use Rattle.ieee.specs.Values.{multiple, Signed, infinite, number}

either : {s : Bool} (b : Bool) (x y : Float) → Signed s x → Signed s y → Signed s (cond b x y)
either true x y p q = p
either false x y p q = q

odd_signed : (d : ℕ) (s : Bool) (q k l : ℕ) → Signed s (odd d s q k l)
unfolding odd
odd_signed d s zero k l = number _ _
odd_signed d s (suc q) k l = number _ _

units_signed : (s : Bool) (q k : ℕ) → Signed s (units binary64 s q k)
unfolding units
units_signed s q k =
    either (ltb (q * 2 ^ k) (2 ^ (low binary64 + suc (emax binary64)))) (odd (suc (prec binary64)) s q k (low binary64)) (inf s)
    (odd_signed (suc (prec binary64)) s q k (low binary64)) infinite

-- rounding keeps the sign
pub round_signed : (s : Bool) (a c : ℕ) → Signed s (round binary64 s a c)
round_signed s a c = subst (Signed s) (sym (round_is binary64 s a c)) (units_signed s _ _)

-- a difference of finite numbers has one sign or the other
some_sign : (b : Bool) (x y : Float) → ((s : Bool) × Signed s x) → ((s : Bool) × Signed s y) → (s : Bool) × Signed s (cond b x y)
some_sign true x y p q = p
some_sign false x y p q = q

pub difference : (x y : Float) → T (finite x) → T (finite y) → (s : Bool) × Signed s (sub binary64 x y)
unfolding sub add neg sum
difference lib.Ieee.nan y h g = elim h [ ]
difference (inf _) y h g = elim h [ ]
difference (fin s m e) lib.Ieee.nan h g = elim g [ ]
difference (fin s m e) (inf _) h g = elim g [ ]
difference (fin s m e) (fin t n d) h g =
    let a : ℕ = m * up e * down d in
    let b : ℕ = n * up d * down e in
    let c : ℕ = down e * down d in
    some_sign (beq s (not t)) (round binary64 s (a + b) c) (cond (ltb a b) (round binary64 (not t) (b - a) c) (round binary64 (s && ltb b a) (a - b) c))
    (s, round_signed s (a + b) c)
    (some_sign (ltb a b) (round binary64 (not t) (b - a) c) (round binary64 (s && ltb b a) (a - b) c) (not t, round_signed (not t) (b - a) c)
    (s && ltb b a, round_signed (s && ltb b a) (a - b) c))

-- its square has a clear one
pub square_clear : (s : Bool) (x : Float) → Signed s x → Signed false (mul binary64 x x)
unfolding mul
square_clear true x infinite = infinite
square_clear false x infinite = infinite
square_clear true x (number m e) = round_signed false (m * up e * (m * up e)) (down e * down e)
square_clear false x (number m e) = round_signed false (m * up e * (m * up e)) (down e * down e)

-- and so have the sum of such numbers
pub add_clear : (x y : Float) → Signed false x → Signed false y → Signed false (add binary64 x y)
unfolding add sum
add_clear x y infinite infinite = infinite
add_clear x y infinite (number n d) = infinite
add_clear x y (number m e) infinite = infinite
add_clear x y (number m e) (number n d) = round_signed false (m * up e * down d + n * up d * down e) (down e * down d)

-- and its root
pub root_clear : (x : Float) → Signed false x → Signed false (sqrt_of x)
unfolding sqrt_of root_of
root_clear x infinite = infinite
root_clear x (number zero e) = number _ _
root_clear x (number (suc m) e) = round_signed false (2 * whole_root 1586 (multiple (fin false (suc m) e) * 2 ^ 1074) + 1) (2 * 2 ^ 1074)
