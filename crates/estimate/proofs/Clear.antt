-- Where sums with rounding leave no doubt, the exact sum is within t·(1 + |target|) of the target.
use Prim.Native.Nat.{ℕ, ◌+◌, ◌*◌, ◌^◌, ◌≤◌}
use native.Mathlib.Nat.{le_trans, le_of_eq, le-add_left, le-add_right, mul-le-mul_right}
use native.Mathlib.Omega.{arith}
use mathlib.Core.Path.{◌≡◌, refl, ap, ◌∙◌, subst}
use mathlib.Core.Bool.{Bool, true, false, cond, ◌&&◌, true≢false}
use lib.Dec.{T, leb, leb→le, lit≤}
use lib.IntN.{pos, negsuc}
use lib.Ieee.{Float, nan, inf, fin, binary64, fits, up, down, of_bits, sub, mul, unlike, lt, eq, le}
use lib.Ieee.Fits.{and_l, and_r}
use lib.Ieee.Scale.{finite}
use Rattle.ieee.specs.Values.{multiple, sign_of, Signed, infinite, number}
use Rattle.ieee.specs.Floats.{one_float, abs_of, max_of}
use Rattle.ieee.proofs.RoundingWhole.{gap}
use Rattle.ieee.proofs.Signs.{round_signed}
use Rattle.estimate.specs.Estimate.{sixteen, share, least_margin, margin, clearly}
use Rattle.estimate.proofs.SumError.{abs_multiple, abs_fits}

-- ---- the arithmetic of it. U stands for 1, P for the exact t·max(|target|, 1), h for its rounding, each in the units that they are compared in

-- a rounded result r of n units, as a bound of what was rounded
pub upper : (r n u : ℕ) → 2 ^ 53 * gap r n ≤ r + 2 ^ 52 * u → n ≤ 2 * r + u
upper r n u h = omega arith

pub lower : (r n u : ℕ) → 2 ^ 53 * gap r n ≤ r + 2 ^ 52 * u → r ≤ 2 * n + u
lower r n u h = omega arith

-- the error of the sum, e, from the size a of its terms
pub small_error : (n e a c h U W : ℕ) → n ≤ 1024 → 2 ^ 53 * e ≤ n * (2 * (a * U) + 2 ^ 53 * U) → U ≡ 2 ^ 36 * W → a * W ≤ 2 * (c * U) + U → c * U ≤ h * U
    → 64 * e ≤ 2 * (h * U) + U + 65536 * U
small_error n e a c h U W hn he hu ha hc =
    let s : n * (2 * (a * U) + 2 ^ 53 * U) ≤ 1024 * (2 * (a * U) + 2 ^ 53 * U) = mul-le-mul_right (2 * (a * U) + 2 ^ 53 * U) hn in
    let t : a * U ≡ 2 ^ 36 * (a * W) = ap (λ (x : ℕ). a * x) hu ∙ swap a W in
    chain e (a * U) (a * W) (c * U) (h * U) U (le_trans he s) t ha hc
  where
    swap : (a W : ℕ) → a * (2 ^ 36 * W) ≡ 2 ^ 36 * (a * W)
    swap a W = omega arith

    chain : (e A B C H U : ℕ) → 2 ^ 53 * e ≤ 1024 * (2 * A + 2 ^ 53 * U) → A ≡ 2 ^ 36 * B → B ≤ 2 * C + U → C ≤ H → 64 * e ≤ 2 * H + U + 65536 * U
    chain e A B C H U p q r s = omega arith

-- the rounded difference d from the target, from its sixteenfold q
pub small_miss : (w d q h U : ℕ) → w ≤ 2 * d + 1 → 16 * (d * U) ≤ 2 * (q * U) + U → q * U ≤ h * U → 16 * (w * U) ≤ 4 * (h * U) + 18 * U
small_miss w d q h U hw hd hq =
    let s : w * U ≤ (2 * d + 1) * U = mul-le-mul_right U hw in
    omega arith

-- together they stay below the margin
pub together : (e w h P U : ℕ) → 64 * e ≤ 2 * (h * U) + U + 65536 * U → 16 * (w * U) ≤ 4 * (h * U) + 18 * U → h * U ≤ 2 * P + U → 8192 ≤ h → e + w * U ≤ P
together e w h P U he hw hp hh =
    let s : 8192 * U ≤ h * U = mul-le-mul_right U hh in
    omega arith

-- ---- the numbers that are compared are finite, and have no sign
signed_clear : (s : Bool) (x : Float) → Signed s x → sign_of x ≡ s
signed_clear s x infinite = refl
signed_clear s x (number m e) = refl

pub finite_below : (x y : Float) → sign_of x ≡ false → T (le x y) → T (finite y) → T (finite x)
unfolding le lt eq
finite_below nan y s h hy = absurd h
finite_below (inf t) nan s h hy = absurd hy
finite_below (inf t) (inf r) s h hy = absurd hy
finite_below (inf false) (fin r n d) s h hy = h
finite_below (inf true) (fin r n d) s h hy = absurd (true≢false s)
finite_below (fin t m e) y s h hy = tt

pub times_clear : (x : Float) → sign_of (mul binary64 sixteen (abs_of x)) ≡ false
unfolding mul of_bits
times_clear nan = refl
times_clear (inf s) = refl
times_clear (fin s m e) = signed_clear false _ (round_signed false (1 * up (pos 4) * (m * up e)) (down (pos 4) * down e))

pub share_clear : (x : Float) → Signed false x → sign_of (mul binary64 x share) ≡ false
unfolding mul of_bits
share_clear x infinite = refl
share_clear x (number m e) = signed_clear false _ (round_signed false (m * up e * (1 * up (negsuc 35))) (down e * down (negsuc 35)))

pub fixed_fits : (T (fits binary64 sixteen)) × (T (fits binary64 share)) × (T (fits binary64 least_margin)) × (T (fits binary64 one_float))
unfolding of_bits fits
fixed_fits = (tt, tt, tt, tt)

-- ---- the greater of |target| and 1
pub record Greater (target m : Float) : Type 0 where
  pub fit : T (fits binary64 m)
  pub clear : sign_of m ≡ false
  pub under : multiple m ≤ 2 ^ 1074 + multiple target

abs_sign : (x : Float) → sign_of (abs_of x) ≡ false
abs_sign nan = refl
abs_sign (inf s) = refl
abs_sign (fin s m e) = refl

one_sign : sign_of one_float ≡ false
unfolding of_bits
one_sign = refl

one_multiple : multiple one_float ≡ 2 ^ 1074
unfolding of_bits
one_multiple = refl

pub greater : (target : Float) → T (fits binary64 target) → Greater target (max_of (abs_of target) one_float)
greater target f = go (lt one_float (abs_of target))
  where
    go : (b : Bool) → Greater target (cond b (abs_of target) one_float)
    go true = record {
      fit = abs_fits target f;
      clear = abs_sign target;
      under = le_trans (le_of_eq (abs_multiple target)) (le-add_left (multiple target)
          (2 ^ 1074));
    }
    go false = record { fit = fixed_fits.3; clear = one_sign; under = le_trans (le_of_eq one_multiple) (le-add_right (2 ^ 1074) (multiple target)) }

pub like_sign : (s t : Bool) → unlike s t ≡ false → t ≡ false → s ≡ false
like_sign false t e f = refl
like_sign true false e f = e
like_sign true true e f = f

-- ---- the row
pub sixteen_multiple : multiple sixteen ≡ 16 * 2 ^ 1074
unfolding of_bits
sixteen_multiple = refl

pub share_multiple : 2 ^ 36 * multiple share ≡ 2 ^ 1074
unfolding of_bits
share_multiple = refl

pub least_large : 8192 ≤ multiple least_margin
unfolding of_bits
least_large = lit≤ tt

pub least_clear : (sign_of least_margin ≡ false) × (T (finite least_margin))
unfolding of_bits
least_clear = (refl, tt)

-- sixteen times d, from the product
pub sixteenfold : (m d q U : ℕ) → m ≡ 16 * U → m * d ≤ 2 * (q * U) + U → 16 * (d * U) ≤ 2 * (q * U) + U
sixteenfold m d q U e h = subst (λ (k : ℕ). k ≤ 2 * (q * U) + U) (ap (λ (k : ℕ). k * d) e ∙ swap d U) h
  where
    swap : (d U : ℕ) → 16 * U * d ≡ 16 * (d * U)
    swap d U = omega arith

-- what `clearly` asks
pub record Asked (n : ℕ) (sum size target t : Float) : Type 0 where
  pub few : n ≤ 1024
  pub finite_margin : T (finite (margin t target))
  pub finite_size : T (finite size)
  pub least : T (le least_margin (margin t target))
  pub missed : T (le (mul binary64 sixteen (abs_of (sub binary64 sum target))) (margin t target))
  pub shared : T (le (mul binary64 size share) (margin t target))

pub asked : (n : ℕ) (sum size target t : Float) → T (clearly n sum size target t) → Asked n sum size target t
unfolding clearly
asked n sum size target t h =
    let m = margin t target in
    let a = leb n 1024 in
    let b = finite m in
    let c = finite size in
    let d = le least_margin m in
    let e = le (mul binary64 sixteen (abs_of (sub binary64 sum target))) m in
    let f = le (mul binary64 size share) m in
    let h1 = and_r a (b && (c && (d && (e && f)))) h in
    let h2 = and_r b (c && (d && (e && f))) h1 in
    let h3 = and_r c (d && (e && f)) h2 in
    let h4 = and_r d (e && f) h3 in
    record {
      few = leb→le n 1024 (and_l a (b && (c && (d && (e && f)))) h);
      finite_margin = and_l b (c && (d && (e && f))) h1;
      finite_size = and_l c (d && (e && f)) h2;
      least = and_l d (e && f) h3;
      missed = and_l e f h4;
      shared = and_r e f h4;
    }
