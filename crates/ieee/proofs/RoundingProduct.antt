-- The kit's `mul` and `div` on f64 are the product and the quotient of specs/Ieee754.antt, at every operand that is an f64.
use Rattle.std.proofs.Common.{◌≡◌, ℕ, zero, suc, ◌*◌, ◌/◌, ◌^◌, ◌<◌, Bool, cond, T, eqb, ◌≢◌, ℤ, pos, sym, refl, ap, ◌∙◌, subst, lt_irrefl, zero-lt-suc, mul_assoc, mul_comm, pos_of_ne-zero, mul-pos, zero-mul, mul_left_comm, pow_pos}
use native.Mathlib.Nat.{zero-div}
use native.Mathlib.Nat.{mul-mul-mul_comm, eq_of_mul-eq-mul_right}
use lib.Dec.{eqb-suc-zero}
use lib.Ieee.{Float, nan, inf, fin, binary64, unlike, up, down, fits, round, mul, div}
use lib.Ieee.Fits.{up_pos, down_pos}
use lib.Ieee.Scale.{finite, round_same}
use Rattle.ieee.specs.Values.{multiple, sign_of}
use Rattle.ieee.specs.Ieee754.{Nearest, Product, Quotient}
use Rattle.ieee.proofs.RoundingGrid.{multiple_exact}
use Rattle.ieee.proofs.RoundingNearest.{round_nearest}

-- ---- a zero has the multiple 0, and nothing else has

zero_multiple : (s : Bool) (e : ℤ) → multiple (fin s 0 e) ≡ 0
zero_multiple s e = ap (λ (x : ℕ). x * 2 ^ 1074 / down e) (zero-mul (up e)) ∙ zero-div (down e)

nonzero : (s : Bool) (m : ℕ) (e : ℤ) → T (fits binary64 (fin s (suc m) e)) → multiple (fin s (suc m) e) ≢ 0
nonzero s m e h z =
    lt_irrefl 0 (subst (λ (x : ℕ). 0 < x) (sym (multiple_exact s (suc m) e h) ∙ ap (λ (x : ℕ). x * down e) z ∙ zero-mul (down e))
    (mul-pos (mul-pos (zero-lt-suc m) (up_pos e)) (pow_pos 1074)))

-- ---- `mul`

square : (a b d e A B U : ℕ) → A * e ≡ a * U → B * d ≡ b * U → a * b * (U * U) ≡ A * B * (e * d)
square a b d e A B U h k = mul-mul-mul_comm a b U U ∙ ap (λ (x : ℕ). x * (b * U)) (sym h) ∙ ap (λ (x : ℕ). A * e * x) (sym k) ∙ mul-mul-mul_comm A e B d

mul_rounded : (x y : Float) → T (fits binary64 x) → T (fits binary64 y) → T (finite x) → T (finite y)
    → Nearest (mul binary64 x y) (unlike (sign_of x) (sign_of y)) (multiple x * multiple y) (2 ^ 2148)
unfolding mul
mul_rounded nan y h k u v = absurd u
mul_rounded (inf s) y h k u v = absurd u
mul_rounded (fin s m e) nan h k u v = absurd v
mul_rounded (fin s m e) (inf t) h k u v = absurd v
mul_rounded (fin s m e) (fin t n d) h k u v =
    let A = multiple (fin s m e) in
    let B = multiple (fin t n d) in
    subst (λ (r : Float). Nearest r (unlike s t) (A * B) (2 ^ 2148))
    (sym (round_same binary64 (unlike s t) (m * up e * (n * up d)) (down e * down d) (A * B) (2 ^ 2148) (mul-pos (down_pos e) (down_pos d)) (pow_pos 2148)
    (square (m * up e) (n * up d) (down d) (down e) A B (2 ^ 1074) (multiple_exact s m e h) (multiple_exact t n d k))))
    (round_nearest (unlike s t) (A * B) (2 ^ 2148) (pow_pos 2148))

inf_mul : (s : Bool) (y : Float) → T (fits binary64 y) → T (finite y) → multiple y ≢ 0 → mul binary64 (inf s) y ≡ inf (unlike s (sign_of y))
unfolding mul
inf_mul s nan k v ne = absurd v
inf_mul s (inf t) k v ne = absurd v
inf_mul s (fin t zero d) k v ne = absurd (ne (zero_multiple t d))
inf_mul s (fin t (suc n) d) k v ne = ap (λ (b : Bool). cond b nan (inf (unlike s t))) (eqb-suc-zero n)

mul_inf : (x : Float) (s : Bool) → T (fits binary64 x) → T (finite x) → multiple x ≢ 0 → mul binary64 x (inf s) ≡ inf (unlike (sign_of x) s)
unfolding mul
mul_inf nan s h u ne = absurd u
mul_inf (inf t) s h u ne = absurd u
mul_inf (fin t zero e) s h u ne = absurd (ne (zero_multiple t e))
mul_inf (fin t (suc m) e) s h u ne = ap (λ (b : Bool). cond b nan (inf (unlike t s))) (eqb-suc-zero m)

inf_mul_inf : (s t : Bool) → mul binary64 (inf s) (inf t) ≡ inf (unlike s t)
unfolding mul
inf_mul_inf s t = refl

inf_mul_zero : (s : Bool) (y : Float) → T (fits binary64 y) → T (finite y) → multiple y ≡ 0 → mul binary64 (inf s) y ≡ nan
unfolding mul
inf_mul_zero s nan k v z = absurd v
inf_mul_zero s (inf t) k v z = absurd v
inf_mul_zero s (fin t zero d) k v z = refl
inf_mul_zero s (fin t (suc n) d) k v z = absurd (nonzero t n d k z)

zero_mul_inf : (x : Float) (s : Bool) → T (fits binary64 x) → T (finite x) → multiple x ≡ 0 → mul binary64 x (inf s) ≡ nan
unfolding mul
zero_mul_inf nan s h u z = absurd u
zero_mul_inf (inf t) s h u z = absurd u
zero_mul_inf (fin t zero e) s h u z = refl
zero_mul_inf (fin t (suc m) e) s h u z = absurd (nonzero t m e h z)

nan_mul : (y : Float) → mul binary64 nan y ≡ nan
unfolding mul
nan_mul y = refl

mul_nan : (x : Float) → mul binary64 x nan ≡ nan
unfolding mul
mul_nan nan = refl
mul_nan (inf s) = refl
mul_nan (fin s m e) = refl

pub mul_obeys : (x y : Float) → T (fits binary64 x) → T (fits binary64 y) → Product x y (mul binary64 x y)
mul_obeys x y h k = record {
  rounded = mul_rounded x y h k;
  left_infinite = λ s e v ne. ap (λ (z : Float). mul binary64 z y) e ∙ inf_mul s y k v ne;
  right_infinite = λ s u ne e. ap (λ (z : Float). mul binary64 x z) e ∙ mul_inf x s h u ne;
  both_infinite = λ s t e g. ap (λ (z : Float). mul binary64 z y) e ∙ ap (λ (z : Float). mul binary64 (inf s) z) g ∙ inf_mul_inf s t;
  zero_by_infinity = λ s u z e. ap (λ (w : Float). mul binary64 x w) e ∙ zero_mul_inf x s h u z;
  infinity_by_zero = λ s e v z. ap (λ (w : Float). mul binary64 w y) e ∙ inf_mul_zero s y k v z;
  left_nan = λ e. ap (λ (z : Float). mul binary64 z y) e ∙ nan_mul y;
  right_nan = λ e. ap (λ (z : Float). mul binary64 x z) e ∙ mul_nan x;
}

-- ---- `div`

-- the quotient of m * 2 ^ e and n * 2 ^ d is that of their multiples
cross : (a b d e A B U : ℕ) → 0 < U → A * e ≡ a * U → B * d ≡ b * U → a * d * B ≡ A * (b * e)
cross a b d e A B U h_u h k =
    let l : a * d * B * U ≡ a * U * (B * d) = simp (mul_assoc, mul_comm, mul_left_comm) in
    let r : A * e * (b * U) ≡ A * (b * e) * U = simp (mul_assoc, mul_comm, mul_left_comm) in
    eq_of_mul-eq-mul_right U h_u (a * d * B) (A * (b * e)) (l ∙ ap (λ (x : ℕ). x * (B * d)) (sym h) ∙ ap (λ (x : ℕ). A * e * x) k ∙ r)

div_rounded : (x y : Float) → T (fits binary64 x) → T (fits binary64 y) → T (finite x) → T (finite y) → multiple y ≢ 0
    → Nearest (div binary64 x y) (unlike (sign_of x) (sign_of y)) (multiple x) (multiple y)
unfolding div
div_rounded nan y h k u v ne = absurd u
div_rounded (inf s) y h k u v ne = absurd u
div_rounded (fin s m e) nan h k u v ne = absurd v
div_rounded (fin s m e) (inf t) h k u v ne = absurd v
div_rounded (fin s m e) (fin t zero d) h k u v ne = absurd (ne (zero_multiple t d))
div_rounded (fin s m e) (fin t (suc n) d) h k u v ne =
    let A = multiple (fin s m e) in
    let B = multiple (fin t (suc n) d) in
    let top = m * up e * down d in
    let bottom = suc n * up d * down e in
    let is : div binary64 (fin s m e) (fin t (suc n) d) ≡ round binary64 (unlike s t) A B =
    ap (λ (b : Bool). cond b (cond (eqb m 0) nan (inf (unlike s t))) (round binary64 (unlike s t) top bottom)) (eqb-suc-zero n)
    ∙ round_same binary64 (unlike s t) top bottom A B (mul-pos (mul-pos (zero-lt-suc n) (up_pos d)) (down_pos e)) (pos_of_ne-zero ne)
    (cross (m * up e) (suc n * up d) (down d) (down e) A B (2 ^ 1074) (pow_pos 1074) (multiple_exact s m e h) (multiple_exact t (suc n) d k)) in
    subst (λ (r : Float). Nearest r (unlike s t) A B) (sym is) (round_nearest (unlike s t) A B (pos_of_ne-zero ne))

div_zero : (x y : Float) → T (fits binary64 x) → T (fits binary64 y) → T (finite x) → T (finite y) → multiple x ≢ 0 → multiple y ≡ 0
    → div binary64 x y ≡ inf (unlike (sign_of x) (sign_of y))
unfolding div
div_zero nan y h k u v ne z = absurd u
div_zero (inf s) y h k u v ne z = absurd u
div_zero (fin s m e) nan h k u v ne z = absurd v
div_zero (fin s m e) (inf t) h k u v ne z = absurd v
div_zero (fin s zero e) (fin t n d) h k u v ne z = absurd (ne (zero_multiple s e))
div_zero (fin s (suc m) e) (fin t (suc n) d) h k u v ne z = absurd (nonzero t n d k z)
div_zero (fin s (suc m) e) (fin t zero d) h k u v ne z = ap (λ (b : Bool). cond b nan (inf (unlike s t))) (eqb-suc-zero m)

zero_div_zero : (x y : Float) → T (fits binary64 x) → T (fits binary64 y) → T (finite x) → T (finite y) → multiple x ≡ 0 → multiple y ≡ 0
    → div binary64 x y ≡ nan
unfolding div
zero_div_zero nan y h k u v w z = absurd u
zero_div_zero (inf s) y h k u v w z = absurd u
zero_div_zero (fin s m e) nan h k u v w z = absurd v
zero_div_zero (fin s m e) (inf t) h k u v w z = absurd v
zero_div_zero (fin s (suc m) e) (fin t n d) h k u v w z = absurd (nonzero s m e h w)
zero_div_zero (fin s zero e) (fin t (suc n) d) h k u v w z = absurd (nonzero t n d k z)
zero_div_zero (fin s zero e) (fin t zero d) h k u v w z = refl

inf_div_inf : (s t : Bool) → div binary64 (inf s) (inf t) ≡ nan
unfolding div
inf_div_inf s t = refl

inf_div : (s : Bool) (y : Float) → T (finite y) → div binary64 (inf s) y ≡ inf (unlike s (sign_of y))
unfolding div
inf_div s nan v = absurd v
inf_div s (inf t) v = absurd v
inf_div s (fin t n d) v = refl

div_inf : (x : Float) (s : Bool) → T (finite x) → div binary64 x (inf s) ≡ fin (unlike (sign_of x) s) 0 (pos 0)
unfolding div
div_inf nan s u = absurd u
div_inf (inf t) s u = absurd u
div_inf (fin t m e) s u = refl

nan_div : (y : Float) → div binary64 nan y ≡ nan
unfolding div
nan_div y = refl

div_nan : (x : Float) → div binary64 x nan ≡ nan
unfolding div
div_nan nan = refl
div_nan (inf s) = refl
div_nan (fin s m e) = refl

pub div_obeys : (x y : Float) → T (fits binary64 x) → T (fits binary64 y) → Quotient x y (div binary64 x y)
div_obeys x y h k = record {
  rounded = div_rounded x y h k;
  by_zero = div_zero x y h k;
  zero_by_zero = zero_div_zero x y h k;
  both_infinite = λ s t e g. ap (λ (z : Float). div binary64 z y) e ∙ ap (λ (z : Float). div binary64 (inf s) z) g ∙ inf_div_inf s t;
  left_infinite = λ s e v. ap (λ (z : Float). div binary64 z y) e ∙ inf_div s y v;
  right_infinite = λ s u e. ap (λ (z : Float). div binary64 x z) e ∙ div_inf x s u;
  left_nan = λ e. ap (λ (z : Float). div binary64 z y) e ∙ nan_div y;
  right_nan = λ e. ap (λ (z : Float). div binary64 x z) e ∙ div_nan x;
}
