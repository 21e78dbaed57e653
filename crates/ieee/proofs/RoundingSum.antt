-- The kit's `add` and `sub` on f64 are the sum and the difference of specs/Ieee754.antt, at every operand that is an f64.
use Rattle.std.proofs.Common.{◌≡◌, ℕ, zero, suc, ◌+◌, ◌-◌, ◌*◌, ◌^◌, ◌<◌, ◌≤◌, Bool, true, false, cond, not, ◌&&◌, T, ltb, ◌≢◌, ℤ, pos, negsuc, ◌+ℤ◌, ◌-ℤ◌, neg_ℤ, nat_abs, sym, refl, ap, ◌∙◌, subst, mul_assoc, mul_comm, add-mul, lt_of_mul-lt-mul_right, mul-lt-mul_of_pos_right, mul-pos, mul_right_comm, arith, ltb→lt, lt→ltb, nltb→le, pow_pos}
use native.Mathlib.Nat.{mul-sub}
use mathlib.Core.Bool.{beq}
use lib.Ieee.{Float, nan, inf, fin, binary64, up, down, fits, round, sum, add, sub, neg}
use lib.Ieee.Fits.{down_pos, neg-fits}
use lib.Ieee.Scale.{finite, round_same}
use Rattle.ieee.specs.Values.{multiple, sign_of, signed, value_of}
use Rattle.ieee.specs.Ieee754.{Nearest, negative, Sum, Difference}
use Rattle.ieee.proofs.Zero.{round_zero}
use Rattle.ieee.proofs.RoundingGrid.{multiple_exact}
use Rattle.ieee.proofs.RoundingWhole.{gap}
use Rattle.ieee.proofs.RoundingSigned.{signed_abs, signed_neg, plus_minus, minus_plus, minus_minus, sub_abs}
use Rattle.ieee.proofs.RoundingNearest.{round_nearest}

-- ---- `sum` sees only the values of its two fractions

same_test : (a b : Bool) → (T a → T b) → (T b → T a) → a ≡ b
same_test true true p q = refl
same_test true false p q = absurd (p tt)
same_test false true p q = absurd (q tt)
same_test false false p q = refl

less_same : (a b c A B C : ℕ) → 0 < c → 0 < C → a * C ≡ A * c → b * C ≡ B * c → ltb a b ≡ ltb A B
less_same a b c A B C hc hC e g = same_test (ltb a b) (ltb A B)
    (λ t. lt→ltb A B (lt_of_mul-lt-mul_right c (subst (λ (x : ℕ). x < B * c) e (subst (λ (x : ℕ). a * C < x) g (mul-lt-mul_of_pos_right (ltb→lt a b t) hC)))))
    (λ t. lt→ltb a b (lt_of_mul-lt-mul_right C (subst (λ (x : ℕ). x < b * C) (sym e)
    (subst (λ (x : ℕ). A * c < x) (sym g) (mul-lt-mul_of_pos_right (ltb→lt A B t) hc)))))

sub_mul : (a b c : ℕ) → (a - b) * c ≡ a * c - b * c
sub_mul a b c = mul_comm (a - b) c ∙ mul-sub c a b ∙ ap (λ (x : ℕ). x - c * b) (mul_comm c a) ∙ ap (λ (x : ℕ). a * c - x) (mul_comm c b)

sub_same : (a b c A B C : ℕ) → a * C ≡ A * c → b * C ≡ B * c → (a - b) * C ≡ (A - B) * c
sub_same a b c A B C e g = sub_mul a b C ∙ ap (λ (x : ℕ). x - b * C) e ∙ ap (λ (x : ℕ). A * c - x) g ∙ sym (sub_mul A B c)

add_same : (a b c A B C : ℕ) → a * C ≡ A * c → b * C ≡ B * c → (a + b) * C ≡ (A + B) * c
add_same a b c A B C e g = add-mul a b C ∙ ap (λ (x : ℕ). x + b * C) e ∙ ap (λ (x : ℕ). A * c + x) g ∙ sym (add-mul A B c)

sum_same : (s : Bool) (a : ℕ) (t : Bool) (b c A B C : ℕ) → 0 < c → 0 < C → a * C ≡ A * c → b * C ≡ B * c → sum binary64 s a t b c ≡ sum binary64 s A t B C
unfolding sum
sum_same s a t b c A B C hc hC e g =
    ap (λ (x : Bool). cond (beq s t) (round binary64 s (a + b) c) (cond x (round binary64 t (b - a) c) (round binary64 (s && ltb b a) (a - b) c)))
    (less_same a b c A B C hc hC e g)
    ∙ ap (λ (x : Bool). cond (beq s t) (round binary64 s (a + b) c) (cond (ltb A B) (round binary64 t (b - a) c) (round binary64 (s && x) (a - b) c)))
    (less_same b a c B A C hc hC g e)
    ∙ ap (λ (x : Float). cond (beq s t) x (cond (ltb A B) (round binary64 t (b - a) c) (round binary64 (s && ltb B A) (a - b) c)))
    (round_same binary64 s (a + b) c (A + B) C hc hC (add_same a b c A B C e g))
    ∙ ap (λ (x : Float). cond (beq s t) (round binary64 s (A + B) C) (cond (ltb A B) x (round binary64 (s && ltb B A) (a - b) c)))
    (round_same binary64 t (b - a) c (B - A) C hc hC (sub_same b a c B A C g e))
    ∙ ap (λ (x : Float). cond (beq s t) (round binary64 s (A + B) C) (cond (ltb A B) (round binary64 t (B - A) C) x))
    (round_same binary64 (s && ltb B A) (a - b) c (A - B) C hc hC (sub_same a b c A B C e g))

-- ---- a sum of two whole multiples of 2 ^ -1074

abbrev Rounds : Float → ℤ → Type 0
Rounds r z = z ≢ pos 0 → Nearest r (negative z) (nat_abs z) (2 ^ 1074)

negated : (c : ℕ) → Rounds (round binary64 true c (2 ^ 1074)) (signed true c)
negated zero ne = absurd (ne refl)
negated (suc c) ne = round_nearest true (suc c) (2 ^ 1074) (pow_pos 1074)

below_is : (a b : ℕ) → a < b → b - a ≡ suc (b - suc a)
below_is a b h = omega arith

level_is : (a b : ℕ) → a ≤ b → b ≤ a → b - a ≡ 0
level_is a b h g = omega arith

no_two : (a b : ℕ) → a < b → b < a → ⊥
no_two a b h g = omega arith

lower : (a b : ℕ) → a < b → Nearest (round binary64 true (b - a) (2 ^ 1074)) true (suc (b - suc a)) (2 ^ 1074)
lower a b h =
    subst (λ (x : ℕ). Nearest (round binary64 true x (2 ^ 1074)) true (suc (b - suc a)) (2 ^ 1074)) (sym (below_is a b h))
    (round_nearest true (suc (b - suc a)) (2 ^ 1074) (pow_pos 1074))

sum_rounds : (s : Bool) (a : ℕ) (t : Bool) (b : ℕ) → Rounds (sum binary64 s a t b (2 ^ 1074)) (signed s a +ℤ signed t b)
unfolding sum
sum_rounds false a false b = λ ne. round_nearest false (a + b) (2 ^ 1074) (pow_pos 1074)
sum_rounds true a true b = subst (λ (z : ℤ). Rounds (round binary64 true (a + b) (2 ^ 1074)) z) (sym (minus_minus a b)) (negated (a + b))
sum_rounds false a true b = subst (λ (z : ℤ). Rounds (sum binary64 false a true b (2 ^ 1074)) z) (sym (plus_minus a b)) (go (ltb a b) (ltb→lt a b))
  where
    go : (x : Bool) → (T x → a < b)
        → Rounds (cond x (round binary64 true (b - a) (2 ^ 1074)) (round binary64 false (a - b) (2 ^ 1074))) (cond x (negsuc (b - suc a)) (pos (a - b)))
    go true h ne = lower a b (h tt)
    go false h ne = round_nearest false (a - b) (2 ^ 1074) (pow_pos 1074)
sum_rounds true a false b =
    subst (λ (z : ℤ). Rounds (sum binary64 true a false b (2 ^ 1074)) z) (sym (minus_plus a b))
    (go (ltb a b) (ltb b a) (ltb→lt a b) (nltb→le a b) (ltb→lt b a) (nltb→le b a))
  where
    go : (x y : Bool) → (T x → a < b) → (T (not x) → b ≤ a) → (T y → b < a) → (T (not y) → a ≤ b)
        → Rounds (cond x (round binary64 false (b - a) (2 ^ 1074)) (round binary64 y (a - b) (2 ^ 1074))) (cond y (negsuc (a - suc b)) (pos (b - a)))
    go true true h k m n ne = absurd (no_two a b (h tt) (m tt))
    go true false h k m n ne = round_nearest false (b - a) (2 ^ 1074) (pow_pos 1074)
    go false true h k m n ne = lower b a (m tt)
    go false false h k m n ne = absurd (ne (ap pos (level_is a b (n tt) (k tt))))

rounds_zero : (s : Bool) (a : ℕ) → a ≡ 0 → round binary64 s a (2 ^ 1074) ≡ fin s 0 (pos 0)
rounds_zero s a h = ap (λ (x : ℕ). round binary64 s x (2 ^ 1074)) h ∙ round_zero s (2 ^ 1074) (pow_pos 1074)

gap_zero : (a b : ℕ) → gap a b ≡ 0 → a - b ≡ 0
gap_zero a b h = omega arith

gap_level : (a b : ℕ) → gap a b ≡ 0 → a < b → ⊥
gap_level a b h l = omega arith

gap_back : (a b : ℕ) → gap a b ≡ 0 → b < a → ⊥
gap_back a b h l = omega arith

sum_zero : (s : Bool) (a : ℕ) (t : Bool) (b : ℕ) → signed s a +ℤ signed t b ≡ pos 0 → sum binary64 s a t b (2 ^ 1074) ≡ fin (s && t) 0 (pos 0)
unfolding sum
sum_zero false a false b e = rounds_zero false (a + b) (ap nat_abs e)
sum_zero true a true b e = rounds_zero true (a + b) (sym (signed_abs true (a + b)) ∙ ap nat_abs (sym (minus_minus a b) ∙ e))
sum_zero false a true b e = go (ltb a b) (ltb→lt a b) (sym (sub_abs a b) ∙ ap nat_abs (sym (plus_minus a b) ∙ e))
  where
    go : (x : Bool) → (T x → a < b) → gap a b ≡ 0
        → cond x (round binary64 true (b - a) (2 ^ 1074)) (round binary64 false (a - b) (2 ^ 1074)) ≡ fin false 0 (pos 0)
    go true h g = absurd (gap_level a b g (h tt))
    go false h g = rounds_zero false (a - b) (gap_zero a b g)
sum_zero true a false b e = go (ltb a b) (ltb b a) (ltb→lt a b) (ltb→lt b a) (sym (sub_abs b a) ∙ ap nat_abs (sym (minus_plus a b) ∙ e))
  where
    go : (x y : Bool) → (T x → a < b) → (T y → b < a) → gap b a ≡ 0
        → cond x (round binary64 false (b - a) (2 ^ 1074)) (round binary64 y (a - b) (2 ^ 1074)) ≡ fin false 0 (pos 0)
    go true y h k g = absurd (gap_back b a g (h tt))
    go false true h k g = absurd (gap_level b a g (k tt))
    go false false h k g = rounds_zero false (a - b) (gap_turned a b g)
      where
        gap_turned : (a b : ℕ) → gap b a ≡ 0 → a - b ≡ 0
        gap_turned a b h = omega arith

-- ---- `add`

-- m * 2 ^ e over the sum's denominator is the multiple over 2 ^ 1074
left_over : (a d e A U : ℕ) → A * e ≡ a * U → a * d * U ≡ A * (e * d)
left_over a d e A U h = mul_right_comm a d U ∙ ap (λ (x : ℕ). x * d) (sym h) ∙ mul_assoc A e d

right_over : (b d e B U : ℕ) → B * d ≡ b * U → b * e * U ≡ B * (e * d)
right_over b d e B U h = mul_right_comm b e U ∙ ap (λ (x : ℕ). x * e) (sym h) ∙ mul_assoc B d e ∙ ap (λ (x : ℕ). B * x) (mul_comm d e)

-- the sum of two finite f64, over 2 ^ 1074
add_is : (s : Bool) (m : ℕ) (e : ℤ) (t : Bool) (n : ℕ) (d : ℤ) → T (fits binary64 (fin s m e)) → T (fits binary64 (fin t n d))
    → add binary64 (fin s m e) (fin t n d) ≡ sum binary64 s (multiple (fin s m e)) t (multiple (fin t n d)) (2 ^ 1074)
unfolding add
add_is s m e t n d h k =
    sum_same s (m * up e * down d) t (n * up d * down e) (down e * down d) (multiple (fin s m e)) (multiple (fin t n d)) (2 ^ 1074)
    (mul-pos (down_pos e) (down_pos d)) (pow_pos 1074)
    (left_over (m * up e) (down d) (down e) (multiple (fin s m e)) (2 ^ 1074) (multiple_exact s m e h))
    (right_over (n * up d) (down d) (down e) (multiple (fin t n d)) (2 ^ 1074) (multiple_exact t n d k))

add_rounded : (x y : Float) → T (fits binary64 x) → T (fits binary64 y) → T (finite x) → T (finite y) → Rounds (add binary64 x y) (value_of x +ℤ value_of y)
add_rounded nan y h k u v = absurd u
add_rounded (inf s) y h k u v = absurd u
add_rounded (fin s m e) nan h k u v = absurd v
add_rounded (fin s m e) (inf t) h k u v = absurd v
add_rounded (fin s m e) (fin t n d) h k u v =
    subst (λ (r : Float). Rounds r (value_of (fin s m e) +ℤ value_of (fin t n d))) (sym (add_is s m e t n d h k))
    (sum_rounds s (multiple (fin s m e)) t (multiple (fin t n d)))

add_zero_sum : (x y : Float) → T (fits binary64 x) → T (fits binary64 y) → T (finite x) → T (finite y) → value_of x +ℤ value_of y ≡ pos 0
    → add binary64 x y ≡ fin (sign_of x && sign_of y) 0 (pos 0)
add_zero_sum nan y h k u v z = absurd u
add_zero_sum (inf s) y h k u v z = absurd u
add_zero_sum (fin s m e) nan h k u v z = absurd v
add_zero_sum (fin s m e) (inf t) h k u v z = absurd v
add_zero_sum (fin s m e) (fin t n d) h k u v z = add_is s m e t n d h k ∙ sum_zero s (multiple (fin s m e)) t (multiple (fin t n d)) z

-- an operand that is not finite
inf_add : (s : Bool) (y : Float) → T (finite y) → add binary64 (inf s) y ≡ inf s
unfolding add
inf_add s nan v = absurd v
inf_add s (inf t) v = absurd v
inf_add s (fin t n d) v = refl

add_inf : (x : Float) (s : Bool) → T (finite x) → add binary64 x (inf s) ≡ inf s
unfolding add
add_inf nan s u = absurd u
add_inf (inf t) s u = absurd u
add_inf (fin t m e) s u = refl

inf_inf : (s : Bool) → add binary64 (inf s) (inf s) ≡ inf s
unfolding add
inf_inf false = refl
inf_inf true = refl

inf_not : (s : Bool) → add binary64 (inf s) (inf (not s)) ≡ nan
unfolding add
inf_not false = refl
inf_not true = refl

nan_add : (y : Float) → add binary64 nan y ≡ nan
unfolding add
nan_add y = refl

pub add_nan : (x : Float) → add binary64 x nan ≡ nan
unfolding add
add_nan nan = refl
add_nan (inf s) = refl
add_nan (fin s m e) = refl

pub add_obeys : (x y : Float) → T (fits binary64 x) → T (fits binary64 y) → Sum x y (add binary64 x y)
add_obeys x y h k = record {
  rounded = add_rounded x y h k;
  exact_zero = add_zero_sum x y h k;
  left_infinite = λ s e v. ap (λ (z : Float). add binary64 z y) e ∙ inf_add s y v;
  right_infinite = λ s u e. ap (λ (z : Float). add binary64 x z) e ∙ add_inf x s u;
  like_infinities = λ s e g. ap (λ (z : Float). add binary64 z y) e ∙ ap (λ (z : Float). add binary64 (inf s) z) g ∙ inf_inf s;
  opposite_infinities = λ s e g. ap (λ (z : Float). add binary64 z y) e ∙ ap (λ (z : Float). add binary64 (inf s) z) g ∙ inf_not s;
  left_nan = λ e. ap (λ (z : Float). add binary64 z y) e ∙ nan_add y;
  right_nan = λ e. ap (λ (z : Float). add binary64 x z) e ∙ add_nan x;
}

-- ---- `sub`: x - y is x + (-y)

sub_is : (x y : Float) → sub binary64 x y ≡ add binary64 x (neg y)
unfolding sub
sub_is x y = refl

neg_finite : (y : Float) → T (finite y) → T (finite (neg y))
unfolding neg
neg_finite nan v = v
neg_finite (inf t) v = v
neg_finite (fin t n d) v = tt

pub neg_value : (y : Float) → value_of (neg y) ≡ neg_ℤ (value_of y)
unfolding neg
neg_value nan = refl
neg_value (inf t) = sym (signed_neg t 0)
neg_value (fin t n d) = sym (signed_neg t (multiple (fin t n d)))

neg_sign : (y : Float) → T (finite y) → sign_of (neg y) ≡ not (sign_of y)
unfolding neg
neg_sign nan v = absurd v
neg_sign (inf t) v = absurd v
neg_sign (fin t n d) v = refl

neg_inf : (s : Bool) → neg (inf s) ≡ inf (not s)
unfolding neg
neg_inf s = refl

neg_nan : neg nan ≡ nan
unfolding neg
neg_nan = refl

not_not : (s : Bool) → not (not s) ≡ s
not_not false = refl
not_not true = refl

pub sub_obeys : (x y : Float) → T (fits binary64 x) → T (fits binary64 y) → Difference x y (sub binary64 x y)
sub_obeys x y h k =
    let S = add_obeys x (neg y) h (neg-fits binary64 y k) in
    let turned : value_of x +ℤ value_of (neg y) ≡ value_of x -ℤ value_of y = ap (λ (z : ℤ). value_of x +ℤ z) (neg_value y) in
    subst (λ (r : Float). Difference x y r) (sym (sub_is x y)) (record {
      rounded = λ u v. subst (λ (z : ℤ). Rounds (add binary64 x (neg y)) z) turned (S.rounded u (neg_finite y v));
      exact_zero = λ u v e. S.exact_zero u (neg_finite y v) (turned ∙ e) ∙ ap (λ (b : Bool). fin (sign_of x && b) 0 (pos 0)) (neg_sign y v);
      left_infinite = λ s e v. S.left_infinite s e (neg_finite y v);
      right_infinite = λ s u e. S.right_infinite (not s) u (ap neg e ∙ neg_inf s);
      opposite_infinities = λ s e g. S.like_infinities s e (ap neg g ∙ neg_inf (not s) ∙ ap inf (not_not s));
      like_infinities = λ s e g. S.opposite_infinities s e (ap neg g ∙ neg_inf s);
      left_nan = λ e. S.left_nan e;
      right_nan = λ e. S.right_nan (ap neg e ∙ neg_nan);
    })
