-- Whole numbers with a sign, as `signed` writes them: their products, sums and differences, by the signs.
use Rattle.std.proofs.Common.{◌≡◌, ℕ, zero, suc, ◌+◌, ◌-◌, ◌*◌, ◌<◌, ◌≤◌, Bool, true, false, cond, not, T, ltb, ℤ, pos, negsuc, ◌+ℤ◌, ◌-ℤ◌, ◌*ℤ◌, neg_ℤ, nat_abs, sym, refl, ap, ◌∙◌, add-zero, zero-add, zero-mul, arith, ltb→lt, nltb→le}
use lib.IntN.{sub_ℕ, neg_ℤ-neg_ℤ, neg_ℤ-+ℤ}
use Rattle.ieee.specs.Values.{signed}
use Rattle.ieee.proofs.RoundingWhole.{gap}

pub signed_zero : (s : Bool) → signed s 0 ≡ pos 0
signed_zero false = refl
signed_zero true = refl

pub signed_abs : (s : Bool) (a : ℕ) → nat_abs (signed s a) ≡ a
signed_abs false a = refl
signed_abs true zero = refl
signed_abs true (suc a) = refl

pub signed_mul : (s : Bool) (a b : ℕ) → signed s a *ℤ pos b ≡ signed s (a * b)
signed_mul false a b = refl
signed_mul true zero b = ap (λ (x : ℕ). pos x) (zero-mul b) ∙ sym (ap (λ (x : ℕ). neg_ℤ (pos x)) (zero-mul b))
signed_mul true (suc a) b = refl

pub signed_neg : (s : Bool) (a : ℕ) → neg_ℤ (signed s a) ≡ signed (not s) a
signed_neg false a = refl
signed_neg true a = neg_ℤ-neg_ℤ (pos a)

-- ---- a - b, for two naturals

-- what a difference is, below zero and from zero on
pub sub_cases : (a b : ℕ) (P : ℤ → Type 0) → ((c : ℕ) → a < b → suc c ≡ b - a → P (negsuc c)) → (b ≤ a → P (pos (a - b))) → P (sub_ℕ a b)
sub_cases a b P f g = go (ltb a b) (ltb→lt a b) (nltb→le a b)
  where
    less : (a b : ℕ) → a < b → suc (b - suc a) ≡ b - a
    less a b h = omega arith

    go : (t : Bool) → (T t → a < b) → (T (not t) → b ≤ a) → P (cond t (negsuc (b - suc a)) (pos (a - b)))
    go true h k = f (b - suc a) (h tt) (less a b (h tt))
    go false h k = g (k tt)

pub sub_abs : (a b : ℕ) → nat_abs (sub_ℕ a b) ≡ gap a b
sub_abs a b = sub_cases a b (λ (z : ℤ). nat_abs z ≡ gap a b) (λ c h e. below a b c h e) (λ h. above a b h)
  where
    below : (a b c : ℕ) → a < b → suc c ≡ b - a → suc c ≡ gap a b
    below a b c h e = omega arith

    above : (a b : ℕ) → b ≤ a → a - b ≡ gap a b
    above a b h = omega arith

sub_zero : (a : ℕ) → pos a ≡ sub_ℕ a 0
sub_zero a = sub_cases a 0 (λ (z : ℤ). pos a ≡ z) (λ c h e. absurd (none a h)) (λ h. ap (λ (x : ℕ). pos x) (whole a))
  where
    none : (a : ℕ) → a < 0 → ⊥
    none a h = omega arith

    whole : (a : ℕ) → a ≡ a - 0
    whole a = omega arith

-- ---- sums

pub plus_minus : (a b : ℕ) → signed false a +ℤ signed true b ≡ sub_ℕ a b
plus_minus a zero = ap (λ (x : ℕ). pos x) (add-zero a) ∙ sub_zero a
plus_minus a (suc b) = refl

pub minus_plus : (a b : ℕ) → signed true a +ℤ signed false b ≡ sub_ℕ b a
minus_plus zero b = ap (λ (x : ℕ). pos x) (zero-add b) ∙ sub_zero b
minus_plus (suc a) b = refl

pub minus_minus : (a b : ℕ) → signed true a +ℤ signed true b ≡ signed true (a + b)
minus_minus a b = sym (neg_ℤ-+ℤ (pos a) (pos b))

pub like_sum : (s : Bool) (a b : ℕ) → signed s a +ℤ signed s b ≡ signed s (a + b)
like_sum false a b = refl
like_sum true a b = minus_minus a b

-- ---- differences

pub like_apart : (s : Bool) (a b : ℕ) → nat_abs (signed s a -ℤ signed s b) ≡ gap a b
like_apart false a b = ap nat_abs (plus_minus a b) ∙ sub_abs a b
like_apart true a b = ap (λ (z : ℤ). nat_abs (signed true a +ℤ z)) (signed_neg true b) ∙ ap nat_abs (minus_plus a b) ∙ sub_abs b a ∙ turn a b
  where
    turn : (a b : ℕ) → gap b a ≡ gap a b
    turn a b = omega arith

pub unlike_apart : (s : Bool) (a b : ℕ) → nat_abs (signed (not s) a -ℤ signed s b) ≡ a + b
unlike_apart s a b = ap (λ (z : ℤ). nat_abs (signed (not s) a +ℤ z)) (signed_neg s b) ∙ ap nat_abs (like_sum (not s) a b) ∙ signed_abs (not s) (a + b)
