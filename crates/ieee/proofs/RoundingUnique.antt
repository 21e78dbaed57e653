-- specs/Ieee754.antt forgets no case: its rule of rounding allows one result, `round`'s, and of two operands each of its four records allows one result.
use Rattle.std.proofs.Common.{◌≡◌, ℕ, ◌-◌, ◌*◌, ◌/◌, ◌%◌, ◌^◌, ◌<◌, Bool, T, ◌≢◌, ℤ, pos, ◌+ℤ◌, ◌-ℤ◌, nat_abs, sym, refl, ap, ◌∙◌, subst, inl, inr, le_antisymm, pos_of_ne-zero, arith, lit<, pow_pos}
use native.Mathlib.Decide.{ℕ_discrete}
use lib.IntN.{ℤ_discrete}
use lib.Ieee.{Float, nan, inf, fin, binary64, unlike, size, round, fits, to_bits}
use lib.Ieee.Scale.{finite, grid}
use Rattle.ieee.specs.Values.{multiple, sign_of, value_of}
use Rattle.ieee.specs.Ieee754.{apart, overflow_bound, Nearest, negative, Sum, Difference, Product, Quotient}
use Rattle.ieee.proofs.Fields.{same_value}
use Rattle.ieee.proofs.RoundingWhole.{gap, le_or_lt, grid_other}
use Rattle.ieee.proofs.RoundingSigned.{signed_abs}
use Rattle.ieee.proofs.RoundingNearest.{same_or_not, apart_like, apart_is, point, finite_is, last_digit, round_nearest}

-- another f64 as near as the rounded one has an odd last digit
other_odd : (num den : ℕ) → 0 < den → (y : Float) → T (fits binary64 y) → T (finite y)
    → gap (grid binary64 num den * den) (num * 2 ^ 1074) ≡ gap (multiple y * den) (num * 2 ^ 1074)
    → multiple y ≢ grid binary64 num den → to_bits binary64 y % 2 ≡ 1
other_odd num den D y h t e ne =
    let n = num * 2 ^ 1074 in
    let c = point y h t in
    last_digit y t
    ∙ ap (λ (z : ℕ). z / 2 ^ (size z - 53) % 2) c.3
    ∙ grid_other 53 n den c.0 c.1 (lit< tt) D c.2
    (subst (λ (z : ℕ). gap (grid binary64 num den * den) n ≡ gap (z * den) n) c.3 e)
    (λ (z : c.0 * 2 ^ c.1 ≡ grid binary64 num den). ne (c.3 ∙ z))

clash : (a : ℕ) → a ≡ 0 → a ≡ 1 → ⊥
clash a h g = omega arith

same_magnitude : (x y : Float) → value_of x ≡ value_of y → multiple x ≡ multiple y
same_magnitude x y e = sym (signed_abs (sign_of x) (multiple x)) ∙ ap nat_abs e ∙ signed_abs (sign_of y) (multiple y)

finite_unique : (x : Float) (s : Bool) (num den : ℕ) → 0 < den → Nearest x s num den → num < overflow_bound * den → x ≡ round binary64 s num den
finite_unique x s num den D N h = go (ℕ_discrete (multiple x) (multiple r))
  where
    r : Float
    r = round binary64 s num den

    R : Nearest r s num den
    R = round_nearest s num den D

    fx : T (finite x)
    fx = N.under h

    fr : T (finite r)
    fr = R.under h

    level : apart r s num den ≡ apart x s num den
    level = le_antisymm (R.nearest fr x N.in_format fx) (N.nearest fx r R.in_format fr)

    go : Dec (multiple x ≡ multiple r) → x ≡ r
    go (yes e) = same_value x r N.in_format R.in_format fx fr (N.sign ∙ sym R.sign) e
    go (no ne) =
        let v = finite_is s num den fr in
        absurd (clash (to_bits binary64 x % 2)
        (N.even fx r R.in_format fr (sym level) (λ (z : value_of r ≡ value_of x). ne (sym (same_magnitude r x z))))
        (other_odd num den D x N.in_format fx
        (sym (apart_is r s (grid binary64 num den) num den v) ∙ level ∙ apart_like x s num den N.sign)
        (λ (z : multiple x ≡ grid binary64 num den). ne (z ∙ sym v.its_multiple))))

pub nearest_unique : (x : Float) (s : Bool) (num den : ℕ) → 0 < den → Nearest x s num den → x ≡ round binary64 s num den
nearest_unique x s num den D N = elim (le_or_lt (overflow_bound * den) num) [
  | inl h ↦ N.over h ∙ sym ((round_nearest s num den D).over h)
  | inr h ↦ finite_unique x s num den D N h
]

both_nearest : (x y : Float) (s : Bool) (num den : ℕ) → 0 < den → Nearest x s num den → Nearest y s num den → x ≡ y
both_nearest x y s num den D N M = nearest_unique x s num den D N ∙ sym (nearest_unique y s num den D M)

-- ---- the operations

pub sum_unique : (x y r q : Float) → Sum x y r → Sum x y q → r ≡ q
sum_unique nan y r q S Q = S.left_nan refl ∙ sym (Q.left_nan refl)
sum_unique (inf s) nan r q S Q = S.right_nan refl ∙ sym (Q.right_nan refl)
sum_unique (inf s) (inf t) r q S Q = elim (same_or_not t s) [
  | inl e ↦ S.like_infinities s refl (ap inf e) ∙ sym (Q.like_infinities s refl (ap inf e))
  | inr e ↦ S.opposite_infinities s refl (ap inf e) ∙ sym (Q.opposite_infinities s refl (ap inf e))
]
sum_unique (inf s) (fin t n d) r q S Q = S.left_infinite s refl tt ∙ sym (Q.left_infinite s refl tt)
sum_unique (fin s m e) nan r q S Q = S.right_nan refl ∙ sym (Q.right_nan refl)
sum_unique (fin s m e) (inf t) r q S Q = S.right_infinite t tt refl ∙ sym (Q.right_infinite t tt refl)
sum_unique (fin s m e) (fin t n d) r q S Q = go (ℤ_discrete z (pos 0))
  where
    z : ℤ
    z = value_of (fin s m e) +ℤ value_of (fin t n d)

    go : Dec (z ≡ pos 0) → r ≡ q
    go (yes o) = S.exact_zero tt tt o ∙ sym (Q.exact_zero tt tt o)
    go (no o) = both_nearest r q (negative z) (nat_abs z) (2 ^ 1074) (pow_pos 1074) (S.rounded tt tt o) (Q.rounded tt tt o)

pub difference_unique : (x y r q : Float) → Difference x y r → Difference x y q → r ≡ q
difference_unique nan y r q S Q = S.left_nan refl ∙ sym (Q.left_nan refl)
difference_unique (inf s) nan r q S Q = S.right_nan refl ∙ sym (Q.right_nan refl)
difference_unique (inf s) (inf t) r q S Q = elim (same_or_not t s) [
  | inl e ↦ S.like_infinities s refl (ap inf e) ∙ sym (Q.like_infinities s refl (ap inf e))
  | inr e ↦ S.opposite_infinities s refl (ap inf e) ∙ sym (Q.opposite_infinities s refl (ap inf e))
]
difference_unique (inf s) (fin t n d) r q S Q = S.left_infinite s refl tt ∙ sym (Q.left_infinite s refl tt)
difference_unique (fin s m e) nan r q S Q = S.right_nan refl ∙ sym (Q.right_nan refl)
difference_unique (fin s m e) (inf t) r q S Q = S.right_infinite t tt refl ∙ sym (Q.right_infinite t tt refl)
difference_unique (fin s m e) (fin t n d) r q S Q = go (ℤ_discrete z (pos 0))
  where
    z : ℤ
    z = value_of (fin s m e) -ℤ value_of (fin t n d)

    go : Dec (z ≡ pos 0) → r ≡ q
    go (yes o) = S.exact_zero tt tt o ∙ sym (Q.exact_zero tt tt o)
    go (no o) = both_nearest r q (negative z) (nat_abs z) (2 ^ 1074) (pow_pos 1074) (S.rounded tt tt o) (Q.rounded tt tt o)

pub product_unique : (x y r q : Float) → Product x y r → Product x y q → r ≡ q
product_unique nan y r q S Q = S.left_nan refl ∙ sym (Q.left_nan refl)
product_unique (inf s) nan r q S Q = S.right_nan refl ∙ sym (Q.right_nan refl)
product_unique (inf s) (inf t) r q S Q = S.both_infinite s t refl refl ∙ sym (Q.both_infinite s t refl refl)
product_unique (inf s) (fin t n d) r q S Q = go (ℕ_discrete (multiple (fin t n d)) 0)
  where
    go : Dec (multiple (fin t n d) ≡ 0) → r ≡ q
    go (yes o) = S.infinity_by_zero s refl tt o ∙ sym (Q.infinity_by_zero s refl tt o)
    go (no o) = S.left_infinite s refl tt o ∙ sym (Q.left_infinite s refl tt o)
product_unique (fin s m e) nan r q S Q = S.right_nan refl ∙ sym (Q.right_nan refl)
product_unique (fin s m e) (inf t) r q S Q = go (ℕ_discrete (multiple (fin s m e)) 0)
  where
    go : Dec (multiple (fin s m e) ≡ 0) → r ≡ q
    go (yes o) = S.zero_by_infinity t tt o refl ∙ sym (Q.zero_by_infinity t tt o refl)
    go (no o) = S.right_infinite t tt o refl ∙ sym (Q.right_infinite t tt o refl)
product_unique (fin s m e) (fin t n d) r q S Q =
    both_nearest r q (unlike s t) (multiple (fin s m e) * multiple (fin t n d)) (2 ^ 2148) (pow_pos 2148) (S.rounded tt tt) (Q.rounded tt tt)

pub quotient_unique : (x y r q : Float) → Quotient x y r → Quotient x y q → r ≡ q
quotient_unique nan y r q S Q = S.left_nan refl ∙ sym (Q.left_nan refl)
quotient_unique (inf s) nan r q S Q = S.right_nan refl ∙ sym (Q.right_nan refl)
quotient_unique (inf s) (inf t) r q S Q = S.both_infinite s t refl refl ∙ sym (Q.both_infinite s t refl refl)
quotient_unique (inf s) (fin t n d) r q S Q = S.left_infinite s refl tt ∙ sym (Q.left_infinite s refl tt)
quotient_unique (fin s m e) nan r q S Q = S.right_nan refl ∙ sym (Q.right_nan refl)
quotient_unique (fin s m e) (inf t) r q S Q = S.right_infinite t tt refl ∙ sym (Q.right_infinite t tt refl)
quotient_unique (fin s m e) (fin t n d) r q S Q = go (ℕ_discrete (multiple (fin s m e)) 0) (ℕ_discrete (multiple (fin t n d)) 0)
  where
    A : ℕ
    A = multiple (fin s m e)

    B : ℕ
    B = multiple (fin t n d)

    go : Dec (A ≡ 0) → Dec (B ≡ 0) → r ≡ q
    go (yes o) (yes p) = S.zero_by_zero tt tt o p ∙ sym (Q.zero_by_zero tt tt o p)
    go (no o) (yes p) = S.by_zero tt tt o p ∙ sym (Q.by_zero tt tt o p)
    go a (no p) = both_nearest r q (unlike s t) A B (pos_of_ne-zero p) (S.rounded tt tt p) (Q.rounded tt tt p)
