-- A sum and a product of two f64, by how far they are from the exact ones; and that a finite result has finite operands.
use Prim.Native.Nat.{ℕ, ◌+◌, ◌*◌, ◌^◌, ◌≤◌, ◌<◌}
use native.Mathlib.Omega.{arith}
use mathlib.Core.Path.{◌≡◌, refl, sym, ap, ap₂, ◌∙◌, subst}
use mathlib.Core.Bool.{Bool, true, false, cond}
use lib.Dec.{T, eqb}
use lib.Pow.{pow_pos}
use lib.IntN.{ℤ, pos, negsuc, nat_abs, ◌+ℤ◌, ◌-ℤ◌, ◌*ℤ◌, ℤ_discrete}
use lib.Ieee.{Float, nan, inf, fin, binary64, fits, add, mul, unlike}
use lib.Ieee.Scale.{finite, grid}
use Rattle.ieee.specs.Values.{multiple, sign_of, signed, value_of}
use Rattle.ieee.specs.Floats.{abs_of}
use Rattle.ieee.specs.Ieee754.{Nearest, negative, Sum}
use Rattle.ieee.proofs.RoundingWhole.{gap}
use Rattle.ieee.proofs.RoundingSigned.{signed_zero, signed_mul, like_apart}
use Rattle.ieee.proofs.RoundingNearest.{finite_is}
use Rattle.ieee.proofs.RoundingUnique.{nearest_unique}
use Rattle.ieee.proofs.RoundingSum.{add_obeys}
use Rattle.ieee.proofs.RoundingProduct.{mul_obeys}
use Rattle.exact.proofs.Terms.{unlike_product, like_product}
use Rattle.estimate.proofs.Grid.{unit_bound_lem}
use Rattle.estimate.specs.Rounding.{rounded_to, far, Added, Multiplied}
use Rattle.estimate.proofs.Rounded.{half_to, bound_scale}

-- ---- finite operands
pub add_left : (x y : Float) → T (finite (add binary64 x y)) → T (finite x)
unfolding add
add_left nan y h = h
add_left (inf s) nan h = h
add_left (inf false) (inf false) h = h
add_left (inf false) (inf true) h = h
add_left (inf true) (inf false) h = h
add_left (inf true) (inf true) h = h
add_left (inf s) (fin t n d) h = h
add_left (fin s m e) y h = tt

pub add_right : (x y : Float) → T (finite (add binary64 x y)) → T (finite y)
unfolding add
add_right nan y h = absurd h
add_right (inf s) nan h = h
add_right (inf false) (inf false) h = h
add_right (inf false) (inf true) h = h
add_right (inf true) (inf false) h = h
add_right (inf true) (inf true) h = h
add_right (inf s) (fin t n d) h = tt
add_right (fin s m e) nan h = h
add_right (fin s m e) (inf t) h = h
add_right (fin s m e) (fin t n d) h = tt

not_finite : (b : Bool) (s : Bool) → T (finite (cond b nan (inf s))) → ⊥
not_finite true s h = h
not_finite false s h = h

pub mul_left : (x y : Float) → T (finite (mul binary64 x y)) → T (finite x)
unfolding mul
mul_left nan y h = h
mul_left (inf s) nan h = h
mul_left (inf s) (inf t) h = h
mul_left (inf s) (fin t n d) h = absurd (not_finite (eqb n 0) (unlike s t) h)
mul_left (fin s m e) y h = tt

pub mul_right : (x y : Float) → T (finite (mul binary64 x y)) → T (finite y)
unfolding mul
mul_right nan y h = absurd h
mul_right (inf s) nan h = h
mul_right (inf s) (inf t) h = h
mul_right (inf s) (fin t n d) h = tt
mul_right (fin s m e) nan h = h
mul_right (fin s m e) (inf t) h = absurd (not_finite (eqb m 0) (unlike s t) h)
mul_right (fin s m e) (fin t n d) h = tt

pub abs_finite : (x : Float) → T (finite (abs_of x)) → T (finite x)
abs_finite nan h = h
abs_finite (inf s) h = h
abs_finite (fin s m e) h = tt

-- ---- what a rounded result is
by_sign : (v : ℤ) → v ≡ signed (negative v) (nat_abs v)
by_sign (pos n) = refl
by_sign (negsuc n) = refl

nearest_is : (r : Float) (s : Bool) (num den : ℕ) → 0 < den → Nearest r s num den → T (finite r) → multiple r ≡ grid binary64 num den
nearest_is r s num den D N h =
    let e = nearest_unique r s num den D N in
    ap multiple e ∙ (finite_is s num den (subst (λ (x : Float). T (finite x)) e h)).its_multiple

-- ---- a sum, by magnitudes: r lies on the side of v, so they are as far apart as their magnitudes
pub record AddedSize (r : Float) (v : ℤ) : Type 0 where
  pub is : multiple r ≡ rounded_to (nat_abs v)
  pub away : far (value_of r) v ≡ gap (multiple r) (nat_abs v)

nothing : rounded_to 0 ≡ 0
nothing = none (rounded_to 0) (half_to 0)
  where
    none : (r : ℕ) → 2 ^ 53 * gap r 0 ≤ r + 2 ^ 52 → r ≡ 0
    none r h = omega arith

added_size : (x y : Float) → T (fits binary64 x) → T (fits binary64 y) → T (finite (add binary64 x y))
    → AddedSize (add binary64 x y) (value_of x +ℤ value_of y)
added_size x y fx fy h = go (ℤ_discrete v (pos 0))
  where
    r : Float
    r = add binary64 x y

    v : ℤ
    v = value_of x +ℤ value_of y

    tx : T (finite x)
    tx = add_left x y h

    ty : T (finite y)
    ty = add_right x y h

    S : Sum x y r
    S = add_obeys x y fx fy

    go : Dec (v ≡ pos 0) → AddedSize r v
    go (yes e) =
        let z = S.exact_zero tx ty e in
        let m : multiple r ≡ 0 = ap multiple z in
        let value : value_of r ≡ pos 0 = ap (λ (n : ℕ). signed (sign_of r) n) m ∙ signed_zero (sign_of r) in
        record {
          is = m ∙ sym (ap (λ (w : ℤ). rounded_to (nat_abs w)) e ∙ nothing);
          away = ap₂ (λ (a b : ℤ). nat_abs (a -ℤ b)) value e ∙ sym (ap₂ (λ (a : ℕ) (b : ℤ). gap a (nat_abs b)) m e);
        }
    go (no ne) =
        let N = S.rounded tx ty ne in
        record {
          is = nearest_is r (negative v) (nat_abs v) (2 ^ 1074) (pow_pos 1074) N h;
          away =
              ap₂ (λ (a b : ℤ). nat_abs (a -ℤ b)) (ap (λ (s : Bool). signed s (multiple r)) N.sign) (by_sign v)
              ∙ like_apart (negative v) (multiple r) (nat_abs v);
        }

-- what was rounded lies within the bound of the result's magnitude
pub added_half : (x y : Float) → T (fits binary64 x) → T (fits binary64 y) → T (finite (add binary64 x y))
    → 2 ^ 53 * gap (multiple (add binary64 x y)) (nat_abs (value_of x +ℤ value_of y)) ≤ multiple (add binary64 x y) + 2 ^ 52
added_half x y fx fy h =
    let w = nat_abs (value_of x +ℤ value_of y) in
    subst (λ (r : ℕ). 2 ^ 53 * gap r w ≤ r + 2 ^ 52) (sym (added_size x y fx fy h).is) (half_to w)

pub added : (x y : Float) → T (fits binary64 x) → T (fits binary64 y) → T (finite (add binary64 x y)) → Added (add binary64 x y) (value_of x +ℤ value_of y)
added x y fx fy h =
    let r = add binary64 x y in
    let s = added_size x y fx fy h in
    record { is = s.is; half = subst (λ (d : ℕ). 2 ^ 53 * d ≤ multiple r + 2 ^ 52) (sym s.away) (added_half x y fx fy h) }

-- ---- a product, likewise
pub record MultipliedSize (r : Float) (v : ℤ) (m : ℕ) : Type 0 where
  pub away : far (value_of r *ℤ pos (2 ^ 1074)) v ≡ gap (multiple r * 2 ^ 1074) m
  pub half : 2 ^ 53 * gap (multiple r * 2 ^ 1074) m ≤ multiple r * 2 ^ 1074 + 2 ^ 52 * 2 ^ 1074

signed_product : (s t : Bool) (m n : ℕ) → signed s m *ℤ signed t n ≡ signed (unlike s t) (m * n)
signed_product false false m n = like_product false m n
signed_product false true m n = like_product true m n
signed_product true false m n = unlike_product false m n
signed_product true true m n = unlike_product true m n

pub multiplied_size : (x y : Float) → T (fits binary64 x) → T (fits binary64 y) → T (finite (mul binary64 x y))
    → MultipliedSize (mul binary64 x y) (value_of x *ℤ value_of y) (multiple x * multiple y)
multiplied_size x y fx fy h =
    let r = mul binary64 x y in
    let m = multiple x * multiple y in
    let s = unlike (sign_of x) (sign_of y) in
    let N = (mul_obeys x y fx fy).rounded (mul_left x y h) (mul_right x y h) in
    let is = nearest_is r s m (2 ^ 2148) (pow_pos 2148) N h in
    record {
      away =
          ap₂ (λ (a b : ℤ). nat_abs (a -ℤ b))
          (signed_mul (sign_of r) (multiple r) (2 ^ 1074) ∙ ap (λ (t : Bool). signed t (multiple r * 2 ^ 1074)) N.sign)
          (signed_product (sign_of x) (sign_of y) (multiple x) (multiple y))
          ∙ like_apart s (multiple r * 2 ^ 1074) m;
      half =
          bound_scale (multiple r) m (2 ^ 1074) (2 ^ 1074) (pow_pos 1074)
          (subst (λ (q : ℕ). 2 ^ 53 * gap (q * 2 ^ 2148) (m * 2 ^ 1074) ≤ q * 2 ^ 2148 + 2 ^ 52 * 2 ^ 2148) (sym is) (unit_bound_lem (m * 2 ^ 1074) (2 ^ 2148)
          (pow_pos 2148)));
    }

pub multiplied : (x y : Float) → T (fits binary64 x) → T (fits binary64 y) → T (finite (mul binary64 x y))
    → Multiplied (mul binary64 x y) (value_of x *ℤ value_of y)
multiplied x y fx fy h =
    let r = mul binary64 x y in
    let s = multiplied_size x y fx fy h in
    record { half = subst (λ (d : ℕ). 2 ^ 53 * d ≤ multiple r * 2 ^ 1074 + 2 ^ 52 * 2 ^ 1074) (sym s.away) s.half }
