-- What a comparison of two f64 says of their multiples of 2^-1074.
use Prim.Native.Nat.{ℕ, ◌*◌, ◌^◌, ◌≤◌, ◌<◌}
use native.Mathlib.Nat.{le_trans, le_of_eq, le_of_lt, mul-pos, one-mul, mul_right_comm, mul_assoc, mul_comm, mul-le-mul_right, le_of_mul-le-mul_right}
use native.Mathlib.Omega.{arith}
use mathlib.Core.Path.{◌≡◌, refl, sym, ap, ◌∙◌, subst}
use mathlib.Core.Bool.{Bool, true, false, ◌&&◌, ◌||◌}
use lib.Dec.{T, ltb, eqb, ltb→lt, eqb→eq}
use lib.IntN.{negsuc}
use lib.Ieee.{Float, nan, inf, fin, binary64, fits, up, down, of_bits, lt, eq, le, below, level}
use lib.Ieee.Fits.{down_pos, and_l, and_r}
use lib.Ieee.Scale.{finite}
use Rattle.ieee.specs.Values.{multiple, sign_of}
use Rattle.estimate.specs.Estimate.{least_margin}
use Rattle.ieee.proofs.RoundingGrid.{multiple_exact}

-- of ±b, which is not below a: a is at most b
not_below : (a : ℕ) (s : Bool) (b : ℕ) → T (below false a s b || level false a s b) → a ≤ b
not_below a false b h = go (ltb a b) (eqb a b) (ltb→lt a b) (eqb→eq a b) h
  where
    go : (p q : Bool) → (T p → a < b) → (T q → a ≡ b) → T (p || (q && true)) → a ≤ b
    go true q f g t = le_of_lt (f tt)
    go false true f g t = le_of_eq (g tt)
    go false false f g t = absurd t
not_below a true b h = le_of_eq (eqb→eq a b (and_l (eqb a b) (eqb a 0) h))

-- and it has no sign where a is not 0
clear_above : (a : ℕ) (s : Bool) (b : ℕ) → 0 < a → T (below false a s b || level false a s b) → s ≡ false
clear_above a false b p h = refl
clear_above a true b p h = absurd (none (eqb→eq a 0 (and_r (eqb a b) (eqb a 0) h)))
  where
    none : a ≡ 0 → ⊥
    none e = omega arith

cross : (x y u v k l U : ℕ) → 0 < k → 0 < l → x * k ≡ u * U → y * l ≡ v * U → u * l ≤ v * k → x ≤ y
cross x y u v k l U K L ex ey h =
    let a : u * l * U ≤ v * k * U = mul-le-mul_right U h in
    let b : x * k * l ≡ u * l * U = ap (λ (n : ℕ). n * l) ex ∙ mul_right_comm u U l in
    let c : y * l * k ≡ v * k * U = ap (λ (n : ℕ). n * k) ey ∙ mul_right_comm v U k in
    let d : x * (k * l) ≤ y * (k * l) =
    subst (λ (n : ℕ). n ≤ y * (k * l)) (mul_assoc x k l)
    (subst (λ (n : ℕ). x * k * l ≤ n) (ap (λ (n : ℕ). y * n) (mul_comm l k)) (subst (λ (n : ℕ). x * k * l ≤ n) (mul_assoc y l k) (le_trans (le_of_eq b)
    (le_trans a (le_of_eq (sym c)))))) in
    le_of_mul-le-mul_right d (mul-pos K L)

pub le_multiple : (x y : Float) → T (fits binary64 x) → T (fits binary64 y) → sign_of x ≡ false → T (finite x) → T (finite y) → T (le x y)
    → multiple x ≤ multiple y
unfolding le lt eq
le_multiple nan y fx fy s hx hy h = absurd hx
le_multiple (inf t) y fx fy s hx hy h = absurd hx
le_multiple (fin t m e) nan fx fy s hx hy h = absurd hy
le_multiple (fin t m e) (inf r) fx fy s hx hy h = absurd hy
le_multiple (fin t m e) (fin r n d) fx fy s hx hy h =
    let a = m * up e * down d in
    let b = n * up d * down e in
    cross _ _ (m * up e) (n * up d) (down e) (down d) (2 ^ 1074) (down_pos e) (down_pos d) (multiple_exact t m e fx) (multiple_exact r n d fy)
    (not_below a r b (subst (λ (q : Bool). T (below q a r b || level q a r b)) s h))

-- what is not below 2^-1000 is above zero
pub above_least : (y : Float) → T (finite y) → T (le least_margin y) → sign_of y ≡ false
unfolding le lt eq of_bits
above_least nan hy h = absurd hy
above_least (inf r) hy h = absurd hy
above_least (fin r n d) hy h = clear_above (1 * 1 * down d) r (n * up d * down (negsuc 999)) (subst (λ (k : ℕ). 0 < k) (sym (one-mul (down d))) (down_pos d)) h
