-- Numbers and infinities with a clear sign in their order, and that the root keeps it.
use Rattle.std.proofs.Common.{◌≡◌, ℕ, zero, suc, ◌+◌, ◌*◌, ◌^◌, ◌<◌, ◌≤◌, Bool, true, false, cond, ◌&&◌, ◌||◌, T, eqb, ltb, ℤ, sym, refl, ap, ◌∙◌, subst, true≢false, le_trans, le_of_eq, mul-le-mul_right, zero-lt-suc, le_antisymm, mul-lt-mul_of_pos_right, mul-pos, zero-mul, mul_right_comm, arith, lit<, eqb→eq, pow_pos, ltb-false, ltb-true, le-ltb}
use lib.Ieee.{Float, inf, fin, binary64, fits, up, down, lt, eq, le}
use lib.Ieee.Exact.{HasValue}
use lib.Ieee.Fits.{up_pos, down_pos, and_l, round-fits}
use lib.Ieee.Nearest.{div_mono}
use lib.Ieee.Order.{round_mono}
use Rattle.ieee.specs.Floats.{max_of}
use Rattle.ieee.specs.Root.{whole_root, root_of, sqrt_of}
use Rattle.ieee.specs.Values.{multiple, Signed, infinite, number}
use Rattle.ieee.proofs.Own.{multiple_under, round_own}
use Rattle.ieee.proofs.Signs.{round_signed, root_clear}
use Rattle.ieee.proofs.WholeRoot.{root_lt, whole_root_le, whole_root_lt}

-- ---- the order of such numbers: that y is not below x
not_below_infinity : (x : Float) → Signed false x → lt (inf false) x ≡ false
unfolding lt
not_below_infinity x infinite = refl
not_below_infinity x (number m e) = refl

not_below_zero_lem : (y : Float) (e : ℤ) → Signed false y → lt y (fin false 0 e) ≡ false
unfolding lt
not_below_zero_lem y e infinite = refl
not_below_zero_lem y e (number n d) =
    let z : 0 * up e * down d ≡ 0 = ap (λ (k : ℕ). k * down d) (zero-mul (up e)) ∙ zero-mul (down d) in
    le-ltb (n * up d * down e) (0 * up e * down d) (omega arith)

pub none_below_zero : (m : ℕ) (e d : ℤ) → lt (fin false 0 d) (fin false (suc m) e) ≡ false → ⊥
unfolding lt
none_below_zero m e d h =
    let l : suc m * up e * down d ≤ 0 * up d * down e = ltb-false (0 * up d * down e) (suc m * up e * down d) h in
    let p : 0 < suc m * up e * down d = mul-pos (mul-pos (zero-lt-suc m) (up_pos e)) (down_pos d) in
    let z : 0 * up d * down e ≡ 0 = ap (λ (k : ℕ). k * down e) (zero-mul (up d)) ∙ zero-mul (down e) in
    omega arith

at_most : (a b : ℕ) → T (ltb a b || (eqb a b && true)) → a ≤ b
at_most a b t = go (ltb a b) refl t
  where
    go : (c : Bool) → ltb a b ≡ c → T (c || (eqb a b && true)) → a ≤ b
    go true e t = let l = ltb-true a b e in omega arith
    go false e t = let l = eqb→eq a b (and_l (eqb a b) true t) in omega arith

pub not_below : (x y : Float) → Signed false x → Signed false y → T (le x y) → lt y x ≡ false
unfolding lt le eq
not_below x y cx infinite t = not_below_infinity x cx
not_below x y infinite (number n d) t = absurd t
not_below x y (number m e) (number n d) t =
    le-ltb (n * up d * down e) (m * up e * down d) (at_most (m * up e * down d) (n * up d * down e) t)

-- two of which neither is below the other are one
same_of_both : (x y : Float) → Signed false x → Signed false y → T (fits binary64 x) → T (fits binary64 y) → lt x y ≡ false → lt y x ≡ false → x ≡ y
unfolding lt
same_of_both x y infinite infinite f g h k = refl
same_of_both x y infinite (number n d) f g h k = absurd (true≢false k)
same_of_both x y (number m e) infinite f g h k = absurd (true≢false h)
same_of_both x y (number m e) (number n d) f g h k =
    let a : n * up d * down e ≤ m * up e * down d = ltb-false (m * up e * down d) (n * up d * down e) h in
    let b : m * up e * down d ≤ n * up d * down e = ltb-false (n * up d * down e) (m * up e * down d) k in
    let v : HasValue y false (m * up e) (down e) = (refl, le_antisymm a b) in
    sym (round_own x false (m * up e) (down e) f (down_pos e) (refl, refl)) ∙ round_own y false (m * up e) (down e) g (down_pos e) v

one_way : (x y : Float) → Signed false x → Signed false y → lt x y ≡ true → lt y x ≡ false
unfolding lt
one_way x y infinite infinite h = refl
one_way x y infinite (number n d) h = absurd (true≢false (sym h))
one_way x y (number m e) infinite h = refl
one_way x y (number m e) (number n d) h =
    let l : m * up e * down d < n * up d * down e = ltb-true (m * up e * down d) (n * up d * down e) h in
    le-ltb (n * up d * down e) (m * up e * down d) (omega arith)

-- ---- the root
whole_root_mono : (k v w : ℕ) → v ≤ w → w < 4 ^ k → whole_root k v ≤ whole_root k w
whole_root_mono k v w h l =
    let a = whole_root_le k v in
    let b = whole_root_lt k w l in
    let c : whole_root k v < whole_root k w + 1 = root_lt (whole_root k v) (whole_root k w + 1) (omega arith) in
    omega arith

enough : (v : ℕ) → v < 2 ^ 2098 → v * 2 ^ 1074 < 4 ^ 1586
enough v h =
    let e : 2 ^ 2098 * 2 ^ 1074 ≡ 4 ^ 1586 = refl in
    subst (λ (n : ℕ). v * 2 ^ 1074 < n) e (mul-lt-mul_of_pos_right h (pow_pos 1074))

odd_more : (a b : ℕ) → a ≤ b → 2 * a + 1 ≤ 2 * b + 1
odd_more a b h = omega arith

root_mono : (v w : ℕ) → v ≤ w → w < 2 ^ 2098 → T (le (root_of v) (root_of w))
unfolding root_of
root_mono v w h l =
    let U = 2 * 2 ^ 1074 in
    let p : 0 < U = mul-pos {m = 2} (lit< tt) (pow_pos 1074) in
    let a = whole_root 1586 (v * 2 ^ 1074) in
    let b = whole_root 1586 (w * 2 ^ 1074) in
    let m : a ≤ b = whole_root_mono 1586 (v * 2 ^ 1074) (w * 2 ^ 1074) (mul-le-mul_right (2 ^ 1074) h) (enough w l) in
    round_mono binary64 (2 * a + 1) U (2 * b + 1) U p p (mul-le-mul_right U (odd_more a b m))

root_signed : (v : ℕ) → Signed false (root_of v)
unfolding root_of
root_signed v = round_signed false (2 * whole_root 1586 (v * 2 ^ 1074) + 1) (2 * 2 ^ 1074)

multiple_mono : (m : ℕ) (e : ℤ) (n : ℕ) (d : ℤ) → m * up e * down d ≤ n * up d * down e → multiple (fin false m e) ≤ multiple (fin false n d)
multiple_mono m e n d h =
    div_mono (m * up e * 2 ^ 1074) (down e) (n * up d * 2 ^ 1074) (down d) (down_pos e) (down_pos d)
    (le_trans (le_of_eq (mul_right_comm (m * up e) (2 ^ 1074) (down d)))
    (le_trans (mul-le-mul_right (2 ^ 1074) h) (le_of_eq (mul_right_comm (n * up d) (down e) (2 ^ 1074)))))

pub root_rises : (x y : Float) → Signed false x → Signed false y → T (fits binary64 y) → lt y x ≡ false → lt (sqrt_of y) (sqrt_of x) ≡ false
unfolding lt sqrt_of
root_rises x y cx infinite f h = not_below_infinity (sqrt_of x) (root_clear x cx)
root_rises x y infinite (number n d) f h = absurd (true≢false h)
root_rises x y (number zero e) (number n d) f h = not_below_zero_lem (sqrt_of y) e (root_clear y (number n d))
root_rises x y (number (suc m) e) (number zero d) f h =
    absurd (none_below_zero m e d h)
root_rises x y (number (suc m) e) (number (suc n) d) f h =
    let l : suc m * up e * down d ≤ suc n * up d * down e = ltb-false (suc n * up d * down e) (suc m * up e * down d) h in
    let v : ℕ = multiple (fin false (suc m) e) in
    let w : ℕ = multiple (fin false (suc n) d) in
    not_below (root_of v) (root_of w) (root_signed v) (root_signed w) (root_mono v w (multiple_mono (suc m) e (suc n) d l) (multiple_under y f tt))

root_in : (x : Float) → Signed false x → T (fits binary64 x) → T (fits binary64 (sqrt_of x))
unfolding sqrt_of root_of
root_in x infinite f = f
root_in x (number zero e) f = f
root_in x (number (suc m) e) f = round-fits binary64 false (2 * whole_root 1586 (multiple (fin false (suc m) e) * 2 ^ 1074) + 1) (2 * 2 ^ 1074)

-- the greater of two roots is the root of the greater
pub root_of_max : (h m : Float) → Signed false h → Signed false m → T (fits binary64 h) → T (fits binary64 m) → max_of (sqrt_of h) (sqrt_of m) ≡ sqrt_of (max_of h m)
root_of_max h m ch cm f g = go (lt m h) refl (lt (sqrt_of m) (sqrt_of h)) refl
  where
    go : (b : Bool) → lt m h ≡ b → (c : Bool) → lt (sqrt_of m) (sqrt_of h) ≡ c → cond c (sqrt_of h) (sqrt_of m) ≡ sqrt_of (cond b h m)
    go true e true i = refl
    go false e false i = refl
    go true e false i =
        same_of_both (sqrt_of m) (sqrt_of h) (root_clear m cm) (root_clear h ch) (root_in m cm g) (root_in h ch f) i
        (root_rises m h cm ch f (one_way m h cm ch e))
    go false e true i = absurd (true≢false (sym i ∙ root_rises h m ch cm g e))
