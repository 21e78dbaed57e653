-- Whole square roots, and the root that is worked out digit by digit.
use Rattle.std.proofs.Common.{◌≡◌, ℕ, zero, suc, ◌+◌, ◌*◌, ◌/◌, ◌^◌, ◌<◌, ◌≤◌, Bool, true, false, cond, not, T, leb, ◌∙◌, subst, lt_of_lt_of_le, lt_of_le_of_lt, lt_irrefl, div-lt_iff_lt-mul, add-mul, mul-le-mul, pow-suc, lt_of_not-le, mul-add, arith, lit<, leb→le}
use native.Mathlib.Nat.{mul-mul-mul_comm}
use lib.Dec.{nleb→lt}
use Rattle.ieee.specs.Root.{whole_root, next_digit}

-- ---- squares
pub square_even : (r : ℕ) → r * 2 * (r * 2) ≡ 4 * (r * r)
square_even r = let e : r * 2 * (r * 2) ≡ r * r * 4 = mul-mul-mul_comm r 2 r 2 in omega arith

pub square_next : (r : ℕ) → (r + 1) * (r + 1) ≡ r * r + 2 * r + 1
square_next r =
    let e : (r + 1) * (r + 1) ≡ r * (r + 1) + 1 * (r + 1) = add-mul r 1 (r + 1) in let f : r * (r + 1) ≡ r * r + r * 1 = mul-add r r 1 in omega arith

pub square_odd : (r : ℕ) → (r * 2 + 1) * (r * 2 + 1) ≡ 4 * (r * r) + 4 * r + 1
square_odd r = square_next (r * 2) ∙ let e = square_even r in omega arith

-- a larger square has a larger root
pub root_lt : (a b : ℕ) → a * a < b * b → a < b
root_lt a b h = lt_of_not-le (λ (g : b ≤ a). lt_irrefl (a * a) (lt_of_lt_of_le h (mul-le-mul g g)))

-- between two neighbouring squares there is one root
pub root_unique : (a b n : ℕ) → a * a ≤ n → n < (a + 1) * (a + 1) → b * b ≤ n → n < (b + 1) * (b + 1) → a ≡ b
root_unique a b n la ua lb ub =
    let x : a < b + 1 = root_lt a (b + 1) (lt_of_le_of_lt la ub) in
    let y : b < a + 1 = root_lt b (a + 1) (lt_of_le_of_lt lb ua) in
    omega arith

-- ---- the whole root
digit_le : (r n : ℕ) → r * r ≤ n / 4 → next_digit r n * next_digit r n ≤ n
digit_le r n h = go (leb ((2 * r + 1) * (2 * r + 1)) n) (leb→le ((2 * r + 1) * (2 * r + 1)) n)
  where
    go : (b : Bool) → (T b → (2 * r + 1) * (2 * r + 1) ≤ n) → cond b (2 * r + 1) (2 * r) * cond b (2 * r + 1) (2 * r) ≤ n
    go true t = t tt
    go false t = let e : 2 * r * (2 * r) ≡ 4 * (r * r) = mul-mul-mul_comm 2 r 2 r in omega arith

digit_lt : (r n : ℕ) → n / 4 < (r + 1) * (r + 1) → n < (next_digit r n + 1) * (next_digit r n + 1)
digit_lt r n h = go (leb ((2 * r + 1) * (2 * r + 1)) n) (nleb→lt ((2 * r + 1) * (2 * r + 1)) n)
  where
    go : (b : Bool) → (T (not b) → n < (2 * r + 1) * (2 * r + 1)) → n < (cond b (2 * r + 1) (2 * r) + 1) * (cond b (2 * r + 1) (2 * r) + 1)
    go true t =
        let e = square_next (2 * r + 1) in let f = square_next (2 * r) in let g = square_next r in
        let k : 2 * r * (2 * r) ≡ 4 * (r * r) = mul-mul-mul_comm 2 r 2 r in omega arith
    go false t = t tt

pub whole_root_le : (k n : ℕ) → whole_root k n * whole_root k n ≤ n
unfolding whole_root
whole_root_le zero n = omega arith
whole_root_le (suc k) n = digit_le (whole_root k (n / 4)) n (whole_root_le k (n / 4))

pub whole_root_lt : (k n : ℕ) → n < 4 ^ k → n < (whole_root k n + 1) * (whole_root k n + 1)
unfolding whole_root
whole_root_lt zero n h = h
whole_root_lt (suc k) n h =
    digit_lt (whole_root k (n / 4)) n (whole_root_lt k (n / 4)
    ((div-lt_iff_lt-mul {k = 4} {x = n} {y = 4 ^ k} (lit< tt)).1 (subst (λ (z : ℕ). n < z) (pow-suc 4 k) h)))
