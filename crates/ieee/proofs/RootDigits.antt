-- The loop that works a root out digit by digit: what holds after i digits, and one more digit.
use Rattle.std.proofs.Common.{◌≡◌, ℕ, ◌+◌, ◌-◌, ◌*◌, ◌/◌, ◌%◌, ◌^◌, ◌<◌, ◌≤◌, Bool, true, false, cond, leb, sym, refl, ap, ◌∙◌, subst, lt_of_lt_of_le, mul_assoc, mul_comm, pow-suc, add-one, arith, pow_mono, le-leb}
use borrow.Author.Tests.{lt-leb}
use Rattle.ieee.specs.Root.{whole_root, next_digit}
use Rattle.ieee.proofs.WholeRoot.{square_even, square_odd}

-- After i digits: the operand's first 2i digits are rest + root * root, root is their whole root, and what is left of the operand stands at the top of
-- `digits`.
pub record Digits (n digits rest root i : ℕ) : Type 0 where
  pub taken : (rest + root * root) * 2 ^ 64 + digits ≡ n * 2 ^ 10 * 4 ^ i
  pub is_root : whole_root i (rest + root * root) ≡ root
  pub small : rest ≤ 2 * root
  pub below : root < 2 ^ i
  pub fits : digits < 2 ^ 64
  pub within : i ≤ 54

pub first : (n : ℕ) → n < 2 ^ 54 → Digits n (n * 1024) 0 0 0
unfolding whole_root
first n h = record { taken = omega arith; is_root = refl; small = omega arith; below = omega arith; fits = omega arith; within = omega arith }

pub root_small : (n digits rest root i : ℕ) → Digits n digits rest root i → root < 2 ^ 54
root_small n digits rest root i d = lt_of_lt_of_le d.below (pow_mono d.within)

module _ (n digits rest root i : ℕ) (d : Digits n digits rest root i) (more : i < 54) where
  -- the two digits that are taken, and the operand's digits with them
  two : ℕ
  two = digits / 2 ^ 62

  next : ℕ
  next = 4 * (rest + root * root) + two

  next_taken : next * 2 ^ 64 + digits % 2 ^ 62 * 4 ≡ n * 2 ^ 10 * 4 ^ (i + 1)
  unfolding next two
  next_taken =
      let p : n * 2 ^ 10 * 4 ^ (i + 1) ≡ n * 2 ^ 10 * 4 ^ i * 4 = rw (add-one, pow-suc 4 i) (sym (mul_assoc (n * 2 ^ 10) (4 ^ i) 4)) in
      let t = d.taken in
      omega arith

  next_fourth : next / 4 ≡ rest + root * root
  unfolding next two
  next_fourth = let f = d.fits in omega arith

  next_root : whole_root (i + 1) next ≡ next_digit root next
  unfolding whole_root
  next_root = rw (add-one, next_fourth, d.is_root)

  room : (r : ℕ) → r ≤ root * 2 + 1 → r < 2 ^ (i + 1)
  room r h = let p : 2 ^ (i + 1) ≡ 2 ^ i * 2 = rw (add-one, pow-suc 2 i) in let b = d.below in omega arith

  -- the next digit is 1
  pub digit_one : root * 4 + 1 ≤ rest * 4 + digits / 2 ^ 62
      → Digits n (digits % 2 ^ 62 * 4) (rest * 4 + digits / 2 ^ 62 - (root * 4 + 1)) (root * 2 + 1) (i + 1)
  unfolding next two
  digit_one h =
      let q = square_odd root in
      let e : rest * 4 + digits / 2 ^ 62 - (root * 4 + 1) + (root * 2 + 1) * (root * 2 + 1) ≡ next = omega arith in
      let two_root : 2 * root ≡ root * 2 = mul_comm 2 root in
      let t : leb ((2 * root + 1) * (2 * root + 1)) next ≡ true = le-leb ((2 * root + 1) * (2 * root + 1)) next (rw two_root (omega arith)) in
      let s = d.small in
      let f = d.fits in
      record {
        taken = subst (λ (z : ℕ). z * 2 ^ 64 + digits % 2 ^ 62 * 4 ≡ n * 2 ^ 10 * 4 ^ (i + 1)) (sym e) next_taken;
        is_root =
            subst (λ (z : ℕ). whole_root (i + 1) z ≡ root * 2 + 1) (sym e)
            (next_root ∙ ap (λ (b : Bool). cond b (2 * root + 1) (2 * root)) t ∙ ap (λ (z : ℕ). z + 1) two_root);
        small = omega arith;
        below = room (root * 2 + 1) (omega arith);
        fits = omega arith;
        within = omega arith;
      }

  -- the next digit is 0
  pub digit_zero : rest * 4 + digits / 2 ^ 62 < root * 4 + 1 → Digits n (digits % 2 ^ 62 * 4) (rest * 4 + digits / 2 ^ 62) (root * 2) (i + 1)
  unfolding next two
  digit_zero h =
      let q = square_even root in
      let o = square_odd root in
      let e : rest * 4 + digits / 2 ^ 62 + root * 2 * (root * 2) ≡ next = omega arith in
      let two_root : 2 * root ≡ root * 2 = mul_comm 2 root in
      let t : leb ((2 * root + 1) * (2 * root + 1)) next ≡ false = lt-leb ((2 * root + 1) * (2 * root + 1)) next (rw two_root (omega arith)) in
      let f = d.fits in
      record {
        taken = subst (λ (z : ℕ). z * 2 ^ 64 + digits % 2 ^ 62 * 4 ≡ n * 2 ^ 10 * 4 ^ (i + 1)) (sym e) next_taken;
        is_root = subst (λ (z : ℕ). whole_root (i + 1) z ≡ root * 2) (sym e) (next_root ∙ ap (λ (b : Bool). cond b (2 * root + 1) (2 * root)) t ∙ two_root);
        small = omega arith;
        below = room (root * 2) (omega arith);
        fits = omega arith;
        within = omega arith;
      }

-- after 54 digits nothing of the operand is left, and the root is that of n * 2^54
pub last : (n digits rest root : ℕ) → Digits n digits rest root 54 → root ≡ whole_root 54 (n * 2 ^ 54)
last n digits rest root d =
    let t = d.taken in
    let f = d.fits in
    let e : rest + root * root ≡ n * 2 ^ 54 = omega arith in
    sym d.is_root ∙ ap (λ (z : ℕ). whole_root 54 z) e
