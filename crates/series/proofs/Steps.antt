-- From the sum that ends at a power to the next one, and to the one after that: the sums of positive terms rise, and so do the lower ones of the alternating
-- series past u. A fraction c / q is held to them.
use Prim.Native.Nat.{ℕ, zero, suc, ◌+◌, ◌*◌, ◌^◌, ◌≤◌, ◌<◌}
use native.Mathlib.Nat.{le_trans, le_of_eq, le_of_lt, le_step, mul-add, add-mul, mul_assoc, mul_comm, mul-pos, mul-le-mul_left, mul-le-mul_right}
use native.Mathlib.Nat.{le_of_mul-le-mul_right, add-zero, add-suc, pow-suc, zero-lt-suc}
use native.Mathlib.Omega.{arith}
use mathlib.Core.Path.{◌≡◌, ap, sym, ◌∙◌, subst, subst₂}
use mathlib.Core.Bool.{Bool, true, false, not, cond}
use Rattle.series.specs.Series.{even, over, added, taken, all}
use Rattle.series.proofs.Terms.{sorted}

-- ---- positive terms
pub all_next : (a d n : ℕ) → all a d (suc n) ≡ all a d n * (d * suc n) + a ^ suc n
unfolding added taken
all_next a d n = go (even (suc n)) (a ^ suc n)
  where
    go : (b : Bool) (v : ℕ) → added a d n * (d * suc n) + cond b v 0 + (taken a d n * (d * suc n) + cond b 0 v) ≡ all a d n * (d * suc n) + v
    go true v = rw (add-mul (added a d n) (taken a d n) (d * suc n)) (omega arith)
    go false v = rw (add-mul (added a d n) (taken a d n) (d * suc n)) (omega arith)

module _ (a d c q : ℕ) (d-positive : 0 < d) where
  factor : (n : ℕ) → 0 < d * suc n
  factor n = mul-pos d-positive (zero-lt-suc n)

  -- c times the next sum is not less than c times this one
  grown : (n : ℕ) → c * all a d n * (d * suc n) ≤ c * all a d (suc n)
  grown n =
      subst₂ (λ (u v : ℕ). u ≤ v) (sym (mul_assoc c (all a d n) (d * suc n))) (ap (λ (k : ℕ). c * k) (sym (all_next a d n)))
      (mul-le-mul_left c (omega arith))

  over_next : (n : ℕ) → q * over d (suc n) ≡ q * over d n * (d * suc n)
  unfolding over
  over_next n = sym (mul_assoc q (over d n) (d * suc n))

  -- where the sum that ends at n + k is at most q / c, so is the one that ends at n
  pub under_before : (n k : ℕ) → c * all a d (n + k) ≤ q * over d (n + k) → c * all a d n ≤ q * over d n
  under_before n zero h = subst (λ (m : ℕ). c * all a d m ≤ q * over d m) (add-zero n) h
  under_before n (suc k) h =
      let m = n + k in
      let h' : c * all a d (suc m) ≤ q * over d (suc m) = subst (λ (j : ℕ). c * all a d j ≤ q * over d j) (add-suc n k) h in
      under_before n k (le_of_mul-le-mul_right (le_trans (grown m) (le_trans h' (le_of_eq (over_next m)))) (factor m))

  -- where the sum that ends at n is at least q / c, so is the one that ends at n + k
  pub above_after : (n k : ℕ) → q * over d n ≤ c * all a d n → q * over d (n + k) ≤ c * all a d (n + k)
  above_after n zero h = subst (λ (m : ℕ). q * over d m ≤ c * all a d m) (sym (add-zero n)) h
  above_after n (suc k) h =
      let m = n + k in
      let h' : q * over d m ≤ c * all a d m = above_after n k h in
      subst (λ (j : ℕ). q * over d j ≤ c * all a d j) (sym (add-suc n k))
      (le_trans (le_of_eq (over_next m)) (le_trans (mul-le-mul_right (d * suc m) h') (grown m)))

-- ---- the alternating sums, two powers on from an odd one
module _ (a d n : ℕ) (odd : even n ≡ false) where
  added_two : added a d (suc (suc n)) ≡ (added a d n * (d * suc n) + a ^ suc n) * (d * suc (suc n))
  unfolding added
  added_two = go (even n) odd
    where
      go : (b : Bool) → b ≡ false → (added a d n * (d * suc n) + cond (not b) (a ^ suc n) 0) * (d * suc (suc n)) + cond (not (not b)) (a ^ suc (suc n)) 0
          ≡ (added a d n * (d * suc n) + a ^ suc n) * (d * suc (suc n))
      go b e = rw e (add-zero _)

  taken_two : taken a d (suc (suc n)) ≡ taken a d n * (d * suc n) * (d * suc (suc n)) + a ^ suc n * a
  unfolding taken
  taken_two = go (even n) odd ∙ ap (λ (k : ℕ). taken a d n * (d * suc n) * (d * suc (suc n)) + k) (pow-suc a (suc n))
    where
      go : (b : Bool) → b ≡ false → (taken a d n * (d * suc n) + cond (not b) 0 (a ^ suc n)) * (d * suc (suc n)) + cond (not (not b)) 0 (a ^ suc (suc n))
          ≡ taken a d n * (d * suc n) * (d * suc (suc n)) + a ^ suc (suc n)
      go b e = rw (e, add-zero (taken a d n * (d * suc n)))

-- what two powers on do to a bound
module _ (c q o p m g h v a : ℕ) (past : a ≤ h) where
  out : c * (o * g * h) ≡ c * o * (g * h)
  out = simp sorted

  out' : q * (m * g * h + v * a) ≡ q * m * (g * h) + q * (v * a)
  out' = let e : q * (m * g * h) ≡ q * m * (g * h) = simp sorted in mul-add q (m * g * h) (v * a) ∙ ap (λ (k : ℕ). k + q * (v * a)) e

  out'' : q * ((p * g + v) * h) ≡ q * p * (g * h) + q * (v * h)
  out'' =
      let e : q * (p * g * h) ≡ q * p * (g * h) = simp sorted in
      ap (λ (k : ℕ). q * k) (add-mul (p * g) v h) ∙ mul-add q (p * g * h) (v * h) ∙ ap (λ (k : ℕ). k + q * (v * h)) e

  smaller : q * (v * a) ≤ q * (v * h)
  smaller = mul-le-mul_left q (mul-le-mul_left v past)

  two_up : c * o + q * m ≤ q * p → c * (o * g * h) + q * (m * g * h + v * a) ≤ q * ((p * g + v) * h)
  two_up k =
      let k' : c * o * (g * h) + q * m * (g * h) ≤ q * p * (g * h) = subst (λ (n : ℕ). n ≤ q * p * (g * h)) (add-mul (c * o) (q * m) (g * h))
      (mul-le-mul_right (g * h) k) in
      omega (arith, out, out', out'', smaller)

  two_down : 0 < g * h → q * ((p * g + v) * h) ≤ c * (o * g * h) + q * (m * g * h + v * a) → q * p ≤ c * o + q * m
  two_down positive k =
      le_of_mul-le-mul_right
      (subst (λ (n : ℕ). q * p * (g * h) ≤ n) (sym (add-mul (c * o) (q * m) (g * h))) (omega (arith, out, out', out'', smaller)))
      positive

-- ---- as many pairs of powers on as one likes
unfoldable pub onward : ℕ → ℕ → ℕ
onward n zero = n
onward n (suc k) = suc (suc (onward n k))

pub onward_odd : (n k : ℕ) → even n ≡ false → even (onward n k) ≡ false
unfolding onward
onward_odd n zero h = h
onward_odd n (suc k) h = ap (λ (b : Bool). not (not b)) (onward_odd n k h)

pub onward_far : (n k : ℕ) → (n ≤ onward n k) × (k ≤ onward n k)
unfolding onward
onward_far n zero = omega arith
onward_far n (suc k) = let h = onward_far n k in omega arith

module _ (a d c q : ℕ) (d-positive : 0 < d) where
  past : (n m : ℕ) → a < n * d → n ≤ m → a ≤ d * suc (suc m)
  past n m h l =
      le_trans (le_of_lt h) (le_trans (le_of_eq (mul_comm n d)) (mul-le-mul_left d (le_step (le_step l))))

  -- c / q at most a lower sum is at most the later ones
  pub climb : (n k : ℕ) → even n ≡ false → a < n * d → c * over d n + q * taken a d n ≤ q * added a d n
      → c * over d (onward n k) + q * taken a d (onward n k) ≤ q * added a d (onward n k)
  unfolding onward over
  climb n zero odd h l = l
  climb n (suc k) odd h l =
      let m = onward n k in
      let odd' = onward_odd n k odd in
      subst₂ (λ (t p : ℕ). c * over d (suc (suc m)) + q * t ≤ q * p) (sym (taken_two a d m odd')) (sym (added_two a d m odd'))
      (two_up c q (over d m) (added a d m) (taken a d m) (d * suc m) (d * suc (suc m)) (a ^ suc m) a (past n m h (onward_far n k).0) (climb n k odd h l))

  -- c / q at least a later lower sum is at least those before
  pub descend : (n k : ℕ) → even n ≡ false → a < n * d → q * added a d (onward n k) ≤ c * over d (onward n k) + q * taken a d (onward n k)
      → q * added a d n ≤ c * over d n + q * taken a d n
  unfolding onward over
  descend n zero odd h l = l
  descend n (suc k) odd h l =
      let m = onward n k in
      let odd' = onward_odd n k odd in
      descend n k odd h
      (two_down c q (over d m) (added a d m) (taken a d m) (d * suc m) (d * suc (suc m)) (a ^ suc m) a (past n m h (onward_far n k).0)
      (mul-pos (mul-pos d-positive (zero-lt-suc m)) (mul-pos d-positive (zero-lt-suc (suc m))))
      (subst₂ (λ (t p : ℕ). q * p ≤ c * over d (suc (suc m)) + q * t) (taken_two a d m odd') (added_two a d m odd') l))
