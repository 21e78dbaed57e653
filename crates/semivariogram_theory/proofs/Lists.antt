-- Laws of lists that the semivariogram's definitions are made of: rising numbers, what passes a test, and sums of counts.
use Prim.Native.Nat.{ℕ, zero, suc, ◌+◌, ◌-◌, ◌≤◌, ◌<◌}
use native.Mathlib.Nat.{not-suc-le-zero, le_of_suc-le-suc, zero-add, add-zero, suc-add, sub_self}
use native.Mathlib.Decide.{dec_lt}
use native.Mathlib.Omega.{arith}
use mathlib.Core.Path.{◌≡◌, refl, ap, sym, ◌∙◌}
use mathlib.Core.Bool.{Bool, true, false, cond}
use mathlib.Core.List.{List, [], ◌∷◌, ◌++◌, map}
use lib.Dec.{eqb, ltb}
use lib.ListN.{length, get_or, length-append}
use lib.Seq.{get_or-append_seam}
use borrow.Author.Tests.{eq-eqb, ne_eqb, ltb-false}
use Rattle.semivariogram_theory.specs.Pairs.{rising, filtered}
use Rattle.semivariogram_theory.specs.Binned.{total}

-- ---- rising numbers
pub length-rising : (start k : ℕ) → length (rising start k) ≡ k
unfolding rising
length-rising start zero = refl
length-rising start (suc k) = ap suc (length-rising (suc start) k)

pub rising_add : (start j k : ℕ) → rising start (j + k) ≡ rising start j ++ rising (start + j) k
unfolding rising
rising_add start zero k = ap (λ (n : ℕ). rising start n) (zero-add k) ∙ ap (λ (n : ℕ). rising n k) (sym (add-zero start))
rising_add start (suc j) k =
    let e : suc start + j ≡ start + suc j = omega arith in
    ap (λ (n : ℕ). rising start n) (suc-add j k)
    ∙ ap (λ (l : List ℕ). start ∷ l) (rising_add (suc start) j k ∙ ap (λ (n : ℕ). rising (suc start) j ++ rising n k) e)

-- ---- what passes a test
pub filtered_append : {A : Type 0} (keep : A → Bool) (xs ys : List A) → filtered keep (xs ++ ys) ≡ filtered keep xs ++ filtered keep ys
unfolding filtered
filtered_append keep [] ys = refl
filtered_append {A} keep (x ∷ xs) ys = go (keep x) (filtered_append keep xs ys)
  where
    go : (b : Bool) → filtered keep (xs ++ ys) ≡ filtered keep xs ++ filtered keep ys
        → cond b (x ∷ filtered keep (xs ++ ys)) (filtered keep (xs ++ ys)) ≡ cond b (x ∷ filtered keep xs) (filtered keep xs) ++ filtered keep ys
    go true e = ap (λ (l : List A). x ∷ l) e
    go false e = e

pub filtered_length : {A : Type 0} (keep : A → Bool) (xs : List A) → length (filtered keep xs) ≤ length xs
unfolding filtered
filtered_length keep [] = omega arith
filtered_length {A} keep (x ∷ xs) = go (keep x) (filtered_length keep xs)
  where
    go : (b : Bool) → length (filtered keep xs) ≤ length xs → length (cond b (x ∷ filtered keep xs) (filtered keep xs)) ≤ suc (length xs)
    go true h = omega arith
    go false h = omega arith

-- ---- the numbers from start on that pass a test, and how many of them lie below one of them
-- how many of the numbers from start on that pass lie below b
abbrev pub rank_from : (ℕ → Bool) → ℕ → ℕ → ℕ
rank_from keep start b = length (filtered keep (rising start (b - start)))

-- b is one of the k numbers from start on, it passes, and r is its rank
pub record Ranked (keep : ℕ → Bool) (start k b r : ℕ) : Type 0 where
  pub passes : keep b ≡ true
  pub least : start ≤ b
  pub most : b < start + k
  pub rank : rank_from keep start b ≡ r

module _ (keep : ℕ → Bool) where
  -- the numbers that pass, before and after one that does
  split_at_passing : (b m : ℕ) → keep b ≡ true
      → filtered keep (rising 0 (b + suc m)) ≡ filtered keep (rising 0 b) ++ b ∷ filtered keep (rising (suc b) m)
  unfolding filtered rising
  split_at_passing b m t =
      ap (filtered keep) (rising_add 0 b (suc m) ∙ ap (λ (n : ℕ). rising 0 b ++ rising n (suc m)) (zero-add b))
      ∙ filtered_append keep (rising 0 b) (b ∷ rising (suc b) m)
      ∙ ap (λ (c : Bool). filtered keep (rising 0 b) ++ cond c (b ∷ filtered keep (rising (suc b) m)) (filtered keep (rising (suc b) m))) t

  -- a number that passes stands at its rank
  pub at_rank : (b k : ℕ) → b < k → keep b ≡ true
      → (get_or (filtered keep (rising 0 k)) (length (filtered keep (rising 0 b))) 0 ≡ b)
      × (length (filtered keep (rising 0 b)) < length (filtered keep (rising 0 k)))
  at_rank b k h t =
      let m : ℕ = k - suc b in
      let e : k ≡ b + suc m = omega arith in
      let before : List ℕ = filtered keep (rising 0 b) in
      let after : List ℕ = filtered keep (rising (suc b) m) in
      let all : filtered keep (rising 0 k) ≡ before ++ b ∷ after = ap (λ (n : ℕ). filtered keep (rising 0 n)) e ∙ split_at_passing b m t in (
        ap (λ (l : List ℕ). get_or l (length before) 0) all ∙ get_or-append_seam before b after 0,
        omega (arith, ap length all ∙ length-append before (b ∷ after)),
      )

  rank_step : (start b : ℕ) → suc start ≤ b
      → let later = filtered keep (rising (suc start) (b - suc start)) in
      rank_from keep start b ≡ length (cond (keep start) (start ∷ later) later)
  unfolding filtered rising
  rank_step start b h =
      let e : b - start ≡ suc (b - suc start) = omega arith in
      ap (λ (n : ℕ). length (filtered keep (rising start n))) e

  -- and every place is the rank of one that passes
  pub from_rank : (start k r : ℕ) → r < length (filtered keep (rising start k)) → Ranked keep start k (get_or (filtered keep (rising start k)) r 0) r
  unfolding filtered rising
  from_rank start zero r h = absurd (not-suc-le-zero h)
  from_rank start (suc k) r h = go (keep start) refl r h (from_rank (suc start) k)
    where
      go : (c : Bool) → keep start ≡ c → (r : ℕ) → r < length (cond c (start ∷ filtered keep (rising (suc start) k)) (filtered keep (rising (suc start) k)))
          → ((r : ℕ) → r < length (filtered keep (rising (suc start) k)) → Ranked keep (suc start) k (get_or (filtered keep (rising (suc start) k)) r 0) r)
          → Ranked keep start (suc k) (get_or (cond c (start ∷ filtered keep (rising (suc start) k)) (filtered keep (rising (suc start) k))) r 0) r
      go true e zero h ih = record {
        passes = e;
        least = omega arith;
        most = omega arith;
        rank = ap (λ (n : ℕ). length (filtered keep (rising start n))) (sub_self start);
      }
      go true e (suc r) h ih =
          let b : ℕ = get_or (filtered keep (rising (suc start) k)) r 0 in
          let i : Ranked keep (suc start) k b r = ih r (le_of_suc-le-suc h) in
          record {
            passes = i.passes;
            least = omega arith;
            most = omega arith;
            rank = rank_step start b i.least ∙ rw e (ap suc i.rank);
          }
      go false e r h ih =
          let b : ℕ = get_or (filtered keep (rising (suc start) k)) r 0 in
          let i : Ranked keep (suc start) k b r = ih r h in
          record {
            passes = i.passes;
            least = omega arith;
            most = omega arith;
            rank = rank_step start b i.least ∙ rw e i.rank;
          }

-- ---- sums of whole numbers
pub total_zeros : (k start : ℕ) → total (map (λ (b : ℕ). 0) (rising start k)) ≡ 0
unfolding total rising
total_zeros zero start = refl
total_zeros (suc k) start = omega (arith, total_zeros k (suc start))

-- one more at a place v below start is none more
none_more : (f : ℕ → ℕ) (v start k : ℕ) → v < start
    → total (map (λ b. cond (eqb v b) (suc (f b)) (f b)) (rising start k)) ≡ total (map f (rising start k))
unfolding total rising
none_more f v start zero h = refl
none_more f v start (suc k) h =
    rw (ne_eqb v start (omega arith)) (ap (λ (n : ℕ). f start + n) (none_more f v (suc start) k (omega arith)))

-- one more at one place makes one more in all
pub one_more : (f : ℕ → ℕ) (v start k : ℕ) → start ≤ v → v < start + k
    → total (map (λ b. cond (eqb v b) (suc (f b)) (f b)) (rising start k)) ≡ suc (total (map f (rising start k)))
unfolding total rising
one_more f v start zero h g = absurd (omega arith)
one_more f v start (suc k) h g =
    elim (dec_lt start v) [
      | yes p ↦ rw (ne_eqb v start (omega arith)) (omega (arith, one_more f v (suc start) k p (omega arith)))
      | no m ↦ rw (eq-eqb v start (omega arith)) (omega (arith, none_more f v (suc start) k (omega arith)))
    ]

-- what is left out adds nothing
pub total_above_zero : (f : ℕ → ℕ) (xs : List ℕ) → total (map f (filtered (λ b. ltb 0 (f b)) xs)) ≡ total (map f xs)
unfolding total filtered
total_above_zero f [] = refl
total_above_zero f (x ∷ xs) = go (ltb 0 (f x)) refl (total_above_zero f xs)
  where
    go : (b : Bool) → ltb 0 (f x) ≡ b → total (map f (filtered (λ b. ltb 0 (f b)) xs)) ≡ total (map f xs)
        → total (map f (cond b (x ∷ filtered (λ b. ltb 0 (f b)) xs) (filtered (λ b. ltb 0 (f b)) xs))) ≡ f x + total (map f xs)
    go true t e = ap (λ (n : ℕ). f x + n) e
    go false t e = omega (arith, ltb-false 0 (f x) t)
