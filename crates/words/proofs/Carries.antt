-- Words added or taken away from a place on, with the carry or the borrow passed up: one step, and the end. One law for both, by the sign.
use Rattle.std.proofs.Common.{◌≡◌, ℕ, ◌+◌, ◌-◌, ◌*◌, ◌^◌, ◌≤◌, Bool, true, false, ◌⊎◌, List, length, ℤ, pos, ◌+ℤ◌, ◌-ℤ◌, neg_ℤ, nat_abs, sym, refl, ap, ◌∙◌, subst, ap₂, inl, inr, add-zero, mul_assoc, zero-mul, arith, pow-add}
use lib.IntN.{+ℤ-neg_ℤ_cancel, -ℤ-+ℤ_cancel}
use Rattle.ieee.specs.Values.{signed}
use Rattle.words.specs.Words.{number, modulus, reading, residue, held}
use Rattle.words.proofs.Whole.{+ℤ-swap}
use Rattle.words.proofs.Words.{Words}
use Rattle.words.proofs.Residue.{residue_below, residue_either, residue_add}
use Rattle.words.proofs.Held.{modulus_words, number_below, held_is, held_number, reading_residue}

-- a ± t = b ± k: with t added to a, or taken away, there is b, and k is still to be added, or taken away
abbrev pub Moved : Bool → ℕ → ℕ → ℕ → ℕ → Type 0
Moved false a b t k = a + t ≡ b + k
Moved true a b t k = b + t ≡ a + k

pub moved_whole : (s : Bool) (a b t k : ℕ) → Moved s a b t k → pos a +ℤ signed s t ≡ pos b +ℤ signed s k
moved_whole false a b t k h = ap pos h
moved_whole true a b t k h =
    let e : pos b +ℤ pos t ≡ pos a +ℤ pos k = ap pos h in
    ap (λ (z : ℤ). z -ℤ pos t) (sym (+ℤ-neg_ℤ_cancel (pos a) (pos k)) ∙ ap (λ (z : ℤ). z -ℤ pos k) (sym e))
    ∙ +ℤ-swap (pos b +ℤ pos t) (neg_ℤ (pos k)) (neg_ℤ (pos t))
    ∙ ap (λ (z : ℤ). z -ℤ pos k) (+ℤ-neg_ℤ_cancel (pos b) (pos t))

pub whole_moved : (s : Bool) (a b t k : ℕ) → pos a +ℤ signed s t ≡ pos b +ℤ signed s k → Moved s a b t k
whole_moved false a b t k h = ap nat_abs h
whole_moved true a b t k h =
    ap nat_abs (
    ap (λ (z : ℤ). z +ℤ pos t) (sym (-ℤ-+ℤ_cancel (pos b) (pos k)) ∙ ap (λ (z : ℤ). z +ℤ pos k) (sym h))
    ∙ +ℤ-swap (pos a -ℤ pos t) (pos k) (pos t)
    ∙ ap (λ (z : ℤ). z +ℤ pos k) (-ℤ-+ℤ_cancel (pos a) (pos t)))

-- nothing added yet
pub moved_none : (s : Bool) (a t : ℕ) → Moved s a a t t
moved_none false a t = refl
moved_none true a t = refl

-- One step at the place that weighs p, of words whose number was n and is m: old becomes new there, and of what is left, word goes.
pub turn : (s : Bool) (a n m t old new word carry next rest p : ℕ) → m + old * p ≡ n + new * p → Moved s old new (word + carry) (2 ^ 64 * next)
    → Moved s a n t ((carry + (word + 2 ^ 64 * rest)) * p) → Moved s a m t ((next + rest) * (2 ^ 64 * p))
turn false a n m t old new word carry next rest p e f g = omega (arith, ap (λ (x : ℕ). x * p) f)
turn true a n m t old new word carry next rest p e f g = omega (arith, ap (λ (x : ℕ). x * p) f)

-- the same where nothing but the carry is left
pub turn_carry : (s : Bool) (a n m t old new carry next p q : ℕ) → m + old * p ≡ n + new * p → q ≡ 2 ^ 64 * p → Moved s old new (0 + carry) (2 ^ 64 * next)
    → Moved s a n t (carry * p) → Moved s a m t (next * q)
turn_carry s a n m t old new carry next p q e up f g =
    let k : carry * p ≡ (carry + (0 + 2 ^ 64 * 0)) * p = omega arith in
    let j : (next + 0) * (2 ^ 64 * p) ≡ next * q = ap₂ (λ (x y : ℕ). x * y) (add-zero next) (sym up) in
    subst (λ (x : ℕ). Moved s a m t x) j (turn s a n m t old new 0 carry next 0 p e f (subst (λ (x : ℕ). Moved s a n t x) k g))

-- what is left to pass up at the end is a multiple of 2^4288
left_over : (carry i : ℕ) → (carry ≡ 0) ⊎ (67 ≤ i) → (k : ℕ) × (carry * 2 ^ (64 * i) ≡ k * modulus)
left_over carry i (inl h) = (0, ap (λ (x : ℕ). x * 2 ^ (64 * i)) h ∙ zero-mul (2 ^ (64 * i)) ∙ sym (zero-mul modulus))
left_over carry i (inr h) =
    let q = 2 ^ (64 * (i - 67)) in
    let s : 64 * i ≡ 64 * (i - 67) + 64 * 67 = omega arith in
    let e : 2 ^ (64 * i) ≡ q * modulus =
    ap (λ (x : ℕ). 2 ^ x) s ∙ pow-add 2 (64 * (i - 67)) (64 * 67) ∙ ap (λ (x : ℕ). q * x) modulus_words in
    (carry * q, ap (λ (x : ℕ). carry * x) e ∙ sym (mul_assoc carry q modulus))

-- 67 words after a term, with nothing left that counts below 2^4288
pub moved_held : (s : Bool) (ws sum : List ℕ) → Words ws → length ws ≡ 67 → (t carry i : ℕ) → (carry ≡ 0) ⊎ (67 ≤ i)
    → Moved s (number sum) (number ws) t (carry * 2 ^ (64 * i)) → ws ≡ held (reading sum +ℤ signed s t)
moved_held s ws sum w l t carry i end h =
    let k = left_over carry i end in
    held_is ws w l (reading sum +ℤ signed s t) (
    sym (residue_below (number ws) (number_below ws w l))
    ∙ sym (residue_either (pos (number ws)) s k.0)
    ∙ ap (λ (x : ℕ). residue (pos (number ws) +ℤ signed s x)) (sym k.1)
    ∙ ap residue (sym (moved_whole s (number sum) (number ws) t (carry * 2 ^ (64 * i)) h))
    ∙ residue_add (pos (number sum)) (reading sum) (signed s t) (sym (reading_residue sum)))

-- and with something left, which is then passed up
pub moved_on : (s : Bool) (ws sum next : List ℕ) (t k : ℕ) → Moved s (number sum) (number ws) t k → next ≡ held (reading ws +ℤ signed s k)
    → next ≡ held (reading sum +ℤ signed s t)
moved_on s ws sum next t k h e =
    e ∙ held_number ws (signed s k) ∙ ap held (sym (moved_whole s (number sum) (number ws) t k h)) ∙ sym (held_number sum (signed s t))
