-- What 67 words hold: `held` and `reading` undo each other, modulo 2^4288 always and entirely below 2^4287.
use Rattle.words.proofs.Whole.{pos__ℤ_pos, subℕ_lt}
use Rattle.std.proofs.Common.{◌≡◌, ℕ, suc, ◌-◌, ◌*◌, ◌^◌, ◌<◌, ◌≤◌, Bool, true, false, cond, ltb, List, length, replicate, ℤ, pos, negsuc, ◌+ℤ◌, ◌-ℤ◌, neg_ℤ, nat_abs, sym, refl, ap, ◌∙◌, subst, ap₂, mod-eq_of_lt, one-mul, zero-mul, arith, le-ltb, lt-ltb}
use lib.IntN.{+ℤ_idr, -ℤ-+ℤ_cancel}
use Rattle.words.specs.Words.{number, words_of, modulus, half, reading, residue, held}
use Rattle.words.proofs.Words.{Words, number_lt, length-words_of, words_words_of, number_words_of, words_of_number}
use Rattle.words.proofs.Residue.{two_halves, residue_lt, residue_below, same_residue, residue_add, residue_again, residue_negℤ}

pub modulus_words : 2 ^ (64 * 67) ≡ modulus
unfolding modulus
modulus_words = refl

pub held_words : (z : ℤ) → Words (held z)
unfolding held
held_words z = words_words_of 67 (residue z)

pub length-held : (z : ℤ) → length (held z) ≡ 67
unfolding held
length-held z = length-words_of 67 (residue z)

pub number_held : (z : ℤ) → number (held z) ≡ residue z
unfolding held
number_held z = number_words_of 67 (residue z) ∙ mod-eq_of_lt (subst (λ (m : ℕ). residue z < m) (sym modulus_words) (residue_lt z))

pub number_below : (ws : List ℕ) → Words ws → length ws ≡ 67 → number ws < modulus
number_below ws w l =
    subst (λ (m : ℕ). number ws < m) modulus_words (subst (λ (n : ℕ). number ws < 2 ^ (64 * n)) l (number_lt ws w))

-- 67 words are those of a whole number when their number is what it leaves
pub held_is : (ws : List ℕ) → Words ws → length ws ≡ 67 → (z : ℤ) → number ws ≡ residue z → ws ≡ held z
unfolding held
held_is ws w l z h = sym (words_of_number ws w) ∙ ap₂ (λ (k n : ℕ). words_of k n) l h

-- the reading differs from the number by a modulus at most
pub reading_residue : (ws : List ℕ) → residue (reading ws) ≡ residue (pos (number ws))
unfolding reading
reading_residue ws = go (ltb (number ws) half)
  where
    n : ℕ
    n = number ws

    back : pos n -ℤ pos modulus +ℤ pos (1 * modulus) ≡ pos n +ℤ pos (0 * modulus)
    back =
        ap (λ (k : ℕ). pos n -ℤ pos modulus +ℤ pos k) (one-mul modulus) ∙ -ℤ-+ℤ_cancel (pos n) (pos modulus)
        ∙ sym (ap (λ (k : ℕ). pos n +ℤ pos k) (zero-mul modulus) ∙ +ℤ_idr (pos n))

    go : (b : Bool) → residue (cond b (pos n) (pos n -ℤ pos modulus)) ≡ residue (pos n)
    go true = refl
    go false = same_residue (pos n -ℤ pos modulus) (pos n) 1 0 back

-- words hold what they read as
pub held_reading : (ws : List ℕ) → Words ws → length ws ≡ 67 → held (reading ws) ≡ ws
held_reading ws w l =
    sym (held_is ws w l (reading ws) (sym (reading_residue ws ∙ residue_below (number ws) (number_below ws w l))))

-- and in a sum what is read of words may be what they were made to hold: how a caller goes on from one product to the next
pub held_add : (z t : ℤ) → held (reading (held z) +ℤ t) ≡ held (z +ℤ t)
unfolding held
held_add z t =
    ap (λ (n : ℕ). words_of 67 n)
    (residue_add (reading (held z)) z t (reading_residue (held z) ∙ ap (λ (n : ℕ). residue (pos n)) (number_held z) ∙ residue_again z))

-- modulo 2^4288 the number of the words counts, and not how they are read
pub held_number : (ws : List ℕ) (t : ℤ) → held (reading ws +ℤ t) ≡ held (pos (number ws) +ℤ t)
unfolding held
held_number ws t = ap (λ (n : ℕ). words_of 67 n) (residue_add (reading ws) (pos (number ws)) t (reading_residue ws))

-- [0; 67] holds 0
pub held_zero : replicate 67 0 ≡ held (pos 0)
unfolding held residue modulus
held_zero = refl

-- below 2^4287 nothing wraps
pub reading_held : (z : ℤ) → nat_abs z < half → reading (held z) ≡ z
unfolding reading residue
reading_held (pos n) h =
    let e : number (held (pos n)) ≡ n = number_held (pos n) ∙ residue_below n (omega (arith, two_halves)) in
    rw (e, lt-ltb n half h)
reading_held (negsuc n) h =
    let m = two_halves in
    let below : n < modulus = omega arith in
    let e : number (held (negsuc n)) ≡ modulus - suc n = number_held (negsuc n) ∙ ap (λ (x : ℕ). modulus - suc x) (mod-eq_of_lt below) in
    let over : half ≤ modulus - suc n = omega arith in
    let back : modulus - suc (modulus - suc n) ≡ n = omega arith in
    rw (e, le-ltb (modulus - suc n) half over)
    (pos__ℤ_pos (modulus - suc n) modulus ∙ subℕ_lt (modulus - suc n) modulus (omega arith) ∙ ap negsuc back)

-- minus the number and minus what is read differ by a modulus at most
pub held_negℤ : (ws : List ℕ) → held (neg_ℤ (pos (number ws))) ≡ held (neg_ℤ (reading ws))
unfolding held
held_negℤ ws = ap (λ (n : ℕ). words_of 67 n) (residue_negℤ (pos (number ws)) (reading ws) (sym (reading_residue ws)))
