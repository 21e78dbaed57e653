-- The sign of what 67 words hold, from their words.
use Rattle.std.proofs.Common.{◌≡◌, ℕ, zero, suc, ◌+◌, ◌-◌, ◌*◌, ◌^◌, ◌<◌, ◌≤◌, cond, not, ltb, leb, List, [], ◌∷◌, length, get_or, take, ℤ, pos, negsuc, ◌-ℤ◌, sym, refl, ap, ◌∙◌, subst, ⊎_elim, le_trans, le_refl, le_of_suc-le-suc, not-suc-le-zero, mul-le-mul_right, arith, length-take-le, take_all, le-ltb, lt-ltb, le-leb}
use borrow.Author.Tests.{lt-leb}
use lib.Signed.{non_neg}
use Rattle.words.specs.Words.{number, modulus, half, reading}
use Rattle.words.proofs.Whole.{pos__ℤ_pos, subℕ_lt, either_lt}
use Rattle.words.proofs.Words.{Words, place_suc, number_lt}
use Rattle.words.proofs.Held.{number_below}

-- ---- a word more

pub number_take : (ws : List ℕ) (i : ℕ) → i < length ws → number (take (suc i) ws) ≡ number (take i ws) + get_or ws i 0 * 2 ^ (64 * i)
number_take [] i h = absurd (not-suc-le-zero h)
number_take (w ∷ ws) zero h = omega arith
number_take (w ∷ ws) (suc i) h =
    let e : number (take (suc i) ws) ≡ number (take i ws) + get_or ws i 0 * 2 ^ (64 * i) = number_take ws i (le_of_suc-le-suc h) in
    rw (place_suc i) (omega (arith, e))

words_take : (ws : List ℕ) (i : ℕ) → Words ws → Words (take i ws)
words_take ws zero h = tt
words_take [] (suc i) h = tt
words_take (w ∷ ws) (suc i) h = (h.0, words_take ws i h.1)

-- ---- the sign

half_words : 2 ^ 63 * 2 ^ (64 * 66) ≡ half
unfolding half
half_words = refl

under : (n top p : ℕ) → n < p → top < 2 ^ 63 → n + top * p < 2 ^ 63 * p
under n top p h k =
    let e : suc top * p ≤ 2 ^ 63 * p = mul-le-mul_right p k in
    omega arith

module _ (ws : List ℕ) (w : Words ws) (l : length ws ≡ 67) where
  abbrev top : ℕ
  top = get_or ws 66 0

  abbrev p : ℕ
  p = 2 ^ (64 * 66)

  abbrev rest : ℕ
  rest = number (take 66 ws)

  whole : number ws ≡ rest + top * p
  whole = ap number (sym (take_all 67 ws (subst (λ (n : ℕ). n ≤ 67) (sym l) (le_refl 67)))) ∙ number_take ws 66 (subst (λ (n : ℕ). 66 < n) (sym l) (le_refl 67))

  short : rest < p
  short =
      subst (λ (n : ℕ). rest < 2 ^ (64 * n)) (length-take-le 66 ws (subst (λ (n : ℕ). 66 ≤ n) (sym l) (omega arith)))
      (number_lt (take 66 ws) (words_take ws 66 w))

  more : (n m : ℕ) → m ≤ n + m
  more n m = omega arith

  pub low_top : get_or ws 66 0 < 2 ^ 63 → number ws < half
  low_top h = subst (λ (m : ℕ). m < half) (sym whole) (subst (λ (m : ℕ). rest + top * p < m) half_words (under rest top p short h))

  pub high_top : 2 ^ 63 ≤ get_or ws 66 0 → half ≤ number ws
  high_top h = subst (λ (m : ℕ). half ≤ m) (sym whole) (le_trans (subst (λ (m : ℕ). m ≤ top * p) half_words (mul-le-mul_right p h)) (more rest (top * p)))

-- the highest word is below 2^63 exactly when the number is below 2^4287
pub top_word : (ws : List ℕ) → Words ws → length ws ≡ 67 → leb (2 ^ 63) (get_or ws 66 0) ≡ not (ltb (number ws) half)
top_word ws w l = ⊎_elim small large (either_lt (get_or ws 66 0) (2 ^ 63))
  where
    small : get_or ws 66 0 < 2 ^ 63 → leb (2 ^ 63) (get_or ws 66 0) ≡ not (ltb (number ws) half)
    small h = lt-leb (2 ^ 63) (get_or ws 66 0) h ∙ sym (ap not (lt-ltb (number ws) half (low_top ws w l h)))

    large : 2 ^ 63 ≤ get_or ws 66 0 → leb (2 ^ 63) (get_or ws 66 0) ≡ not (ltb (number ws) half)
    large h = le-leb (2 ^ 63) (get_or ws 66 0) h ∙ sym (ap not (le-ltb (number ws) half (high_top ws w l h)))

-- ---- what is read, by cases of the sign

-- a number below m in two's complement, whose half is h
abbrev pub twos : ℕ → ℕ → ℕ → ℤ
twos h m n = cond (ltb n h) (pos n) (pos n -ℤ pos m)

pub twos_low : (h m n : ℕ) → n < h → twos h m n ≡ pos n
twos_low h m n k = rw (lt-ltb n h k)

pub twos_high : (h m n : ℕ) → n < m → h ≤ n → twos h m n ≡ negsuc (m - suc n)
twos_high h m n l k = rw (le-ltb n h k) (pos__ℤ_pos n m ∙ subℕ_lt n m l)

pub reading_twos : (ws : List ℕ) → reading ws ≡ twos half modulus (number ws)
unfolding reading
reading_twos ws = refl

pub reading_low : (ws : List ℕ) → number ws < half → reading ws ≡ pos (number ws)
reading_low ws h = reading_twos ws ∙ twos_low half modulus (number ws) h

pub reading_high : (ws : List ℕ) → number ws < modulus → half ≤ number ws → reading ws ≡ negsuc (modulus - suc (number ws))
reading_high ws l h = reading_twos ws ∙ twos_high half modulus (number ws) l h

pub sign_of_words : (ws : List ℕ) → Words ws → length ws ≡ 67 → leb (2 ^ 63) (get_or ws 66 0) ≡ not (non_neg (reading ws))
sign_of_words ws w l = top_word ws w l ∙ ⊎_elim low high (either_lt (number ws) half)
  where
    low : number ws < half → not (ltb (number ws) half) ≡ not (non_neg (reading ws))
    low h = ap not (lt-ltb (number ws) half h) ∙ sym (ap (λ (z : ℤ). not (non_neg z)) (reading_low ws h))

    high : half ≤ number ws → not (ltb (number ws) half) ≡ not (non_neg (reading ws))
    high h = ap not (le-ltb (number ws) half h) ∙ sym (ap (λ (z : ℤ). not (non_neg z)) (reading_high ws (number_below ws w l) h))
