-- Laws of words in base 2^64: a word stored at a place, the bound, and that words and number tell each other.
use Rattle.std.proofs.Common.{◌≡◌, ℕ, zero, suc, ◌+◌, ◌*◌, ◌/◌, ◌%◌, ◌^◌, ◌<◌, List, [], ◌∷◌, length, get_or, set, sym, refl, ap, ◌∙◌, ap₂, le_of_suc-le-suc, not-suc-le-zero, mul_comm, add_comm, mul-suc, arith, pow_pos, pow-add, w64}
use native.Mathlib.Nat.{mod-one}
use lib.Arith.{mod-mul}
use mir.Val.{Val}
use denote.Plain.{UInt}
use denote.Laws.{Is}
use denote.Array.{Array, each}
use denote.Shadow.{shadow}
use Rattle.words.specs.Words.{number, words_of}

-- every element is a word
abbrev pub Words : List ℕ → Type 0
Words [] = Unit {0}
Words (w ∷ ws) = (w < 2 ^ 64) × Words ws

elements : (xs : List ℕ) (us : List Val) → shadow (each ℕ (UInt w64).own_val xs us) → Words xs
elements [] us h = tt
elements (x ∷ xs) [] h = absurd h
elements (x ∷ xs) (u ∷ us) h = (h.0.1, elements xs us h.1)

-- what the language tells of an array of u64
pub are_words : (n : ℕ) (xs : List ℕ) (vs : List Val) → Is (Array (UInt w64) n) xs vs → Words xs
are_words n xs vs h = elements xs h.0 h.1.1

pub their_length : (n : ℕ) (xs : List ℕ) (vs : List Val) → Is (Array (UInt w64) n) xs vs → length xs ≡ n
their_length n xs vs h = h.1.0.1

pub words_get : (ws : List ℕ) (i : ℕ) → Words ws → get_or ws i 0 < 2 ^ 64
words_get [] i h = omega arith
words_get (w ∷ ws) zero h = h.0
words_get (w ∷ ws) (suc i) h = words_get ws i h.1

pub words_set : (ws : List ℕ) (i v : ℕ) → Words ws → v < 2 ^ 64 → Words (set ws i v)
words_set [] i v h l = tt
words_set (w ∷ ws) zero v h l = (l, h.1)
words_set (w ∷ ws) (suc i) v h l = (h.0, words_set ws i v h.1 l)

-- ---- places

pub place_suc : (i : ℕ) → 2 ^ (64 * suc i) ≡ 2 ^ 64 * 2 ^ (64 * i)
place_suc i = ap (λ (n : ℕ). 2 ^ n) (mul-suc 64 i ∙ add_comm (64 * i) 64) ∙ pow-add 2 64 (64 * i)

-- a word stored at a place counts there
pub number_set : (ws : List ℕ) (i v : ℕ) → i < length ws → number (set ws i v) + get_or ws i 0 * 2 ^ (64 * i) ≡ number ws + v * 2 ^ (64 * i)
number_set [] i v h = absurd (not-suc-le-zero h)
number_set (w ∷ ws) zero v h = omega arith
number_set (w ∷ ws) (suc i) v h =
    let e : number (set ws i v) + get_or ws i 0 * 2 ^ (64 * i) ≡ number ws + v * 2 ^ (64 * i) = number_set ws i v (le_of_suc-le-suc h) in
    rw (place_suc i) (omega (arith, e))

pub number_lt : (ws : List ℕ) → Words ws → number ws < 2 ^ (64 * length ws)
number_lt [] h = omega arith
number_lt (w ∷ ws) h =
    let e : number ws < 2 ^ (64 * length ws) = number_lt ws h.1 in
    let l : w < 2 ^ 64 = h.0 in
    rw (place_suc (length ws)) (omega arith)

-- ---- the words of a number

pub length-words_of : (k a : ℕ) → length (words_of k a) ≡ k
length-words_of zero a = refl
length-words_of (suc k) a = ap suc (length-words_of k (a / 2 ^ 64))

pub words_words_of : (k a : ℕ) → Words (words_of k a)
words_words_of zero a = tt
words_words_of (suc k) a = (omega arith, words_words_of k (a / 2 ^ 64))

pub number_words_of : (k a : ℕ) → number (words_of k a) ≡ a % 2 ^ (64 * k)
number_words_of zero a = sym (mod-one a)
number_words_of (suc k) a =
    let e : number (words_of k (a / 2 ^ 64)) ≡ a / 2 ^ 64 % 2 ^ (64 * k) = number_words_of k (a / 2 ^ 64) in
    let m : a % (2 ^ (64 * k) * 2 ^ 64) ≡ (a / 2 ^ 64 % 2 ^ (64 * k)) * 2 ^ 64 + a % 2 ^ 64 = mod-mul a (pow_pos (64 * k)) (pow_pos 64) in
    rw (place_suc k, mul_comm (2 ^ 64) (2 ^ (64 * k)), m, e) (omega arith)

-- words are told by their number
pub words_of_number : (ws : List ℕ) → Words ws → words_of (length ws) (number ws) ≡ ws
words_of_number [] h = refl
words_of_number (w ∷ ws) h =
    let l : w < 2 ^ 64 = h.0 in
    let r : (w + 2 ^ 64 * number ws) % 2 ^ 64 ≡ w = omega arith in
    let q : (w + 2 ^ 64 * number ws) / 2 ^ 64 ≡ number ws = omega arith in
    ap₂ (λ (x : ℕ) (n : ℕ). x ∷ words_of (length ws) n) r q ∙ ap (λ (t : List ℕ). w ∷ t) (words_of_number ws h.1)
