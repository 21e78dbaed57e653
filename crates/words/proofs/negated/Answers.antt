-- `words::negated` meets its contract. The invariant: the first i words of the result and of the sum make up the borrow at place i.
use Rattle.std.proofs.Common.{rules, ◌≡◌, ℕ, ◌+◌, ◌*◌, ◌^◌, ◌<◌, true, List, length, get_or, take, set, replicate, pos, ◌-ℤ◌, neg_ℤ, sym, ap, ◌∙◌, ap₂, inr, le_refl, zero-add, add-one, arith, length-set, take_all, get_or-set_same, lt-length-set}
use lib.Seq.{take-set-le}
use lib.IntN.{+ℤ_idl}
use Rattle.std.specs.Int.{from_bool}
use Rattle.words.specs.Words.{number, reading, held}
use Rattle.words.proofs.Words.{words_set, place_suc}
use Rattle.words.proofs.Held.{held_zero, held_add, held_negℤ}
use Rattle.words.proofs.Sign.{number_take}
use Rattle.words.proofs.Carries.{moved_held}
use Rattle.words.proofs.negated.Goals as goal

-- one word more, in the result and in the sum
next_word : (rest : List ℕ) (i v : ℕ) → i < length rest → number (take (i + 1) (set rest i v)) ≡ number (take i rest) + v * 2 ^ (64 * i)
next_word rest i v l =
    ap (λ (k : ℕ). number (take k (set rest i v))) (add-one i) ∙ number_take (set rest i v) i (lt-length-set rest i v l)
    ∙ ap₂ (λ (ws : List ℕ) (w : ℕ). number ws + w * 2 ^ (64 * i)) (take-set-le i rest i v (le_refl i)) (get_or-set_same rest i v 0 l)

same_word : (sum : List ℕ) (i : ℕ) → i < length sum → number (take (i + 1) sum) ≡ number (take i sum) + get_or sum i 0 * 2 ^ (64 * i)
same_word sum i l = ap (λ (k : ℕ). number (take k sum)) (add-one i) ∙ number_take sum i l

-- with a word more of each there is the next borrow
word-taken : (n m k l new w borrow next p q : ℕ) → m ≡ n + new * p → l ≡ k + w * p → new + (w + borrow) ≡ 2 ^ 64 * next → q ≡ 2 ^ 64 * p
    → n + k ≡ borrow * p → m + l ≡ next * q
word-taken n m k l new w borrow next p q e g f up h =
    let t : m + l ≡ next * (2 ^ 64 * p) = omega (arith, ap (λ (x : ℕ). x * p) f) in
    t ∙ ap (λ (x : ℕ). next * x) (sym up)

pub loop-i-preserved : goal.loop-i-preserved
loop-i-preserved c =
    let l = c.loop-i in
    let sum = c.args.sum in
    let v = l.invariant in
    let r = c.borrowing_sub-word.result in
    let place : l.i < length l.rest = omega arith in
    let word : l.i < length sum = omega arith in
    let up : 2 ^ (64 * (l.i + 1)) ≡ 2 ^ 64 * 2 ^ (64 * l.i) = ap (λ (n : ℕ). 2 ^ (64 * n)) (add-one l.i) ∙ place_suc l.i in (
      v.0,
      words_set l.rest l.i r.0 v.1 (search rules),
      length-set l.rest l.i r.0 ∙ v.2,
      word-taken _ _ _ _ r.0 (get_or sum l.i 0) (from_bool l.borrow) (from_bool r.1) _ _ (next_word l.rest l.i r.0 place) (same_word sum l.i word)
          (omega arith) up v.3,
    )

-- rest
pub returns : goal.returns
returns c =
    let l = c.loop-i in
    let v = l.invariant in
    let sum = c.args.sum in
    let n = number sum in
    let all : number l.rest + n ≡ 0 + from_bool l.borrow * 2 ^ (64 * l.i) =
    ap₂ (λ (ws vs : List ℕ). number ws + number vs) (sym (take_all l.i l.rest (omega arith))) (sym (take_all l.i sum (omega arith)))
    ∙ v.3 ∙ sym (zero-add _) in
    moved_held true l.rest (replicate 67 0) v.1 v.2 n (from_bool l.borrow) l.i (inr c.loop-i-test.false) all
    ∙ ap (λ (ws : List ℕ). held (reading ws -ℤ pos n)) held_zero
    ∙ held_add (pos 0) (neg_ℤ (pos n))
    ∙ ap held (+ℤ_idl (neg_ℤ (pos n)))
    ∙ held_negℤ sum
