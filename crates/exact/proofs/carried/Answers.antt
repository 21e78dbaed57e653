-- `exact::carried` meets its contract. The invariant: the words so far, and at place i a carry that is left, make up the sum and what was passed up.
use Rattle.std.proofs.Common.{rules, ◌≡◌, ℕ, Bool, List, set, pos, ◌+ℤ◌, ◌+◌, ◌*◌, ◌^◌, ◌<◌, length, get_or, sym, ap, ◌∙◌, subst, inl, inr, one-mul, add-one, arith, length-set}
use Rattle.std.specs.Int.{from_bool}
use Rattle.ieee.specs.Values.{signed}
use Rattle.words.specs.Words.{number}
use Rattle.words.proofs.Words.{are_words, their_length, words_set, place_suc, number_set}
use Rattle.words.proofs.Carries.{Moved, whole_moved, turn_carry, moved_held, moved_none}
use Rattle.exact.proofs.carried.Goals as goal

-- one word more, to which the carry was added, or from which it was taken
one_word : (s : Bool) (a : ℕ) (total : List ℕ) (t i word : ℕ) (carry : Bool) → i < length total
    → pos (get_or total i 0) +ℤ signed s (0 + 1) ≡ pos word +ℤ signed s (2 ^ 64 * from_bool carry)
    → Moved s a (number total) t (1 * 2 ^ (64 * i)) → Moved s a (number (set total i word)) t (from_bool carry * 2 ^ (64 * (i + 1)))
one_word s a total t i word carry place e m =
    let up : 2 ^ (64 * (i + 1)) ≡ 2 ^ 64 * 2 ^ (64 * i) = ap (λ (n : ℕ). 2 ^ (64 * n)) (add-one i) ∙ place_suc i in
    turn_carry s a _ _ t (get_or total i 0) word 1 (from_bool carry) _ _ (number_set total i word place) up
    (whole_moved s (get_or total i 0) word (0 + 1) (2 ^ 64 * from_bool carry) e) m

pub loop-i-init : goal.loop-i-init
loop-i-init c =
    let a = c.args in (
      are_words 67 a.sum _ c.well_formed.0,
      their_length 67 a.sum _ c.well_formed.0,
      subst (λ (x : ℕ). Moved a.negative (number a.sum) (number a.sum) (2 ^ (64 * a.from)) x) (sym (one-mul (2 ^ (64 * a.from))))
          (moved_none a.negative _ _),
    )

pub returns-then-not-carry : goal.returns-then-not-carry
returns-then-not-carry c =
    let a = c.args in
    let l = c.loop-i in
    let v = l.invariant in
    let r = c.step_word-word.result in
    moved_held a.negative (set l.total l.i r.0) a.sum (words_set l.total l.i r.0 v.0 (search rules)) (length-set l.total l.i r.0 ∙ v.1) (2 ^ (64 * a.from))
    (from_bool r.1) (l.i + 1) (inl (ap from_bool c.if-not-carry.true))
    (one_word a.negative (number a.sum) l.total (2 ^ (64 * a.from)) l.i r.0 r.1 (omega arith) c.step_word-word.ensures v.2)

pub loop-i-preserved : goal.loop-i-preserved
loop-i-preserved c =
    let a = c.args in
    let l = c.loop-i in
    let v = l.invariant in
    let r = c.step_word-word.result in (
      words_set l.total l.i r.0 v.0 (search rules),
      length-set l.total l.i r.0 ∙ v.1,
      subst (λ (b : Bool). Moved a.negative (number a.sum) (number (set l.total l.i r.0)) (2 ^ (64 * a.from)) (from_bool b * 2 ^ (64 * (l.i + 1))))
          c.if-not-carry.false
          (one_word a.negative (number a.sum) l.total (2 ^ (64 * a.from)) l.i r.0 r.1 (omega arith) c.step_word-word.ensures v.2),
    )

pub returns : goal.returns
returns c =
    let l = c.loop-i in
    let v = l.invariant in
    let a = c.args in
    moved_held a.negative l.total a.sum v.0 v.1 (2 ^ (64 * a.from)) 1 l.i (inr c.loop-i-test.false) v.2
