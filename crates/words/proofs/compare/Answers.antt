-- `words::compare` meets its contract. The invariant: from the place that was looked at last on, the words are the same.
use Rattle.std.proofs.Common.{◌≡◌, ℕ, ◌-◌, ◌<◌, List, length, get_or, sym, ap, ◌∙◌, subst, zero-le, arith, ext_get_or}
use Rattle.words.specs.Words.{reading}
use Rattle.words.specs.Compared.{HighestDiffering, order_of}
use Rattle.words.proofs.Words.{are_words, their_length}
use Rattle.words.proofs.Compared.{decided, taken_to, taken_all, itself}
use Rattle.words.proofs.compare.Invariants.{SameFrom}
use Rattle.words.proofs.compare.Goals as goal

-- words that differ below such a place are the highest that do
highest : (a b : List ℕ) (from : ℕ) → 0 < from → SameFrom from a b → (get_or a (from - 1) 0 ≡ get_or b (from - 1) 0 → ⊥) → HighestDiffering a b (from - 1)
highest a b from h s n = record { differs = n; above = λ j g. s j (omega arith) }

all_same : (a b : List ℕ) → length a ≡ length b → SameFrom 0 a b → a ≡ b
all_same a b n s = ext_get_or 0 a b n (λ j _. s j zero-le)

-- words: 67 - place,
pub returns-then-a-place : goal.returns-then-a-place
returns-then-a-place c =
    let a = c.args.a in
    let b = c.args.b in
    let l = c.loop-place in
    let k = their_length 67 a _ c.well_formed.0 in
    let m = their_length 67 b _ c.well_formed.1.0 in
    let d = highest a b l.place c.loop-place-test.true l.invariant c.if-a-place.true in record {
      order = c.order_at.ensures ∙ sym (decided a b (are_words 67 a _ c.well_formed.0) (are_words 67 b _ c.well_formed.1.0) k m (l.place - 1) d);
      words = sym (taken_to a b (k ∙ sym m) (l.place - 1) d);
    }

-- words: 67,
pub returns : goal.returns
returns c =
    let a = c.args.a in
    let b = c.args.b in
    let l = c.loop-place in
    let same = their_length 67 a _ c.well_formed.0 ∙ sym (their_length 67 b _ c.well_formed.1.0) in
    let none : l.place ≡ 0 = omega arith in
    let alike = all_same a b same (subst (λ (n : ℕ). SameFrom n a b) none l.invariant) in record {
      order = sym (ap (λ (x : List ℕ). order_of (reading x) (reading b)) alike ∙ itself (reading b));
      words = sym (taken_all a b same alike);
    }
