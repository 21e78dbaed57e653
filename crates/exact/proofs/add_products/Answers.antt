-- `exact::add_products` meets its contract. The invariant: the words hold the sum and the products so far, and at is the place in f of the next.
use Rattle.std.proofs.Common.{rules, ◌≡◌, ℕ, ◌+◌, ◌*◌, ◌≤◌, length, get_or, ◌*ℤ◌, sym, ap, ◌∙◌, subst, inl, inr, arith}
use lib.Ieee.{nan}
use lib.IntN.{+ℤ_idr}
use Rattle.exact.specs.Units.{units}
use Rattle.exact.specs.Products.{dotted}
use Rattle.words.specs.Words.{reading, held}
use Rattle.words.proofs.Words.{Words, are_words, their_length}
use Rattle.words.proofs.Held.{held_reading, held_words, length-held}
use Rattle.exact.proofs.Products.{summed, product_added, one_more, column_ends}
use Rattle.exact.proofs.add_products.Goals.{then-carry, else-carry}
use Rattle.exact.proofs.add_products.Goals as goal

-- for x in z
pub loop-x-init : goal.loop-x-init
loop-x-init c =
    let a = c.args in
    let w = are_words 67 a.sum _ c.well_formed.0 in
    let l = their_length 67 a.sum _ c.well_formed.0 in
    (omega arith, w, l, sym (held_reading a.sum w l) ∙ ap held (sym (+ℤ_idr (reading a.sum))))

-- return total;
pub returns-then-at-f : goal.returns-then-at-f
returns-then-at-f c =
    let l = c.loop-x in
    let a = c.args in
    let past : length a.f.now ≤ a.column + l.x-index * a.width = omega arith in
    l.invariant.3 ∙ column_ends a.z.now a.f.now a.column a.width a.sum l.x-index l.auto.x-index-end past

-- return total; // f ends here, and what it does not have counts as 0
pub returns-then-width-f : goal.returns-then-width-f
returns-then-width-f c =
    let a = c.args in
    let l = c.loop-x in
    let v = l.invariant in
    let r = c.term_of-term.result in
    let r₁ = c.step_word-low.result in
    let r₂ = c.step_word-middle.result in
    let r₃ = c.step_word-high.result in
    let there = ap (λ (n : ℕ). units (get_or a.z.now l.x-index nan) *ℤ units (get_or a.f.now n nan)) (sym v.0) in
    let turned : c.if-carry.total ≡ summed a.z.now a.f.now a.column a.width a.sum (l.x-index + 1) =
    one_more a.z.now a.f.now a.column a.width a.sum l.total c.if-carry.total l.x-index v.3
    (product_added r.negative l.total r.place r.low r.middle r.high r₁.0 r₁.1 r₂.0 r₂.1 r₃.0 r₃.1
    (omega (arith, c.term_of-term.ensures.1)) c.step_word-low.ensures c.step_word-middle.ensures c.step_word-high.ensures
    v.1 v.2 (search rules) (search rules) (search rules) c.if-carry.total
    (elim c.if-carry.branch [ then-carry u ↦ inl (u.if-carry.true, u.total-is ∙ u.carried-total.ensures) | else-carry u ↦ inr (u.if-carry.false, u.total-is) ])
    _ (there ∙ c.term_of-term.ensures.0)) in
    let past : length a.f.now ≤ a.column + (l.x-index + 1) * a.width = omega arith in
    turned ∙ column_ends a.z.now a.f.now a.column a.width a.sum (l.x-index + 1) (omega arith) past

pub loop-x-preserved : goal.loop-x-preserved
loop-x-preserved c =
    let a = c.args in
    let l = c.loop-x in
    let v = l.invariant in
    let r = c.term_of-term.result in
    let r₁ = c.step_word-low.result in
    let r₂ = c.step_word-middle.result in
    let r₃ = c.step_word-high.result in
    let there = ap (λ (n : ℕ). units (get_or a.z.now l.x-index nan) *ℤ units (get_or a.f.now n nan)) (sym v.0) in
    let turned : c.if-carry.total ≡ summed a.z.now a.f.now a.column a.width a.sum (l.x-index + 1) =
    one_more a.z.now a.f.now a.column a.width a.sum l.total c.if-carry.total l.x-index v.3
    (product_added r.negative l.total r.place r.low r.middle r.high r₁.0 r₁.1 r₂.0 r₂.1 r₃.0 r₃.1
    (omega (arith, c.term_of-term.ensures.1)) c.step_word-low.ensures c.step_word-middle.ensures c.step_word-high.ensures
    v.1 v.2 (search rules) (search rules) (search rules) c.if-carry.total
    (elim c.if-carry.branch [ then-carry u ↦ inl (u.if-carry.true, u.total-is ∙ u.carried-total.ensures) | else-carry u ↦ inr (u.if-carry.false, u.total-is) ])
    _ (there ∙ c.term_of-term.ensures.0)) in
    (omega arith, subst Words (sym turned) (held_words _), ap length turned ∙ length-held _, turned)

-- total
pub returns : goal.returns
unfolding dotted
returns c =
    let l = c.loop-x in
    let a = c.args in
    let all : length a.z.now ≡ l.x-index = omega arith in
    l.invariant.3 ∙ ap (summed a.z.now a.f.now a.column a.width a.sum) (sym all)
