-- `semivariogram::distances::squares_from` meets its contract: the pairs before j have their squares stored, and the greatest so far, with the pairs that
-- are left, is the greatest of all.
use Rattle.std.proofs.Common.{◌≡◌, ℕ, suc, ◌+◌, ◌-◌, ◌<◌, length, set, sym, refl, ◌∙◌, subst, add-one, arith, length-set}
use Rattle.semivariogram_theory.specs.Pairs.{pairs}
use Rattle.semivariogram.specs.Parts.{square_in, Stored}
use Rattle.semivariogram.proofs.Passes.{greatest_turn, greatest_last}
use Rattle.semivariogram.proofs.Places.{is_next, moved, one_stored, first_of, here_of, next_of, last_of}
use Rattle.semivariogram.proofs.distances.squares_from.Goals as goal

pub loop-j-init : goal.loop-j-init
loop-j-init c =
    let a = c.args in
    let n = length a.samples.now.values.now in
    let l = c.requires.inside.0 in
    let e : a.at ≡ a.at + (a.i + 1 - (a.i + 1)) = omega arith in
    record {
      begun = omega arith;
      inside = omega arith;
      room = refl;
      greatest = rw add-one;
      reached = moved (pairs n) _ e (first_of n a.i a.at l c.requires.place);
      stored = λ k m. c.requires.stored k (omega (arith, e));
    }

pub bounds-squares-at : goal.bounds-squares-at
bounds-squares-at c =
    let n = length c.args.samples.now.values.now in
    let l = c.loop-j in
    let here = here_of n c.args.i l.j _ _ c.loop-j-test.true l.invariant.reached in
    omega (arith, (is_next (pairs n) _ _ _ here).0)

pub loop-j-preserved : goal.loop-j-preserved
loop-j-preserved c =
    let a = c.args in
    let l = c.loop-j in
    let v = l.invariant in
    let n = length a.samples.now.values.now in
    let far = square_in a.samples.now.points.now a.samples.now.d in
    let h = c.sum_of_squares-dist_sq in
    let place : ℕ = a.at + (l.j - (a.i + 1)) in
    let e : place + 1 ≡ a.at + (l.j + 1 - (a.i + 1)) = omega (arith, v.begun) in
    let here = here_of n a.i l.j _ place c.loop-j-test.true v.reached in
    let room : place < length l.squares = omega (arith, (is_next (pairs n) _ _ place here).0) in
    record {
      begun = omega (arith, v.begun);
      inside = omega arith;
      room = simp length-set v.room;
      greatest = greatest_turn far l.max_sq h.result c.max-max_sq.result a.i l.j n c.loop-j-test.true h.ensures c.max-max_sq.ensures ∙ v.greatest;
      reached = moved (pairs n) _ e (next_of n a.i l.j _ place c.loop-j-test.true v.reached);
      stored = subst (λ (k : ℕ). Stored far (pairs n) k (set l.squares place h.result)) e
          (one_stored (pairs n) far _ _ place l.squares h.result here room h.ensures v.stored);
    }

pub returns-clause-greatest : goal.returns-clause-greatest
returns-clause-greatest c =
    let a = c.args in
    let far = square_in a.samples.now.points.now a.samples.now.d in
    sym (greatest_last far c.loop-j.max_sq a.i c.loop-j.j (length a.samples.now.values.now) c.loop-j-test.false) ∙ c.loop-j.invariant.greatest

pub returns-clause-place : goal.returns-clause-place
returns-clause-place c =
    let a = c.args in
    let l = c.loop-j in
    let n = length a.samples.now.values.now in
    let e : a.at + (l.j - (a.i + 1)) ≡ a.at + (n - suc a.i) = omega (arith, l.invariant.begun, l.invariant.inside) in
    moved (pairs n) _ e (last_of n a.i l.j _ _ c.loop-j-test.false l.invariant.reached)
