-- `semivariogram::distances::all_squares` meets its contract: the greatest so far, with the samples that are left, is that of all, and the pairs before
-- them have their squares stored.
use Rattle.std.proofs.Common.{◌≡◌, ℕ, suc, ◌+◌, ◌-◌, List, length, map, sym, refl, ap, ◌∙◌, subst, arith}
use Rattle.ieee.specs.Floats.{zero_float}
use Rattle.semivariogram_theory.specs.Pairs.{Pair, pairs}
use Rattle.semivariogram_theory.specs.Bins.{greatest}
use Rattle.semivariogram.specs.Parts.{square_in, Stored}
use Rattle.semivariogram.proofs.Passes.{all_pairs, greatest_sample, greatest_none}
use Rattle.semivariogram.proofs.Places.{at_first, at_last, all_stored, next_start}
use Rattle.semivariogram.proofs.distances.all_squares.Goals as goal

pub loop-i-init : goal.loop-i-init
loop-i-init c =
    let n = length c.args.samples.now.values.now in
    let far = square_in c.args.samples.now.points.now c.args.samples.now.d in
    record {
      inside = omega arith;
      room = refl;
      greatest = ap (λ (ps : List Pair). greatest zero_float (map far ps)) (sym (all_pairs n));
      reached = at_first n;
      stored = λ k l. absurd (omega arith);
    }

pub loop-i-preserved : goal.loop-i-preserved
loop-i-preserved c =
    let h = c.squares_from-max_sq in
    let l = c.loop-i in
    let v = l.invariant in
    let n = length c.args.samples.now.values.now in
    let far = square_in c.args.samples.now.points.now c.args.samples.now.d in
    let e : l.at + (n - suc l.i) ≡ l.at + (n - 1 - l.i) = omega arith in
    record {
      inside = omega arith;
      room = h.auto.squares ∙ v.room;
      greatest = greatest_sample far l.max_sq h.result l.i n c.loop-i-test.true h.ensures.greatest ∙ v.greatest;
      reached = next_start n l.i _ _ e h.ensures.place;
      stored = subst (λ (k : ℕ). Stored far (pairs n) k h.new.squares) e h.ensures.stored;
    }

pub returns-clause-greatest : goal.returns-clause-greatest
returns-clause-greatest c =
    let far = square_in c.args.samples.now.points.now c.args.samples.now.d in
    sym (greatest_none far c.loop-i.max_sq c.loop-i.i (length c.args.samples.now.values.now) c.loop-i-test.false) ∙ c.loop-i.invariant.greatest

pub returns-clause-squared : goal.returns-clause-squared
returns-clause-squared c =
    let l = c.loop-i in
    let n = length c.args.samples.now.values.now in
    let far = square_in c.args.samples.now.points.now c.args.samples.now.d in
    record {
      room = omega (arith, c.requires, l.invariant.room);
      stored = all_stored (pairs n) far l.at l.squares (at_last n l.i l.at c.loop-i-test.false l.invariant.reached) l.invariant.stored;
    }
