-- `semivariogram::binning::add_later` meets its contract: the pairs that are left are the sample's from j on, and those of the later samples.
use Rattle.std.proofs.Common.{◌≡◌, suc, ◌+◌, ◌-◌, ◌<◌, length, refl, ◌∙◌, arith, length-set}
use Rattle.semivariogram_theory.specs.Pairs.{pair, pairs}
use Rattle.semivariogram_theory.specs.Bins.{half_square, bin_of}
use Rattle.semivariogram.specs.Called.{sampled}
use Rattle.semivariogram.specs.Parts.{square_in}
use Rattle.semivariogram.proofs.Places.{is_next, moved, one_read, first_of, here_of, next_of, last_of}
use Rattle.semivariogram.proofs.OnePass.{bin_from, count_fits, one_later, first_later, last_later}
use Rattle.semivariogram.proofs.binning.add_later.Goals as goal

pub loop-j-init : goal.loop-j-init
loop-j-init c =
    let a = c.args in
    let n = length a.samples.now.values.now in
    let l = c.requires.room.0 in
    let e : a.at ≡ a.at + (a.i + 1 - (a.i + 1)) = omega arith in
    record {
      begun = omega arith;
      inside = omega arith;
      room = refl;
      reached = moved (pairs n) _ e (first_of n a.i a.at l c.requires.place);
      left = first_later (sampled a.samples.now) a.i _ l c.requires.left;
    }

pub bounds-squares-at : goal.bounds-squares-at
bounds-squares-at c =
    let n = length c.args.samples.now.values.now in
    let l = c.loop-j in
    let here = here_of n c.args.i l.j _ _ c.loop-j-test.true l.invariant.reached in
    omega (arith, (is_next (pairs n) _ _ _ here).0, c.requires.squared.room)

pub bin_of_pair-k-requires-clause-square : goal.bin_of_pair-k-requires-clause-square
bin_of_pair-k-requires-clause-square c =
    let s = c.args.samples.now in
    let n = length s.values.now in
    let l = c.loop-j in
    one_read (pairs n) (square_in s.points.now s.d) _ _ _ c.args.squares.now (here_of n c.args.i l.j _ _ c.loop-j-test.true l.invariant.reached)
    c.requires.squared.stored

pub overflow_add-bins : goal.overflow_add-bins
overflow_add-bins c =
    let s = c.args.samples.now in
    let l = c.loop-j in
    let k = c.bin_of_pair-k in
    let below : k.result < s.n_bins = omega (arith, k.ensures, s.bins, c.requires.bins.count) in
    omega (arith, count_fits (sampled s) _ l.bins k.result s.few below l.invariant.left)

pub loop-j-preserved : goal.loop-j-preserved
unfolding half_square
loop-j-preserved c =
    let q = sampled c.args.samples.now in
    let i = c.args.i in
    let l = c.loop-j in
    let v = l.invariant in
    let k = c.bin_of_pair-k in
    let n = length q.values in
    let e : c.args.at + (l.j - (i + 1)) + 1 ≡ c.args.at + (l.j + 1 - (i + 1)) = omega (arith, v.begun) in
    let is : k.result ≡ bin_of q (pair i l.j) = k.ensures ∙ bin_from q (pair i l.j) _ _ _ refl c.requires.bins.width c.requires.bins.count in
    record {
      begun = omega (arith, v.begun);
      inside = omega arith;
      room = simp length-set v.room;
      reached = moved (pairs n) _ e (next_of n i l.j _ _ c.loop-j-test.true v.reached);
      left = one_later q i l.j _ l.bins k.result _ is refl c.loop-j-test.true (omega (arith, c.requires.room.1, v.room)) v.left;
    }

pub returns-clause-place : goal.returns-clause-place
returns-clause-place c =
    let a = c.args in
    let l = c.loop-j in
    let n = length a.samples.now.values.now in
    let e : a.at + (l.j - (a.i + 1)) ≡ a.at + (n - suc a.i) = omega (arith, l.invariant.begun, l.invariant.inside) in
    moved (pairs n) _ e (last_of n a.i l.j _ _ c.loop-j-test.false l.invariant.reached)

pub returns-clause-left : goal.returns-clause-left
returns-clause-left c = last_later (sampled c.args.samples.now) c.args.i c.loop-j.bins c.loop-j.j _ c.loop-j-test.false c.loop-j.invariant.left
