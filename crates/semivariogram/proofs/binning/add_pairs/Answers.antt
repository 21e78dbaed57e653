-- `semivariogram::binning::add_pairs` meets its contract: the pairs that are left are those from the sample i on.
use Rattle.std.proofs.Common.{List, length, refl, subst, arith}
use Rattle.semivariogram_theory.specs.Pairs.{Pair}
use Rattle.semivariogram.specs.Called.{sampled}
use Rattle.semivariogram.specs.Parts.{LeftIn}
use Rattle.semivariogram.proofs.Passes.{all_pairs}
use Rattle.semivariogram.proofs.Places.{at_first}
use Rattle.semivariogram.proofs.OnePass.{last_sample}
use Rattle.semivariogram.proofs.binning.add_pairs.Goals as goal

pub loop-i-init : goal.loop-i-init
loop-i-init c =
    let n = length c.args.samples.now.values.now in
    record {
      inside = omega arith;
      room = refl;
      reached = at_first n;
      left = subst (λ (ps : List Pair). LeftIn (sampled c.args.samples.now) ps c.args.bins.now) (all_pairs n) c.requires.left;
    }

pub returns : goal.returns
returns c = last_sample (sampled c.args.samples.now) c.loop-i.i c.loop-i.bins c.loop-i-test.false c.loop-i.invariant.left
