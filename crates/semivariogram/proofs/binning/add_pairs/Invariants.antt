-- `semivariogram::binning::add_pairs` meets its contract: the pairs that are left are those from the sample i on.
use Rattle.std.proofs.Common.{◌≡◌, ◌-◌, ◌≤◌, length}
use Rattle.semivariogram_theory.specs.Pairs.{pairs_from, pairs}
use Rattle.semivariogram.specs.Called.{sampled}
use Rattle.semivariogram.specs.Parts.{Reached, LeftIn}
use Rattle.semivariogram.proofs.binning.add_pairs.Given as goal

abbrev pub invariant-loop-i : goal.invariant-loop-i
invariant-loop-i l =
    let n = length l.samples.values.now in
    record {
      inside : l.i ≤ n;
      room : length l.bins ≡ length l.initial.bins;
      reached : Reached (pairs n) (pairs_from l.i (n - l.i)) l.at;
      left : LeftIn (sampled l.samples) (pairs_from l.i (n - l.i)) l.bins;
    }
