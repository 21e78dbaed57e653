-- `semivariogram::binning::add_later` meets its contract: the pairs that are left are the sample's from j on, and those of the later samples.
use Rattle.std.proofs.Common.{◌≡◌, suc, ◌+◌, ◌-◌, ◌≤◌, ◌++◌, length}
use Rattle.semivariogram_theory.specs.Pairs.{pairs_from, pairs}
use Rattle.semivariogram.specs.Called.{sampled}
use Rattle.semivariogram.specs.Parts.{Reached, LeftIn}
use Rattle.semivariogram.proofs.Passes.{later_from}
use Rattle.semivariogram.proofs.binning.add_later.Given as goal

abbrev pub invariant-loop-j : goal.invariant-loop-j
invariant-loop-j l =
    let n = length l.samples.values.now in
    let rest = later_from l.i l.j n ++ pairs_from (suc l.i) (n - suc l.i) in
    record {
      begun : suc l.i ≤ l.j;
      inside : l.j ≤ n;
      room : length l.bins ≡ length l.initial.bins;
      reached : Reached (pairs n) rest (l.at + (l.j - (l.i + 1)));
      left : LeftIn (sampled l.samples) rest l.bins;
    }
