-- `semivariogram::binning::write_kept` meets its contract: after i turns the areas are what the first i bins leave.
use Rattle.std.proofs.Common.{◌≡◌, ◌≤◌, length}
use Rattle.semivariogram.specs.Called.{held, StillLent}
use Rattle.semivariogram.proofs.KeptBins.{Progress}
use Rattle.semivariogram.proofs.binning.write_kept.Given as goal

abbrev pub invariant-loop-i : goal.invariant-loop-i
invariant-loop-i l = record {
  kept : l.kept ≤ l.i;
  lent : StillLent l.initial.areas l.areas;
  distances : length l.areas.distances.now ≡ length l.initial.areas.distances.now;
  semivariances : length l.areas.semivariances.now ≡ length l.initial.areas.semivariances.now;
  counts : length l.areas.counts.now ≡ length l.initial.areas.counts.now;
  progress : Progress l.bin_width l.bins l.i l.kept (held l.initial.areas) (held l.areas);
}
