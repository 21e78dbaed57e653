-- `semivariogram::bounds::BoundedBins::likely_bin` is safe: it counts at most one for each bin.
use Rattle.std.proofs.Common.{◌≤◌}
use Rattle.semivariogram.proofs.bounds.BoundedBins.likely_bin.Given as goal

abbrev pub invariant-loop-high : goal.invariant-loop-high
invariant-loop-high l = l.bin ≤ l.high-index
