-- What is known of samples that are taken, and of bins with bounds.
use Rattle.std.proofs.Common.{length, arith}
use Rattle.semivariogram.specs.declared.call.Samples.{Samples}
use Rattle.semivariogram.specs.declared.bounds.BoundedBins.{BoundedBins}
use Rattle.semivariogram.specs.Called.{sampled}
use Rattle.semivariogram.specs.Parts.{Taken, Bounds}

pub taken_is : (s : Samples) → Taken (sampled s)
taken_is s = record { dimension = s.dimension; few = s.few; points = s.rows; coordinates = s.coordinates; bins = s.bins }

pub bounds_of : (b : BoundedBins) → Bounds b.bins.width b.bins.count (length b.highs.now) b.lows.now b.highs.now
bounds_of b = record { low = λ k l. b.low k (omega (arith, b.each)); high = b.high }
