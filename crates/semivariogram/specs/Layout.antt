-- The bins of a call's samples, as code lays them out.
use Rattle.std.specs.Prelude.{◌≡◌}
use Rattle.semivariogram_theory.specs.Call.{Samples}
use Rattle.semivariogram_theory.specs.Bins.{width}
use Rattle.semivariogram.specs.declared.bounds.Bins.{Bins}

-- "Width = greatest distance / bins"
pub record BinsOf (q : Samples) (b : Bins) : Type 0 where
  pub width : b.width ≡ width q
  pub count : b.count ≡ q.bins
