-- `exponential::short_series` meets its contract: the powers of f are small, so that nothing falls below zero.
use Rattle.exponential.specs.Exponential.{short_series}
use Rattle.exponential.proofs.short_series.Goals as goal

pub returns : goal.returns
unfolding short_series
returns c = cc
