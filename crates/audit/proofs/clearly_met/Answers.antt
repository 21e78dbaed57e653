-- `audit::clearly_met` meets its contract: test by test.
use Rattle.std.proofs.Common.{rules}
use Rattle.estimate.specs.Estimate.{margin, clearly}
use Rattle.audit.proofs.clearly_met.Goals as goal

pub returns-then-n-gt1024 : goal.returns-then-n-gt1024
unfolding margin clearly
returns-then-n-gt1024 c = search rules

pub returns-then-not-is_finite : goal.returns-then-not-is_finite
unfolding margin clearly
returns-then-not-is_finite c = search rules

pub returns-then-not-is_finite-2 : goal.returns-then-not-is_finite-2
unfolding margin clearly
returns-then-not-is_finite-2 c = search rules

pub returns-then-not-margin : goal.returns-then-not-margin
unfolding margin clearly
returns-then-not-margin c = search rules

pub returns-then-not-abs-margin : goal.returns-then-not-abs-margin
unfolding margin clearly
returns-then-not-abs-margin c = search rules

pub returns : goal.returns
unfolding margin clearly
returns c = search rules
