-- `exponential::fraction_table` meets its contract: its 512 entries, one after another, are computed.
use Rattle.std.proofs.Common.{refl}
use Rattle.exponential.specs.Exponential.{fraction, fraction_table}
use Rattle.exponential.proofs.fraction_table.Goals as goal

pub returns : goal.returns
unfolding fraction fraction_table
returns c = refl
