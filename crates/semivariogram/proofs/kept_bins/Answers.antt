-- `semivariogram::kept_bins` meets its contract: either room has a place for each pair of so many samples.
use Rattle.std.proofs.Common.{length, arith, lit≤}
use Rattle.semivariogram.proofs.Places.{few_pairs_lem, fewer_pairs}
use Rattle.semivariogram.proofs.kept_bins.Goals as goal

pub with_room-requires-clause-room : goal.with_room-requires-clause-room
with_room-requires-clause-room c = (fewer_pairs (length c.args.samples.now.values.now) (omega arith), lit≤ tt)

pub with_room-requires-2-clause-room : goal.with_room-requires-2-clause-room
with_room-requires-2-clause-room c = (few_pairs_lem (length c.args.samples.now.values.now) c.args.samples.now.few, lit≤ tt)
