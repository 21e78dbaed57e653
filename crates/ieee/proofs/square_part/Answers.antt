-- `ieee::square_part` meets its contract: no product of the halves passes a word.
use Rattle.ieee.proofs.RootTest.{square_part_is}
use Rattle.ieee.proofs.square_part.Goals as goal

pub returns : goal.returns
returns c = square_part_is c.args.r c.args.more
