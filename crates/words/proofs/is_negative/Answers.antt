-- `words::is_negative` meets its contract: the highest bit is the sign.
use Rattle.words.proofs.Words.{are_words, their_length}
use Rattle.words.proofs.Sign.{sign_of_words}
use Rattle.words.proofs.is_negative.Goals as goal

pub returns : goal.returns
returns c = sign_of_words c.args.sum (are_words 67 c.args.sum _ c.well_formed.0) (their_length 67 c.args.sum _ c.well_formed.0)
