-- `report::put::put_refusal` meets its contract: the line of its word.
use Rattle.report.specs.Listing.{refused_text}
use Rattle.report.proofs.put.put_refusal.Goals as goal

pub put_word_line-requires : goal.put_word_line-requires
unfolding refused_text
put_word_line-requires c = c.requires

pub returns : goal.returns
unfolding refused_text
returns c = c.put_word_line.ensures
