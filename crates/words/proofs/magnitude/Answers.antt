-- `words::magnitude` meets its contract: minus a number below zero, and any other as it is.
use Rattle.std.proofs.Common.{sym, ap, ◌∙◌}
use Rattle.words.specs.Words.{reading, held}
use Rattle.words.proofs.Whole.{abs_other}
use Rattle.words.proofs.Words.{are_words, their_length}
use Rattle.words.proofs.Held.{held_reading}
use Rattle.words.proofs.magnitude.Goals as goal

pub returns : goal.returns
returns c =
    let a = c.args in
    let g = c.well_formed.0 in
    sym (held_reading a.sum (are_words 67 a.sum _ g) (their_length 67 a.sum _ g))
    ∙ ap held (abs_other (reading a.sum) (sym c.is_negative.ensures ∙ c.if-is_negative.false))
