-- `vectors::replay` meets its contract: a turn that gives a record is one more.
use Rattle.std.proofs.Common.{◌+◌, ◌∷◌, [], ◌++◌, ◌∙◌, ap, sym, rules, of_calls}
use Rattle.std.proofs.lemmas.Fn.{FoldsTo-push}
use Rattle.std.proofs.lemmas.List.{length-append}
use Rattle.std.proofs.lemmas.List.Sums.{fold_push}
use Rattle.vectors.specs.Tallied.{with_record, tally_of}
use Rattle.vectors.proofs.replay.Goals as goal

pub loop-preserved : goal.loop-preserved
loop-preserved g c =
    let was = c.loop.invariant.1 in
    let agrees = c.in-Some.agrees in
    let callable = c.loop.invariant.0 in (
      search (rules, of_calls),
      (
        was.0 ++ agrees ∷ [],
        FoldsTo-push _ _ was.0 _ agrees _ was.1 c.in-Some.ensures,
        c.record.ensures ∙ ap (λ t. with_record t agrees) was.2 ∙ sym (fold_push with_record (tally_of 0 0) was.0 agrees),
        length-append was.0 (agrees ∷ []) ∙ ap (λ n. n + 1) was.3,
      ),
    )
