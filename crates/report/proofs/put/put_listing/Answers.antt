-- `report::put::put_listing` meets its contract: four texts, each past the one before.
use mathlib.Core.List.{List, ◌++◌}
use Prim.Native.Nat.{ℕ}
use lib.ListN.{length}
use Rattle.area.proofs.Placed.{puts_then, has_room_first, has_room_then}
use Rattle.report.specs.declared.Answer.{Answer}
use Rattle.report.specs.Listing.{count_line, lines, node_at, coef_at, trend_at, listing}
use Rattle.report.proofs.put.put_listing.Goals as goal

count : Answer → List ℕ
count a = count_line (length a.verdicts.now)

nodes : Answer → List ℕ
nodes a = lines (length a.verdicts.now) (node_at a.predicted.now a.variance.now a.verdicts.now)

coefs : Answer → List ℕ
coefs a = lines (length a.multipliers.now) (coef_at a.multipliers.now)

trends : Answer → List ℕ
trends a = lines (length a.trend.now) (trend_at a.trend.now)

pub put_word_line-requires : goal.put_word_line-requires
unfolding listing count nodes coefs trends
put_word_line-requires c =
    let a = c.args.lists.now.answer.now in
    let out = c.args.out.now in
    has_room_first (count a) (nodes a) out
    (has_room_first (count a ++ nodes a) (coefs a) out (has_room_first (count a ++ nodes a ++ coefs a) (trends a) out c.requires))

pub put_nodes-requires : goal.put_nodes-requires
unfolding listing count nodes coefs trends
put_nodes-requires c =
    let a = c.args.lists.now.answer.now in
    let out = c.args.out.now in
    let three = has_room_first (count a ++ nodes a ++ coefs a) (trends a) out c.requires in (
      c.args.lists.now.even.figure_each,
      c.args.lists.now.even.variance_each,
      has_room_then (nodes a) (has_room_first (count a ++ nodes a) (coefs a) out three) c.put_word_line.ensures,
    )

pub put_bits_lines-requires : goal.put_bits_lines-requires
unfolding listing count nodes coefs trends
put_bits_lines-requires c =
    let a = c.args.lists.now.answer.now in
    let three = has_room_first (count a ++ nodes a ++ coefs a) (trends a) c.args.out.now c.requires in
    has_room_then (coefs a) three (puts_then c.put_word_line.ensures c.put_nodes.ensures)

pub put_bits_lines-requires-2 : goal.put_bits_lines-requires-2
unfolding listing count nodes coefs trends
put_bits_lines-requires-2 c =
    has_room_then (trends c.args.lists.now.answer.now) c.requires
    (puts_then (puts_then c.put_word_line.ensures c.put_nodes.ensures) c.put_bits_lines.ensures)

pub returns : goal.returns
unfolding listing
returns c =
    puts_then (puts_then (puts_then c.put_word_line.ensures c.put_nodes.ensures) c.put_bits_lines.ensures) c.put_bits_lines-2.ensures
