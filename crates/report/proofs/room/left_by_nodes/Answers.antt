-- `report::room::left_by_nodes` meets its contract: the lines so far and the next are no longer than all of them.
use Prim.Native.Nat.{suc, ◌<◌}
use native.Mathlib.Numerals.{add-one}
use native.Mathlib.Omega.{arith}
use mathlib.Core.Path.{◌≡◌}
use lib.Ieee.{nan}
use lib.ListN.{length, get_or}
use Rattle.report.specs.Judged.{Leaves}
use Rattle.report.specs.Listing.{lines, node_at}
use Rattle.report.proofs.Judged.{handed_on}
use Rattle.report.proofs.Lengths.{lines_more, lines_before}
use Rattle.report.proofs.room.left_by_nodes.Goals as goal

pub returns-in_err-rest : goal.returns-in_err-rest
returns-in_err-rest c = λ figures variances.
    let verdicts = c.args.verdicts.now in
    let i = c.loop-i.i in
    let line = node_at figures variances verdicts in
    let so_far = c.loop-i.invariant figures variances in
    let this : c.node_length.result ≡ length (line i) = c.node_length.ensures (get_or figures i nan) (get_or variances i nan) in
    let more = lines_more i line in
    let most = lines_before (suc i) (length verdicts) line (omega arith) in
    let told = c.in_err-rest.ensures in
    let long : c.args.room < length (lines (length verdicts) line) = omega arith in
    handed_on (Leaves c.args.room (length (lines (length verdicts) line))) c.from_residual.ensures.1 (told.0, long)

pub loop-i-preserved : goal.loop-i-preserved
loop-i-preserved c = λ figures variances.
    let i = c.loop-i.i in
    let line = node_at figures variances c.args.verdicts.now in
    let so_far = c.loop-i.invariant figures variances in
    let this : c.node_length.result ≡ length (line i) = c.node_length.ensures (get_or figures i nan) (get_or variances i nan) in
    let more = lines_more i line in
    let taken = c.in_ok-rest.ensures in
    rw add-one (omega arith)
