-- `survey_file_writer::bytes::fill` meets its contract: number after number is put.
use native.Mathlib.Omega.{arith}
use mathlib.Core.Path.{ap}
use Rattle.std.proofs.lemmas.List.{take_all}
use Rattle.std.proofs.Common.{rules}
use Rattle.ieee.specs.Bytes.{f64_bytes}
use Rattle.area.proofs.Placed.{put_none, put_as}
use Rattle.survey_file_writer.proofs.Placed.{room_for_next, put_next}
use Rattle.survey_file_writer.proofs.bytes.fill.Goals as goal

pub loop-number-init : goal.loop-number-init
unfolding f64_bytes
loop-number-init c = put_none c.args.at c.args.area.now

pub overflow_add-next : goal.overflow_add-next
overflow_add-next c =
    let l = c.loop-number in
    let room = room_for_next c.args.numbers.now l.number-index c.loop-number-test.true c.requires l.invariant in
    search rules

pub slice_bounds-copy_from_slice-end : goal.slice_bounds-copy_from_slice-end
slice_bounds-copy_from_slice-end c =
    let l = c.loop-number in
    let room = room_for_next c.args.numbers.now l.number-index c.loop-number-test.true c.requires l.invariant in
    omega arith

pub loop-number-preserved : goal.loop-number-preserved
loop-number-preserved c =
    let l = c.loop-number in
    rw c.copy_from_slice.ensures.after
    (put_next c.args.numbers.now l.number-index c.loop-number-test.true (omega arith) c.pattern.ensures c.to_le_bytes.ensures c.requires l.invariant)

pub returns : goal.returns
returns c = put_as (ap f64_bytes (take_all _ c.args.numbers.now c.loop-number-test.false)) c.loop-number.invariant
