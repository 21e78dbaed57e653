-- `ieee::floor_negative` meets its contract: the number is its own whole part, or the answer is 1 below it.
use Rattle.std.proofs.Common.{T}
use lib.Ieee.{binary64, fits, eq, neg}
use Rattle.ieee.proofs.Zero.{holds, fails}
use Rattle.ieee.proofs.FloorNegative.{negated, floor_whole_number, floor_fraction}
use Rattle.ieee.proofs.floor_negative.Goals as goal

pub whole_part-whole-requires : goal.whole_part-whole-requires
whole_part-whole-requires c = negated c.args.x c.requires.0 c.requires.1

pub returns-then-whole-x : goal.returns-then-whole-x
returns-then-whole-x c =
    let fitting : T (fits binary64 c.args.x) = holds (fits binary64 c.args.x) c.well_formed.0.1 in
    let d = c in
    let x = d.args.x in
    let w = c.whole_part-whole in
    floor_whole_number x w.result fitting d.requires.0 d.requires.1 w.ensures (holds (eq w.result (neg x)) c.if-whole-x.true)

pub returns : goal.returns
returns c =
    let fitting : T (fits binary64 c.args.x) = holds (fits binary64 c.args.x) c.well_formed.0.1 in
    let d = c in
    let x = d.args.x in
    let w = c.whole_part-whole in
    floor_fraction x w.result fitting d.requires.0 d.requires.1 w.ensures (fails (eq w.result (neg x)) c.if-whole-x.false)
