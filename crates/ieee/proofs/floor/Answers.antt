-- `ieee::floor` meets its contract, by the cases of its tests.
use Rattle.std.proofs.Common.{T, sym, ◌∙◌}
use lib.Ieee.{binary64, fits, lt, of_bits}
use lib.Ieee.Scale.{finite}
use Rattle.ieee.proofs.Zero.{holds, fails}
use Rattle.ieee.proofs.FloorCases.{above_sign, below_sign, floor_zero, floor_elsewhere}
use Rattle.ieee.proofs.floor.Goals as goal

pub whole_part-requires : goal.whole_part-requires
whole_part-requires c =
    let number : T (finite c.args.x) = holds (finite c.args.x) (sym c.is_finite.ensures ∙ c.if-is_finite.true) in
    let x = c.args.x in
    (number, above_sign x number (holds (lt (of_bits binary64 0) x) c.if-x.true))

pub floor_negative-requires : goal.floor_negative-requires
floor_negative-requires c =
    let number : T (finite c.args.x) = holds (finite c.args.x) (sym c.is_finite.ensures ∙ c.if-is_finite.true) in
    let d = c in
    let x = d.args.x in
    (number, below_sign x number (holds (lt x (of_bits binary64 0)) c.if-x-2.true))

pub returns-else-x-2 : goal.returns-else-x-2
returns-else-x-2 c =
    let number : T (finite c.args.x) = holds (finite c.args.x) (sym c.is_finite.ensures ∙ c.if-is_finite.true) in
    let d = c in
    let x = d.args.x in
    floor_zero x (holds (fits binary64 x) d.well_formed.0.1) number (fails (lt (of_bits binary64 0) x) c.if-x.false)
    (fails (lt x (of_bits binary64 0)) c.if-x-2.false)

pub returns-else-is_finite : goal.returns-else-is_finite
returns-else-is_finite c =
    let x = c.args.x in
    floor_elsewhere x (fails (finite x) (sym c.is_finite.ensures ∙ c.if-is_finite.false))
