-- `ieee::whole_part` meets its contract: the pattern that `whole_bits` gives is that of the whole part.
use Rattle.std.proofs.Common.{◌*◌, ◌^◌, ◌<◌, T, lt_of_le_of_lt}
use lib.Ieee.{binary64, fits, to_bits, of_bits}
use Rattle.ieee.proofs.Zero.{holds}
use Rattle.ieee.proofs.FloorCases.{finite_number, plain_bits, plain_number, whole_of_bits, floor_plain}
use Rattle.ieee.proofs.whole_part.Goals as goal

pub float_to_bits-x : goal.float_to_bits-x
float_to_bits-x c = finite_number c.args.x c.requires.0

pub whole_bits-requires : goal.whole_bits-requires
whole_bits-requires c =
    let fitting : T (fits binary64 c.args.x) = holds (fits binary64 c.args.x) c.well_formed.0.1 in
    let small : to_bits binary64 c.args.x < 2047 * 2 ^ 52 = plain_bits c.args.x fitting c.requires.0 c.requires.1 in
    small

pub float_from_bits-result : goal.float_from_bits-result
float_from_bits-result c =
    let fitting : T (fits binary64 c.args.x) = holds (fits binary64 c.args.x) c.well_formed.0.1 in
    let small : to_bits binary64 c.args.x < 2047 * 2 ^ 52 = plain_bits c.args.x fitting c.requires.0 c.requires.1 in
    plain_number c.whole_bits.result (lt_of_le_of_lt c.whole_bits.ensures.within small)

pub returns : goal.returns
returns c =
    let fitting : T (fits binary64 c.args.x) = holds (fits binary64 c.args.x) c.well_formed.0.1 in
    let d = c in
    let x = d.args.x in
    floor_plain x (of_bits binary64 c.whole_bits.result) fitting d.requires.0 d.requires.1
    (whole_of_bits x c.whole_bits.result fitting d.requires.0 d.requires.1 c.whole_bits.ensures)
