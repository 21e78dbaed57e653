-- `ieee::abs` meets its contract, by what a float below zero, at zero and elsewhere is.
use Rattle.std.proofs.Common.{sym, ◌∙◌}
use lib.Ieee.{lt, eq, of_bits, binary64, fits}
use Rattle.ieee.proofs.Zero.{holds, fails, zero_is, eq_zero, negative, not_below_zero_lem}
use Rattle.ieee.proofs.abs.Goals as goal

pub returns-then-x : goal.returns-then-x
returns-then-x c = let x = c.args.x in negative x (holds (lt x (of_bits binary64 0)) c.if-x.true)

pub returns-then-x-2 : goal.returns-then-x-2
returns-then-x-2 c =
    let x = c.args.x in
    zero_is ∙ sym (eq_zero x (holds (fits binary64 x) c.well_formed.0.1) (holds (eq x (of_bits binary64 0)) c.if-x-2.true))

pub returns : goal.returns
returns c =
    let x = c.args.x in
    sym (not_below_zero_lem x (fails (lt x (of_bits binary64 0)) c.if-x.false) (fails (eq x (of_bits binary64 0)) c.if-x-2.false))
