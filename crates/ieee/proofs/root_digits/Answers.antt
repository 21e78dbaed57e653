-- `ieee::root_digits` meets its contract. The invariant is `Digits`: after as many digits as are counted the root is that of twice as many digits of the
-- operand.
use Rattle.std.proofs.Common.{◌+◌, ◌*◌, ◌%◌, ◌^◌, arith}
use Rattle.ieee.proofs.RootDigits.{Digits, first, root_small, digit_one, digit_zero}
use Rattle.ieee.proofs.root_digits.Goals as goal
use Rattle.ieee.proofs.root_digits.Goals.{then-root-rest, else-root-rest}

pub loop-init : goal.loop-init
loop-init c = let d = first c.args.n c.requires in (d, root_small _ _ _ _ _ d)

pub loop-preserved : goal.loop-preserved
loop-preserved c =
    let n = c.args.n in
    let l = c.loop in
    let d : Digits n (l.digits % 2 ^ 62 * 4) c.if-root-rest.rest c.if-root-rest.root (l.counter + 1) =
    elim c.if-root-rest.branch [
      | then-root-rest w ↦ rw (w.rest-is, w.root-is) (digit_one n l.digits l.rest l.root l.counter l.invariant.0 (omega arith) w.if-root-rest.true)
      | else-root-rest w ↦ rw (w.rest-is, w.root-is) (digit_zero n l.digits l.rest l.root l.counter l.invariant.0 (omega arith) w.if-root-rest.false)
    ] in
    (d, root_small _ _ _ _ _ d)
