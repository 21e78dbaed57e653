-- `ieee::root_digits` meets its contract. The invariant is `Digits`: after as many digits as are counted the root is that of twice as many digits of the
-- operand. That the root fits is said beside it, so that the check sees that its multiples do.
use Rattle.std.proofs.Common.{◌^◌, ◌<◌}
use Rattle.ieee.proofs.RootDigits.{Digits}
use Rattle.ieee.proofs.root_digits.Given as goal

abbrev pub invariant-loop : goal.invariant-loop
invariant-loop l = Digits l.n l.digits l.rest l.root l.counter × (l.root < 2 ^ 54)
