-- `exact::carried` meets its contract. The invariant: the words so far, and at place i a carry that is left, make up the sum and what was passed up.
use Rattle.std.proofs.Common.{◌≡◌, ◌*◌, ◌^◌, length}
use Rattle.words.specs.Words.{number}
use Rattle.words.proofs.Words.{Words}
use Rattle.words.proofs.Carries.{Moved}
use Rattle.exact.proofs.carried.Given as goal

abbrev pub invariant-loop-i : goal.invariant-loop-i
invariant-loop-i l =
    Words l.total × (length l.total ≡ 67) × Moved l.negative (number l.fn.sum) (number l.total) (2 ^ (64 * l.from)) (1 * 2 ^ (64 * l.i))
