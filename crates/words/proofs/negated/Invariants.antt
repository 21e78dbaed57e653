-- `words::negated` meets its contract. The invariant: the first i words of the result and of the sum make up the borrow at place i.
use Rattle.std.proofs.Common.{◌≡◌, ◌+◌, ◌*◌, ◌^◌, length, take}
use Rattle.std.specs.Int.{from_bool}
use Rattle.words.specs.Words.{number}
use Rattle.words.proofs.Words.{Words}
use Rattle.words.proofs.negated.Given as goal

abbrev pub invariant-loop-i : goal.invariant-loop-i
invariant-loop-i l =
    (length l.sum ≡ 67) × Words l.rest × (length l.rest ≡ 67) × (number (take l.i l.rest) + number (take l.i l.sum) ≡ from_bool l.borrow * 2 ^ (64 * l.i))
