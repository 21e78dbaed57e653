-- `survey_file_reader::lists::read_codes` meets its contract: after i turns the area has the first i codes.
use Prim.Native.Nat.{◌≤◌}
use mathlib.Core.Path.{◌≡◌}
use lib.ListN.{length, take, get_or}
use Rattle.area.specs.Area.{written}
use Rattle.survey_file_reader.proofs.lists.read_codes.Given as goal

abbrev pub invariant-loop-i : goal.invariant-loop-i
invariant-loop-i l =
    (l.i ≤ l.count) × (length l.list ≡ length l.initial.list) × (l.list ≡ written 0 l.i (λ j. get_or (take l.count l.bytes) j 0) l.initial.list)
