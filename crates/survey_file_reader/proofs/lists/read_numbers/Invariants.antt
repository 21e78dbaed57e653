-- `survey_file_reader::lists::read_numbers` meets its contract: after i turns the area has the first i numbers.
use Prim.Native.Nat.{ℕ, ◌≤◌}
use mathlib.Core.Path.{◌≡◌}
use mathlib.Core.List.{List}
use lib.Ieee.{Float, nan}
use lib.ListN.{length, get_or}
use Rattle.area.specs.Area.{written}
use Rattle.ieee.specs.Bytes.{f64s_in}
use Rattle.survey_file_reader.proofs.lists.read_numbers.Given as goal

-- the numbers of the call, by their places
abbrev pub number : List ℕ → ℕ → ℕ → Float
number bytes count j = get_or (f64s_in count bytes) j nan

abbrev pub invariant-loop-i : goal.invariant-loop-i
invariant-loop-i l =
    (l.i ≤ l.count) × (length l.list ≡ length l.initial.list) × (l.list ≡ written 0 l.i (number l.bytes l.count) l.initial.list)
