-- What a replay of whole calls counts: how they ended, and of each part of an answer how many places were compared and how many of them differ.
use Rattle.std.specs.Prelude.{ℕ, Bool, cond, List, replicate, ◌==◌, slice_index, slice_set}
use Rattle.vectors.specs.declared.Tally.{Tally}
use Rattle.vectors.specs.declared.counts.Calls.{Calls}
use Rattle.vectors.specs.Tallied.{tally_of, one_more, with_record}

-- how many calls ended by each number, the numbers compared, the places compared that are not to be written, and all that differ
abbrev pub calls_of : List ℕ → Tally → Tally → ℕ → Calls
calls_of endings numbers untouched differences =
    record { endings = endings; numbers = numbers; untouched = untouched; differences = differences }

-- before the first call: there are 30 numbers that one ends by
abbrev pub none_yet : Calls
none_yet = calls_of (replicate 30 0) (tally_of 0 0) (tally_of 0 0) 0

-- one more at a place; past the end of the counts there is none
unfoldable pub counted_at : ℕ → List ℕ → List ℕ
counted_at at counts = slice_set counts at (one_more (slice_index counts at))

-- one more of all that differ, unless it is the same
abbrev pub with_difference : Calls → Bool → Calls
with_difference c same = calls_of c.endings c.numbers c.untouched (cond same c.differences (one_more c.differences))

-- one place of a part was compared: one more was, and unless it is the same one more of the part differs, and one more of all
abbrev pub compared_in : Bool → Tally × Calls → Tally × Calls
compared_in same b = (with_record b.0 same, with_difference b.1 same)

-- the same of the places that are not to be written
abbrev pub untouched_in : Bool → Calls → Calls
untouched_in same c = with_difference (calls_of c.endings c.numbers (with_record c.untouched same) c.differences) same

-- a call ended by a number, which is compared with what it has to be
abbrev pub ended_by : ℕ → ℕ → Calls → Calls
ended_by number wanted c =
    with_difference (calls_of (counted_at number c.endings) (with_record c.numbers (number == wanted)) c.untouched c.differences) (number == wanted)
