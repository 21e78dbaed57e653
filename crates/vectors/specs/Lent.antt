-- What the places of a lent area are held to: what is told of the call's answer, and past what is written a mark.
use Rattle.std.specs.Prelude.{ℕ, zero, suc, ◌+◌, ◌%◌, ◌^◌, cond, ◌||◌, List, [], length, ◌==◌, nat_lt, slice_index, slice_range}
use Rattle.vectors.specs.declared.Tally.{Tally}
use Rattle.vectors.specs.declared.counts.Calls.{Calls}
use Rattle.vectors.specs.Counted.{compared_in, untouched_in}

-- the pattern that a place holds before a call, and of an area of bytes the byte
abbrev pub mark_at : ℕ → ℕ
mark_at at = (0x4730_0000_0000_0000 + at) % 2 ^ 64

abbrev pub mark_byte_at : ℕ → ℕ
mark_byte_at at = 160 + at % 61

-- the elements from a place up to another one; none where the list has no such part
abbrev pub between : {A : Type 0} → ℕ → ℕ → List A → List A
between from to xs = cond (nat_lt (length xs) to || nat_lt to from) [] (slice_range xs from to)

-- one place: of the first ones, as many as are told, what is told; past what is written, the mark. What is written and not told is not compared
abbrev pub compared_at : ℕ → ℕ → ℕ → List ℕ → ℕ → Tally × Calls → Tally × Calls
compared_at here mark at told written counts =
    cond (nat_lt at (length told))
    (compared_in (here == slice_index told at) counts)
    (cond (nat_lt at written) counts (counts.0, untouched_in (here == mark) counts.1))

-- so many places, one after another: what each holds and what its mark is
unfoldable pub compared_to : (ℕ → ℕ) → (ℕ → ℕ) → List ℕ → ℕ → ℕ → Tally × Calls → Tally × Calls
compared_to here mark told written zero counts = counts
compared_to here mark told written (suc at) counts =
    compared_at (here at) (mark at) at told written (compared_to here mark told written at counts)
