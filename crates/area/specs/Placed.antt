-- Bytes put into a lent area from a place on.
use Rattle.std.specs.Prelude.{ℕ, ◌+◌, ◌≤◌, ◌≡◌, List, length, get_or}
use Rattle.area.specs.Area.{written}

-- the area after it; the default is never stored
abbrev pub placed : ℕ → List ℕ → List ℕ → List ℕ
placed at bytes area = written at (length bytes) (λ j. get_or bytes j 0) area

-- the area has room for it
abbrev pub Room : ℕ → List ℕ → List ℕ → Type 0
Room at bytes area = at + length bytes ≤ length area

-- how putting it ends: the place past it, and what the area holds
pub record Put (at : ℕ) (bytes area : List ℕ) (next : ℕ) (exit : List ℕ) : Type 0 where
  pub past : next ≡ at + length bytes
  pub holds : exit ≡ placed at bytes area

-- and where there is no room: nothing is put, and the place is as it was
pub record NotPut (at : ℕ) (area : List ℕ) (next : ℕ) (exit : List ℕ) : Type 0 where
  pub past : next ≡ at
  pub holds : exit ≡ area
