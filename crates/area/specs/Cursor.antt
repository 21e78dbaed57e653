-- Bytes put into a lent area at the place that is next in it.
use Rattle.std.specs.Prelude.{ℕ, ◌≡◌, List}
use Rattle.area.specs.Placed.{Room, Put, NotPut}
use Rattle.area.specs.declared.Cursor.{Cursor}

-- there is room from the next place on
abbrev pub HasRoom : List ℕ → Cursor → Type 0
HasRoom bytes c = Room c.at bytes c.area.now

-- the bytes are put from the next place on, which is then the place past them; the area is the same one
pub record Puts (bytes : List ℕ) (entry exit : Cursor) : Type 0 where
  pub put : Put entry.at bytes entry.area.now exit.at exit.area.now
  pub same_area : exit.area.ghost_name ≡ entry.area.ghost_name

-- where there is room; else nothing is put
pub record PutsIfRoom (bytes : List ℕ) (entry exit : Cursor) : Type 0 where
  pub put : HasRoom bytes entry → Put entry.at bytes entry.area.now exit.at exit.area.now
  pub without : ¬ HasRoom bytes entry → NotPut entry.at entry.area.now exit.at exit.area.now
  pub same_area : exit.area.ghost_name ≡ entry.area.ghost_name
