-- Lines put into an area one after another, for loops that put one a turn.
use Prim.Native.Nat.{ℕ, suc, ◌+◌, ◌<◌}
use native.Mathlib.Numerals.{add-one}
use native.Mathlib.Omega.{arith}
use mathlib.Core.List.{List}
use Rattle.report.specs.Listing.{lines}
use Rattle.area.specs.Cursor.{HasRoom, Puts}
use Rattle.area.specs.declared.Cursor.{Cursor}
use Rattle.area.proofs.Placed.{puts_then, has_room_then}
use Rattle.report.proofs.Lengths.{lines_before}

module _ (line : ℕ → List ℕ) {c d : Cursor} where
  -- one line more
  pub puts_line : (k : ℕ) {e : Cursor} → Puts (lines k line) c d → Puts (line k) d e → Puts (lines (k + 1) line) c e
  puts_line k u v = rw add-one (puts_then u v)

  -- where all n lines have room, the next has it past those that stand there
  pub has_room_line : (k n : ℕ) → k < n → HasRoom (lines n line) c → Puts (lines k line) c d → HasRoom (line k) d
  has_room_line k n h r u = has_room_then (line k) (let b = lines_before (suc k) n line h in omega arith) u
