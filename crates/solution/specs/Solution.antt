-- z from a finished elimination: paper 01, "Node", for whatever lists are lent.
use Rattle.std.specs.Prelude.{ℕ, ◌*◌, Bool, cond, ◌||◌, List, ltb, length, get_or, Float}
use Rattle.std.specs.Float.{nan}
use Rattle.area.specs.Area.{written}
use Rattle.elimination.specs.Inverse.{times_inverse}

-- whether there is no z: the work area is under 2·s·s numbers, b has fewer than s, or z has no room for s
abbrev pub no_room : ℕ → List Float → List Float → List Float → Bool
no_room size work b z = ltb (length work) (2 * size * size) || (ltb (length b) size || ltb (length z) size)

-- "z = inverse times b, summed from 0 by rising column", in the first s places of z
unfoldable pub solved : ℕ → List Float → List Float → List Float → List Float
solved size work b z = cond (no_room size work b z) z (written 0 size (times_inverse size work (λ j. get_or b j nan)) z)
