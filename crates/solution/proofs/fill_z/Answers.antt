-- `solution::fill_z` meets its contract: test by test, then every row.
use Prim.Native.Nat.{ℕ}
use mathlib.Core.Path.{sym, ap₂, ◌∙◌}
use mathlib.Core.List.{List}
use lib.ListN.{get_or}
use lib.Ieee.{Float, nan}
use Rattle.area.specs.Area.{written}
use Rattle.elimination.specs.Inverse.{times_inverse}
use Rattle.solution.proofs.Room.{solved_is, short_work, short_right, short_z}
use Rattle.solution.proofs.fill_z.Goals as goal

pub returns-in_default : goal.returns-in_default
returns-in_default c = let a = c.args in sym (short_work a.size a.work.now a.b.now a.z.now c.in_default.ensures)

pub returns-then-b-size : goal.returns-then-b-size
returns-then-b-size c = let a = c.args in sym (short_right a.size a.work.now a.b.now a.z.now c.in-Some.ensures.2 c.if-b-size.true)

pub returns-then-z-size : goal.returns-then-z-size
returns-then-z-size c = let a = c.args in sym (short_z a.size a.work.now a.b.now a.z.now c.in-Some.ensures.2 c.if-b-size.false c.if-z-size.true)

pub returns : goal.returns
returns c =
    let a = c.args in
    c.fill_rows.ensures
    ∙ ap₂ (λ (s : ℕ) (xs : List Float). written 0 s (times_inverse s xs (λ j. get_or a.b.now j nan)) a.z.now) c.in-Some.ensures.1 c.in-Some.ensures.0
    ∙ sym (solved_is a.size a.work.now a.b.now a.z.now c.in-Some.ensures.2 c.if-b-size.false c.if-z-size.false)
