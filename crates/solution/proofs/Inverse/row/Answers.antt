-- `solution::Inverse::row` meets its contract: the right half of the row.
use Prim.Native.Nat.{ℕ, ◌+◌, ◌*◌, ◌-◌}
use native.Mathlib.Omega.{arith}
use mathlib.Core.Path.{◌≡◌, ap, ◌∙◌}
use lib.ListN.{length, get_or, drop, length-drop}
use lib.Seq.{get_or-take, get_or-drop, length-take-le}
use lib.Ieee.{nan}
use Rattle.elimination.proofs.Rows.{row_inside}
use Rattle.solution.proofs.Inverse.row.Goals as goal

pub returns : goal.returns
returns c =
    let s = c.args.self.now.size in
    let xs = c.args.self.now.work.now in
    let i = c.args.i in
    let row = i * (2 * s) + s in
    let n = row + s - row in
    let inside = row_inside s i (length xs) c.requires c.args.self.now.fits in
    let left = length-drop row xs in
    let long = length-take-le n (drop row xs) (omega arith) in record {
      long = omega arith;
      entries = λ j b.
          let e : row + j ≡ i * (2 * s) + (s + j) = omega arith in
          get_or-take n (drop row xs) j nan (omega arith) ∙ get_or-drop row xs j nan ∙ ap (λ (p : ℕ). get_or xs p nan) e;
    }
