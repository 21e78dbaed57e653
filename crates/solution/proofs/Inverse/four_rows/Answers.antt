-- `solution::Inverse::four_rows` meets its contract: after j turns each sum has the first j terms of its row.
use Prim.Native.Nat.{ℕ, ◌+◌, ◌<◌}
use native.Mathlib.Omega.{arith}
use mathlib.Core.List.{List}
use mathlib.Core.Path.{◌≡◌, ap}
use lib.Ieee.{Float, nan, binary64, add, mul}
use lib.ListN.{get_or}
use Rattle.ieee.specs.Sums.{running_sum}
use Rattle.elimination.specs.Inverse.{inverse_at}
use Rattle.ieee.proofs.Sums.{no_terms, sum_turn}
use Rattle.solution.proofs.Terms.{terms, rows, whole_row, four_places}
use Rattle.solution.proofs.Inverse.four_rows.Goals as goal

pub loop-j-init : goal.loop-j-init
loop-j-init c = (omega arith, no_terms _, no_terms _, no_terms _, no_terms _)

pub loop-j-preserved : goal.loop-j-preserved
loop-j-preserved c =
    let a = c.args in
    let l = c.loop-j in
    let j = l.j in
    let turn : (sum : Float) (row : List Float) (i : ℕ)
    → ((k : ℕ) → k < a.self.now.size → get_or row k nan ≡ inverse_at a.self.now.size a.self.now.work.now i k)
    → sum ≡ running_sum j (terms a.self.now.size a.self.now.work.now a.b.now i)
    → add binary64 sum (mul binary64 (get_or row j nan) (get_or a.b.now j nan)) ≡ running_sum (j + 1) (terms a.self.now.size a.self.now.work.now a.b.now i) =
    λ sum row i is h. sum_turn j _ sum _ (ap (λ (x : Float). mul binary64 x (get_or a.b.now j nan)) (is j c.loop-j-test.true)) h in (
      omega arith,
      turn l.first c.row-first_row.result.now a.i c.row-first_row.ensures.entries l.invariant.1,
      turn l.second c.row-second_row.result.now (a.i + 1) c.row-second_row.ensures.entries l.invariant.2,
      turn l.third c.row-third_row.result.now (a.i + 2) c.row-third_row.ensures.entries l.invariant.3,
      turn l.fourth c.row-fourth_row.result.now (a.i + 3) c.row-fourth_row.ensures.entries l.invariant.4,
    )

pub returns : goal.returns
returns c =
    let a = c.args in
    let l = c.loop-j in
    let all : l.j ≡ a.self.now.size = omega arith in
    let whole = whole_row a.self.now.size a.self.now.work.now a.b.now in
    four_places (rows a.self.now.size a.self.now.work.now a.b.now) a.i
    (whole a.i l.j l.first all l.invariant.1)
    (whole (a.i + 1) l.j l.second all l.invariant.2)
    (whole (a.i + 2) l.j l.third all l.invariant.3)
    (whole (a.i + 3) l.j l.fourth all l.invariant.4)
