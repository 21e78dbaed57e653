-- `solution::fill_trend` meets its contract: test by test, then row after row.
use Prim.Native.Nat.{ℕ, ◌-◌, ◌+◌}
use mathlib.Core.Path.{◌≡◌, sym, ap₂, ◌∙◌}
use mathlib.Core.List.{List}
use native.Mathlib.Omega.{arith}
use lib.ListN.{length, get_or, length-set}
use lib.Ieee.{Float, nan, binary64, mul}
use Rattle.area.proofs.Start.{next_start}
use Rattle.area.proofs.Places.{all_turns}
use Rattle.ieee.specs.Sums.{running_sum}
use Rattle.elimination.specs.Inverse.{inverse_at}
use Rattle.system_theory.specs.Slopes.{slope}
use Rattle.solution.proofs.Room.{estimated_is, no_matrix, no_rows, short_trend}
use Rattle.solution.proofs.fill_trend.Goals as goal

pub returns-in_default : goal.returns-in_default
returns-in_default c = let a = c.args in sym (no_matrix a.size a.work.now a.values.now a.trend.now c.in_default.ensures)

-- if size < n {
pub returns-then-size-n : goal.returns-then-size-n
returns-then-size-n c = let a = c.args in sym (no_rows a.size a.work.now a.values.now a.trend.now c.in-Some.ensures.2 c.if-size-n.true)

-- if trend.len() < p {
pub returns-then-trend-p : goal.returns-then-trend-p
returns-then-trend-p c = let a = c.args in sym (short_trend a.size a.work.now a.values.now a.trend.now c.in-Some.ensures.2 c.if-trend-p.true)

pub loop-j-preserved : goal.loop-j-preserved
unfolding slope
loop-j-preserved c =
    let l = c.loop-j in
    let a = c.args in
    let n = length a.values.now in (
      omega arith,
      simp length-set l.invariant.1,
      next_start l.j _ _ l.trend _
          (c.one_row.ensures
          ∙ ap₂ (λ (s : ℕ) (xs : List Float). running_sum n (λ i. mul binary64 (inverse_at s xs (n + l.j) i) (get_or a.values.now i nan))) c.in-Some.ensures.1 c.in-Some.ensures.0)
          l.invariant.2,
    )

pub returns : goal.returns
returns c =
    let a = c.args in
    let all : c.loop-j.j ≡ a.size - length a.values.now = omega arith in
    all_turns 0 _ _ all c.loop-j.invariant.2
    ∙ sym (estimated_is a.size a.work.now a.values.now a.trend.now c.in-Some.ensures.2 (omega arith))
