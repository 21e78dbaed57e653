-- `variogram::sum_of_squares` meets its contract: where a point ends past its list, its last axis is a NaN, and so is the sum.
use Rattle.std.proofs.Common.{◌≡◌, ℕ, ◌+◌, ◌-◌, ◌<◌, List, length, sym, ap, ◌∙◌, arith}
use lib.ListN.{get_or-eq_default}
use lib.Ieee.{Float, nan, binary64, sub, mul, neg}
use Rattle.ieee.specs.Sums.{add_each}
use Rattle.ieee.proofs.Sums.{none_from}
use Rattle.ieee.proofs.RoundingSum.{add_nan}
use Rattle.variogram.specs.Distance.{square, squares, axis_from}
use Rattle.variogram.proofs.Parts.{taken_squares}
use Rattle.variogram.proofs.sum_of_squares.Goals as goal

-- an axis past the end
past : (xs : List Float) (a d : ℕ) → length xs < a + d → 0 < d → axis_from xs a (d - 1) ≡ nan
past xs a d h p = get_or-eq_default xs nan (omega arith)

from_first : (xs ys : ℕ → Float) (d : ℕ) → 0 < d → xs (d - 1) ≡ nan → squares xs ys d ≡ nan
unfolding sub mul lib.Ieee.add
from_first xs ys d p e = none_from _ (d - 1) d (ap (λ (x : Float). square (sub binary64 x (ys (d - 1)))) e) (omega arith)

from_second : (xs ys : ℕ → Float) (d : ℕ) → 0 < d → ys (d - 1) ≡ nan → squares xs ys d ≡ nan
unfolding sub mul neg
from_second xs ys d p e =
    none_from _ (d - 1) d (ap (λ (y : Float). square (sub binary64 (xs (d - 1)) y)) e ∙ ap square (add_nan (xs (d - 1)))) (omega arith)

-- return 0.0;
pub returns-then-d-eq0 : goal.returns-then-d-eq0
unfolding add_each
returns-then-d-eq0 c =
    let a = c.args in
    sym (ap (λ (k : ℕ). squares (axis_from a.p1.now a.a) (axis_from a.p2.now a.b) k) c.if-d-eq0.true)

pub returns-in_default : goal.returns-in_default
returns-in_default c =
    let a = c.args in
    c.not_a_number.ensures
    ∙ sym (from_first (axis_from a.p1.now a.a) (axis_from a.p2.now a.b) a.d (omega arith) (past a.p1.now a.a a.d c.in_default.ensures (omega arith)))

pub returns-in_default-axes : goal.returns-in_default-axes
returns-in_default-axes c =
    let a = c.args in
    c.not_a_number-in_default-axes.ensures
    ∙ sym (from_second (axis_from a.p1.now a.a) (axis_from a.p2.now a.b) a.d (omega arith) (past a.p2.now a.b a.d c.in_default-axes.ensures (omega arith)))

pub returns : goal.returns
returns c =
    rw (c.sum_axes.ensures, c.in-Some.ensures.1, c.in-Some-axes.ensures.1)
    (taken_squares c.args.p1.now c.args.p2.now c.args.a c.args.b c.args.d c.in-Some.ensures.0)
