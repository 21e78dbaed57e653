-- `interpolator::assembly::build_covariance_matrix` meets its contract: after i turns the area holds the first i rows from the diagonal on.
use Prim.Native.Nat.{ℕ}
use native.Mathlib.Omega.{arith}
use mathlib.Core.Path.{◌≡◌, ap, ◌∙◌}
use Rattle.elimination.specs.Rows.{completed}
use Rattle.elimination.proofs.Upper.{upper, completed_upper}
use Rattle.interpolator.specs.Lent.{query_lent}
use Rattle.interpolator_theory.specs.Assembly.{entry}
use Rattle.interpolator_theory.proofs.Matrix.{symmetric}
use Rattle.interpolator.proofs.assembly.build_covariance_matrix.Goals as goal

pub returns : goal.returns
returns c =
    let l = c.loop-i in
    let a = c.args in
    let q = query_lent a.known.now.interpolator a.known.now.query in
    let size = a.known.now.size in
    let all : l.i ≡ size = omega arith in
    c.complete.ensures
    ∙ ap (completed size) (l.invariant.2 ∙ ap (λ (k : ℕ). upper size (entry q) k a.work.now) all)
    ∙ completed_upper size (entry q) a.work.now c.requires (symmetric q)
