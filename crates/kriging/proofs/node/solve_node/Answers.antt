-- `kriging::node::solve_node` meets its contract: each part is what the call behind it answers.
use Rattle.std.proofs.Common.{ap, ◌∙◌, arith, List, length, take}
use lib.Ieee.{Float, nan}
use Rattle.ieee.specs.Floats.{zero_float, max_of}
use Rattle.area.proofs.Tables.{take_start}
use Rattle.solution.proofs.Room.{solved_is}
use Rattle.kriging_theory.specs.Node.{z_of, variance_of}
use Rattle.kriging.proofs.node.solve_node.Goals as goal

pub returns-clause-z : goal.returns-clause-z
unfolding z_of
returns-clause-z c =
    let a = c.args in
    let p = c.requires in
    ap (λ (xs : List Float). take (length a.b.now) xs)
    (c.fill_z.ensures ∙ solved_is (length a.b.now) a.work.now a.b.now _ p.2 (omega arith) (omega (arith, p)))
    ∙ take_start (length a.b.now) _ _ nan (omega (arith, p))

pub returns-clause-variance : goal.returns-clause-variance
unfolding variance_of
returns-clause-variance c = c.max-variance.ensures ∙ ap (λ (x : Float). max_of x zero_float) c.weighted_sum.ensures
