-- `kriging::node::fill_gamma` meets its contract: after i turns b is what i stores write.
use Rattle.std.proofs.Common.{◌≡◌, length}
use Rattle.area.specs.Area.{written}
use Rattle.survey.specs.Lent.{survey_lent}
use Rattle.kriging_theory.specs.Node.{gamma_to}
use Rattle.kriging.proofs.node.fill_gamma.Given as goal

abbrev pub invariant-loop-i : goal.invariant-loop-i
invariant-loop-i l =
    let s = survey_lent l.taken.survey.now in
    record {
      long : length l.b ≡ length l.initial.b;
      filled : l.b ≡ written 0 l.i (gamma_to s.options.variogram s.coords l.at.x l.at.y) l.initial.b;
    }
