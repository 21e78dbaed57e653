-- `vectors::areas::compare` meets its contract: after so many turns the first places are compared.
use Rattle.std.proofs.Common.{refl, arith, rules, ap, ◌∙◌}
use Rattle.std.proofs.lemmas.List.{get_or_default}
use Rattle.vectors.specs.Lent.{compared_to}
use Rattle.vectors.proofs.Compared.{next_compared}
use Rattle.vectors.proofs.areas.compare.Goals as goal

-- for (at, place) in area.iter().enumerate()
pub loop-at-init : goal.loop-at-init
unfolding compared_to
loop-at-init g c = (refl, search rules, refl)

pub loop-at-preserved : goal.loop-at-preserved
loop-at-preserved g c =
    let l = c.loop-at in
    let here = c.pattern.ensures ∙ ap g.T.Place.pattern_of (c.index-area-at.is ∙ get_or_default c.args.area.now l.at _ _ c.loop-at-test.true) in
    (next_compared _ _ _ _ l.at _ _ _ _ _ here c.mark.ensures l.invariant.0 c.compare_at.ensures, omega (arith, c), refl)
