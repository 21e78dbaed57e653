-- `kriging::node::fill_right_hand` meets its contract: what the two fills leave, one after the other, is the list of b.
use Rattle.std.proofs.Common.{ℕ, ◌-◌, length, get_or, take, ap, ap₂, ◌∙◌, List}
use lib.Ieee.{Float, nan}
use borrow.Rule.Slice.PartMut.{mid_of, put_mid}
use Rattle.area.specs.Area.{written}
use Rattle.survey.specs.Lent.{survey_lent}
use Rattle.survey.specs.Survey.{wells, columns, size}
use Rattle.kriging_theory.specs.Drift.{node_row}
use Rattle.kriging_theory.specs.Node.{gamma_to, right_hand}
use Rattle.kriging_theory.proofs.SystemDrift.{node_row_length}
use Rattle.kriging.proofs.RightHand.{filled_right}
use Rattle.kriging.proofs.node.fill_right_hand.Goals as goal

pub returns : goal.returns
unfolding right_hand
returns c =
    let s = survey_lent c.args.taken.now.survey.now in
    let f0 : List Float = node_row s c.args.q in
    let first = c.fill_gamma.new.b in
    let row : List Float = c.fill_query_drift_row.new.row in
    let gamma =
    c.fill_gamma.ensures
    ∙ ap₂ (λ (x y : Float). written 0 (wells s) (gamma_to s.options.variogram s.coords x y) c.args.b.now) c.node.ensures.x c.node.ensures.y in
    let drifted =
    c.fill_query_drift_row.ensures
    ∙ ap (λ (n : ℕ). written 0 (columns s) (λ j. get_or f0 j nan) (mid_of n (length first - n) first)) c.wells.ensures in
    ap (λ (n : ℕ). take (size s) (put_mid n (length first - n) first row)) c.wells.ensures
    ∙ filled_right (wells s) (columns s) _ f0 c.args.b.now first row (node_row_length s c.args.q) c.requires.1 c.fill_gamma.auto.b gamma drifted
