-- `kriging::node::krige_node` meets its contract: what the calls leave are the parts of the paper's node.
use Rattle.std.proofs.Common.{arith, ◌≡◌, ◌≤◌, ℕ, ◌-◌, length, get_or, take, drop, length-drop, sym, ap, ◌∙◌, subst, List, []}
use lib.Seq.{length-take-le, take-length}
use lib.Ieee.{Float, nan, binary64, mul}
use Rattle.ieee.specs.Sums.{running_sum}
use Rattle.audit.specs.Audit.{verdict_with, number_of}
use Rattle.audit.specs.Lists.{weighed_in, audited_in}
use Rattle.audit.proofs.Bounds.{columns_bound, verdict_bound}
use Rattle.survey.specs.Lent.{survey_lent}
use Rattle.survey.specs.Limits.{most_size}
use Rattle.survey.specs.Survey.{wells}
use Rattle.kriging_theory.specs.Node.{right_hand}
use Rattle.kriging.proofs.NodeParts.{node_is}
use Rattle.kriging.proofs.node.krige_node.Goals as goal

-- the part of a list from a place on
rest_of : (xs : List Float) (n : ℕ) → take (length xs - n) (drop n xs) ≡ drop n xs
rest_of xs n = ap (λ (k : ℕ). take k (drop n xs)) (sym (length-drop n xs)) ∙ take-length (drop n xs)

pub returns : goal.returns
returns c =
    let d = c.args.drift.now in
    let s = survey_lent d.taken.now.survey.now in
    let v = c.solve_node-solution in
    let b : List Float = take c.size.result c.fill_right_hand.new.b in
    let f0 : List Float = drop (wells s) b in
    let right : b ≡ right_hand s c.args.q = ap (λ (k : ℕ). take k c.fill_right_hand.new.b) c.size.ensures ∙ c.fill_right_hand.ensures in
    let figure : Float = c.weighted_sum-figure.result in
    let verdict : List Float → List Float → ℕ =
    λ z f0. verdict_with (number_of v.result.columns) (audited_in (weighed_in z [] f0 s.tolerance) s.values figure) in
    let found : number_of c.audit_figure-finding.result ≡ verdict (take (wells s) v.result.z) (drop (wells s) b) =
    c.audit_figure-finding.ensures
    ∙ ap (λ (n : ℕ). verdict (take n v.result.z) (take (length b - n) (drop n b))) c.wells-n.ensures
    ∙ ap (verdict (take (wells s) v.result.z)) (rest_of b (wells s)) in
    let few : length f0 ≤ most_size = omega (arith, length-drop (wells s) b, length-take-le c.size.result c.fill_right_hand.new.b) in
    let columns : number_of v.result.columns ≤ 255 = subst (λ (k : ℕ). k ≤ 255) (sym v.ensures.columns) (columns_bound _ _ (omega (arith, few))) in
    let byte : number_of c.audit_figure-finding.result ≤ 255 = subst (λ (k : ℕ). k ≤ 255) (sym found) (verdict_bound _ _ columns (omega (arith, few))) in
    let node = node_is s c.args.work.now c.args.q b v.result.z d.entries.now d.finite _ _ _ _ d.laid (record {
      long = omega (arith, v.ensures.places, d.taken.now.few, d.taken.now.narrow, d.taken.now.columns);
      right = right;
      z_of_lem = v.ensures.z;
      variance_of_lem = v.ensures.variance;
      columns_of = v.ensures.columns;
      figure_of_lem =
          c.weighted_sum-figure.ensures
          ∙ ap (λ (n : ℕ). running_sum n (λ i. mul binary64 (get_or v.result.z i nan) (get_or s.values i nan))) c.wells-n.ensures;
      verdict_of_lem = found;
      scanned = d.scanned;
    }) in
    record { places = v.ensures.places; byte = omega (arith, byte); z = node.0; figure = node.1; variance = node.2; verdict = node.3 }
