-- `exponential::exp_neg_by` meets its contract: from 35 on, from 0 up to 35, and the rest.
use Rattle.std.proofs.Common.{ℕ, ◌*◌, ◌^◌, ◌<◌, T, sym, ap, ◌∙◌, subst}
use lib.Ieee.{of_bits, div, le, lt}
use Rattle.ieee.specs.Floats.{zero_float}
use Rattle.ieee.proofs.Zero.{holds}
use Rattle.exponential.specs.Exponential.{cut, units_by, shown, exp_neg_by}
use Rattle.exponential.proofs.Cases.{from_cut, inside, elsewhere}
use Rattle.exponential.proofs.Digits.{under_cut, scaled_below}
use Rattle.exponential.proofs.exp_neg_by.Goals as goal

-- from 35 on
pub returns-then-u : goal.returns-then-u
unfolding exp_neg_by
returns-then-u c = sym (from_cut c.args.u _ c.if-u.true)

pub scaled-requires : goal.scaled-requires
scaled-requires c =
    let not_below : T (le zero_float c.args.u) = holds _ c.if-u-2.true in
    let below : T (lt c.args.u cut) = under_cut c.args.u not_below c.if-u.false in
    (not_below, below)

pub exp_units-y-requires : goal.exp_units-y-requires
exp_units-y-requires c =
    let not_below : T (le zero_float c.args.u) = holds _ c.if-u-2.true in
    let below : T (lt c.args.u cut) = under_cut c.args.u not_below c.if-u.false in
    let in-range : c.scaled.result < 35 * 2 ^ 57 =
    let t = c in
    subst (λ (n : ℕ). n < 35 * 2 ^ 57) (sym c.scaled.ensures) (scaled_below t.args.u not_below below) in
    in-range

pub returns-then-u-2 : goal.returns-then-u-2
unfolding shown exp_neg_by
returns-then-u-2 c =
    let s = c in
    let t = s in
    let u = t.args.u in
    ap shown (c.exp_units-y.ensures.0 ∙ ap (units_by t.args.lent.now) s.scaled.ensures)
    ∙ sym (inside u _ t.if-u.false t.if-u-2.true)

-- neither
pub returns : goal.returns
unfolding div of_bits exp_neg_by
returns c = sym (elsewhere c.args.u _ c.if-u.false c.if-u-2.false)
