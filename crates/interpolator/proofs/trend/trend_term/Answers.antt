-- `interpolator::trend::trend_term` meets its contract: term by term.
use native.Mathlib.Nat.{add-zero}
use native.Mathlib.Omega.{arith}
use mathlib.Core.Path.{◌≡◌, sym, ap, ◌∙◌}
use lib.ListN.{get_or}
use lib.Ieee.{Float, nan, binary64, mul}
use Rattle.variogram.specs.Distance.{axis_from}
use Rattle.interpolator_theory.specs.declared.KrigingType.TheVariants.{Universal}
use Rattle.interpolator.proofs.Entries.{term_one, term_x, term_y, term_xy, past_one, last_term}
use Rattle.interpolator.proofs.trend.trend_term.Goals as goal

-- if c == 0
pub returns-then-c-eq0 : goal.returns-then-c-eq0
returns-then-c-eq0 c = let a = c.args in term_one a.kriging_type _ a.c c.if-c-eq0.true

-- if c == 1
pub returns-then-c-eq1 : goal.returns-then-c-eq1
returns-then-c-eq1 c =
    let surface : c.args.kriging_type ≡ Universal = let a = c.args in past_one a.kriging_type a.c c.requires.0 (omega (arith, c.if-c-eq0.false)) in
    let x-is : get_or c.args.ys.now c.args.start nan ≡ axis_from c.args.ys.now c.args.start 0 = let a = c.args in ap (λ k. get_or a.ys.now k nan) (sym (add-zero a.start)) in
    x-is ∙ term_x c.args.kriging_type _ c.args.c surface c.if-c-eq1.true

-- if c == 2
pub returns-then-c-eq2 : goal.returns-then-c-eq2
returns-then-c-eq2 c =
    let surface : c.args.kriging_type ≡ Universal = let a = c.args in past_one a.kriging_type a.c c.requires.0 (omega (arith, c.if-c-eq0.false)) in
    term_y c.args.kriging_type _ c.args.c surface c.if-c-eq2.true

-- x * y
pub returns : goal.returns
returns c =
    let surface : c.args.kriging_type ≡ Universal = let a = c.args in past_one a.kriging_type a.c c.requires.0 (omega (arith, c.if-c-eq0.false)) in
    let x-is : get_or c.args.ys.now c.args.start nan ≡ axis_from c.args.ys.now c.args.start 0 = let a = c.args in ap (λ k. get_or a.ys.now k nan) (sym (add-zero a.start)) in
    let last = last_term c.args.kriging_type c.args.c c.requires.0 c.if-c-eq0.false c.if-c-eq1.false c.if-c-eq2.false in
    ap (λ (x : Float). mul binary64 x (axis_from c.args.ys.now c.args.start 1)) x-is
    ∙ term_xy c.args.kriging_type _ c.args.c surface last
