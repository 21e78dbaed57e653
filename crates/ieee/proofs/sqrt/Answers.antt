-- `ieee::sqrt` meets its contract, by the cases of its tests.
use Rattle.std.proofs.Common.{T, sym, ◌∙◌}
use lib.Ieee.{lt, eq, of_bits, binary64}
use lib.Ieee.Scale.{finite}
use lib.Ieee.Positive.{positive}
use Rattle.ieee.proofs.Zero.{holds, fails}
use Rattle.ieee.proofs.RootCases.{root_of_zero, positive_of, root_of_positive, root_of_infinity, no_root, nan_is}
use Rattle.ieee.proofs.sqrt.Goals as goal

-- if x == 0.0 { return x; }
pub returns-then-x : goal.returns-then-x
returns-then-x c = let x = c.args.x in root_of_zero x (holds (eq x (of_bits binary64 0)) c.if-x.true)

-- return nearest_root(x);
pub nearest_root-requires : goal.nearest_root-requires
nearest_root-requires c =
    let above : T (positive c.args.x) =
    let x = c.args.x in
    let d = c in
    positive_of x (holds (lt (of_bits binary64 0) x) d.if-x-2.true) (holds (finite x) (sym d.is_finite.ensures ∙ c.if-is_finite.true)) in
    above

pub returns-then-is_finite : goal.returns-then-is_finite
returns-then-is_finite c =
    let above : T (positive c.args.x) =
    let x = c.args.x in
    let d = c in
    positive_of x (holds (lt (of_bits binary64 0) x) d.if-x-2.true) (holds (finite x) (sym d.is_finite.ensures ∙ c.if-is_finite.true)) in
    c.nearest_root.ensures ∙ root_of_positive c.args.x above

-- return x;
pub returns-then-x-2 : goal.returns-then-x-2
returns-then-x-2 c =
    let x = c.args.x in
    let d = c in
    root_of_infinity x (holds (lt (of_bits binary64 0) x) d.if-x-2.true) (fails (finite x) (sym d.is_finite.ensures ∙ c.if-is_finite.false))

-- 0.0 / 0.0
pub returns : goal.returns
returns c =
    let x = c.args.x in
    nan_is ∙ no_root x (fails (eq x (of_bits binary64 0)) c.if-x.false) (fails (lt (of_bits binary64 0) x) c.if-x-2.false)
