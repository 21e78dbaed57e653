-- `ieee::nearest_root` meets its contract: the fields of the pattern, the digits of the root, and the pattern put together.
use Rattle.std.proofs.Common.{ℕ, ◌+◌, ◌-◌, ◌*◌, ◌/◌, ◌%◌, ◌^◌, ◌<◌, ◌≤◌, sym, ap, ◌∙◌, subst, arith}
use lib.Ieee.{binary64, fits, to_bits, of_bits}
use Rattle.ieee.specs.Values.{multiple}
use Rattle.ieee.proofs.Zero.{holds}
use Rattle.ieee.proofs.RootCall.{AboveZero, above_zero, positive_number, doubled, root_bound, no_nan, root_of_normalised}
use Rattle.ieee.proofs.nearest_root.Goals as goal

-- let bits = f64::to_bits(x);
pub float_to_bits-bits : goal.float_to_bits-bits
float_to_bits-bits c = positive_number c.args.x c.requires

-- let scaled = normalised(bits / 0x10_0000_0000_0000, bits % 0x10_0000_0000_0000);
pub normalised-scaled-requires : goal.normalised-scaled-requires
normalised-scaled-requires c =
    let fields : AboveZero c.args.x (to_bits binary64 c.args.x) = above_zero c.args.x (holds (fits binary64 c.args.x) c.well_formed.0.1) c.requires in
    (fields.field, omega arith, fields.some)

pub overflow_add-result : goal.overflow_add-result
overflow_add-result c =
    let bounded : (let d = c.normalised-scaled.result in d.significand * (1 + d.exponent % 2) ≤ 2 ^ 54 - 2) = let d = c.normalised-scaled in doubled d.result.significand d.result.exponent d.ensures.upper in
    let root_small : c.whole_root-root.result < 2 ^ 54 =
    let d = c.normalised-scaled in
    subst (λ (n : ℕ). n < 2 ^ 54) (sym c.whole_root-root.ensures) (root_bound (d.result.significand * (1 + d.result.exponent % 2)) bounded) in
    omega (arith, root_small)

pub float_from_bits-result : goal.float_from_bits-result
float_from_bits-result c =
    let bounded : (let d = c.normalised-scaled.result in d.significand * (1 + d.exponent % 2) ≤ 2 ^ 54 - 2) = let d = c.normalised-scaled in doubled d.result.significand d.result.exponent d.ensures.upper in
    let root_small : c.whole_root-root.result < 2 ^ 54 =
    let d = c.normalised-scaled in
    subst (λ (n : ℕ). n < 2 ^ 54) (sym c.whole_root-root.ensures) (root_bound (d.result.significand * (1 + d.result.exponent % 2)) bounded) in
    let d = c.normalised-scaled in
    no_nan _ _ (omega (arith, d.ensures.greatest)) (omega (arith, root_small))

pub returns : goal.returns
returns c =
    let fields : AboveZero c.args.x (to_bits binary64 c.args.x) = above_zero c.args.x (holds (fits binary64 c.args.x) c.well_formed.0.1) c.requires in
    let s = c in
    let x = s.args.x in
    let b = to_bits binary64 x in
    let d = c.normalised-scaled in
    ap (λ (q : ℕ). of_bits binary64 ((d.result.exponent / 2 - 26) * 2 ^ 52 + (q + 1) / 2)) c.whole_root-root.ensures
    ∙ root_of_normalised (multiple x) (b / 2 ^ 52) (b % 2 ^ 52) d.result.significand d.result.exponent d.ensures fields.value
