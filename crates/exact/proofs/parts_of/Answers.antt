-- `exact::parts_of` meets its contract: the bits' fields, as a significand and a shift.
use Rattle.std.proofs.Common.{◌≡◌, ℕ, true, sym, ap, ◌∙◌, arith}
use lib.Ieee.{binary64, to_bits}
use lib.Ieee.Scale.{finite}
use Rattle.ieee.specs.Values.{signed}
use Rattle.exact.specs.Units.{exponent_field, fraction_field, sign_bit}
use Rattle.exact.proofs.Units.{units_finite, units_not_finite, finite_not_nan, field_zero, field_more}
use Rattle.exact.proofs.parts_of.Goals as goal

pub float_to_bits-bits : goal.float_to_bits-bits
float_to_bits-bits c = finite_not_nan c.args.x (sym c.is_finite.ensures ∙ c.if-is_finite.true)

pub returns-then-exponent-eq0 : goal.returns-then-exponent-eq0
returns-then-exponent-eq0 c =
    let x = c.args.x in
    let b = to_bits binary64 x in
    let f : finite x ≡ true = sym c.is_finite.ensures ∙ c.if-is_finite.true in
    record {
      value = units_finite x f ∙ ap (λ (n : ℕ). signed (sign_bit b) n) (field_zero (exponent_field b) (fraction_field b) c.if-exponent-eq0.true);
      range = (omega arith, omega arith);
    }

pub returns-then-is_finite : goal.returns-then-is_finite
returns-then-is_finite c =
    let x = c.args.x in
    let b = to_bits binary64 x in
    let f : finite x ≡ true = sym c.is_finite.ensures ∙ c.if-is_finite.true in
    record {
      value = units_finite x f ∙ ap (λ (n : ℕ). signed (sign_bit b) n) (field_more (exponent_field b) (fraction_field b) c.if-exponent-eq0.false);
      range = (omega arith, omega arith);
    }

pub returns : goal.returns
returns c =
    let x = c.args.x in
    record {
      value = units_not_finite x (sym c.is_finite.ensures ∙ c.if-is_finite.false);
      range = (omega arith, omega arith);
    }
