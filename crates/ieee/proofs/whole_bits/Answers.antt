-- `ieee::whole_bits` meets its contract, by the three ranges of the exponent field.
use Rattle.std.proofs.Common.{◌≡◌, ℕ, ◌-◌, ◌*◌, ◌/◌, ◌%◌, ◌^◌, sym, subst, arith}
use Rattle.ieee.specs.Whole.{WholeBits}
use Rattle.ieee.proofs.WholeBits.{below_one, own_whole, power_small, cleared}
use Rattle.ieee.proofs.whole_bits.Goals as goal

pub returns-then-field-lt1023 : goal.returns-then-field-lt1023
returns-then-field-lt1023 c = below_one c.args.bits c.if-field-lt1023.true

pub returns-then-field-lt1075 : goal.returns-then-field-lt1075
returns-then-field-lt1075 c =
    let digits : ℕ = 1075 - c.args.bits / 2 ^ 52 in
    let step : 1 * 2 ^ digits % 2 ^ 64 ≡ 2 ^ digits = power_small digits (omega arith) in
    let bits = c.args.bits in
    subst (λ (n : ℕ). WholeBits bits (bits - bits % n)) (sym step) (cleared bits digits (omega arith) (omega arith))

pub returns : goal.returns
returns c = own_whole c.args.bits c.if-field-lt1075.false
