-- `ieee::normalised` meets its contract: a subnormal significand by the place of its leading one, any other as it is.
use Rattle.std.proofs.Common.{◌≡◌, ℕ, zero, suc, ◌+◌, ◌-◌, ◌*◌, ◌%◌, ◌^◌, ◌<◌, sym, refl, subst, arith}
use lib.Count.{count_leading_zeros}
use Rattle.ieee.specs.Root.{Normalised}
use Rattle.ieee.proofs.Normal.{Top, top_of, subnormal, normal}
use Rattle.ieee.proofs.normalised.Goals as goal

pub overflow_sub-shift : goal.overflow_sub-shift
overflow_sub-shift c =
    let top : Top c.args.fraction (count_leading_zeros 64 c.args.fraction) = top_of c.args.fraction (omega arith) c.requires.1 in
    omega (arith, top.place, top.low)

pub returns-then-field-eq0 : goal.returns-then-field-eq0
returns-then-field-eq0 c =
    let top : Top c.args.fraction (count_leading_zeros 64 c.args.fraction) = top_of c.args.fraction (omega arith) c.requires.1 in
    let a = c.args.fraction in
    let z = count_leading_zeros 64 a in
    subst (λ (e : ℕ). Normalised e a (a * 2 ^ (z - 11) % 2 ^ 64) (1074 - (z - 11))) (sym c.if-field-eq0.true) (subnormal a z top)

-- a field that is not 0 is one more than another
above : (e t : ℕ) → (e ≡ 0 → ⊥) → e < 2047 → t < 2 ^ 52 → Normalised e t (2 ^ 52 + t) (1073 + e)
above zero t h small f = absurd (h refl)
above (suc e) t h small f = normal e t (omega arith) f

pub returns : goal.returns
returns c = above c.args.field c.args.fraction c.if-field-eq0.false c.requires.0 c.requires.1
