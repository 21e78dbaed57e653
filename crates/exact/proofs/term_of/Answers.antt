-- `exact::term_of` meets its contract: the product of the significands, at the place and with the shift that the sum of the two shifts gives.
use Rattle.std.proofs.Common.{ℕ, ◌+◌, ◌*◌, ◌^◌, Bool, ℤ, ◌*ℤ◌, sym, ap, ◌∙◌, ap₂, arith}
use Rattle.ieee.specs.Values.{signed}
use Rattle.exact.proofs.Terms.{unlike_product, like_product, shifted_product}
use Rattle.exact.proofs.term_of.Goals as goal

pub returns-then-a : goal.returns-then-a
returns-then-a c =
    let p = c.parts_of-a in
    let q = c.parts_of-b in
    let m = c.multiply-product in
    let s = c.shifted in
    let x : ℕ = p.result.significand * 2 ^ p.result.shift in
    let y : ℕ = q.result.significand * 2 ^ q.result.shift in
    let v : ℕ = s.result.low + 2 ^ 64 * (s.result.middle + 2 ^ 64 * s.result.high) in
    let e = shifted_product p.result.significand q.result.significand p.result.shift q.result.shift _ v m.ensures s.ensures.value in (
      ap₂ (λ (z w : ℤ). z *ℤ w) (p.ensures.value ∙ ap (λ (t : Bool). signed t x) c.if-a.true) q.ensures.value
          ∙ unlike_product q.result.negative x y
          ∙ ap₂ (λ (t : Bool) (n : ℕ). signed t n) (sym s.ensures.same.0) (e ∙ ap (λ (n : ℕ). v * 2 ^ (64 * n)) (sym s.ensures.same.1)),
      omega arith,
    )

pub returns : goal.returns
returns c =
    let p = c.parts_of-a in
    let q = c.parts_of-b in
    let m = c.multiply-product in
    let s = c.shifted-2 in
    let x : ℕ = p.result.significand * 2 ^ p.result.shift in
    let y : ℕ = q.result.significand * 2 ^ q.result.shift in
    let v : ℕ = s.result.low + 2 ^ 64 * (s.result.middle + 2 ^ 64 * s.result.high) in
    let e = shifted_product p.result.significand q.result.significand p.result.shift q.result.shift _ v m.ensures s.ensures.value in (
      ap₂ (λ (z w : ℤ). z *ℤ w) (p.ensures.value ∙ ap (λ (t : Bool). signed t x) c.if-a.false) q.ensures.value
          ∙ like_product q.result.negative x y
          ∙ ap₂ (λ (t : Bool) (n : ℕ). signed t n) (sym s.ensures.same.0) (e ∙ ap (λ (n : ℕ). v * 2 ^ (64 * n)) (sym s.ensures.same.1)),
      omega arith,
    )
