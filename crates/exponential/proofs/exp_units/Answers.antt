-- `exponential::exp_units` meets its contract: the three parts of e^−u are at most 1, so that their products may be asked for.
use Rattle.std.proofs.Common.{◌≡◌, ℕ, min, ◌^◌, ◌≤◌, sym, subst, arith}
use Rattle.exponential.specs.Exponential.{units_by, times}
use Rattle.exponential.proofs.Times.{times_le}
use Rattle.exponential.proofs.Units.{whole_part_le, series_part_le}
use Rattle.exponential.proofs.exp_units.Goals as goal

-- product(whole, fraction)
-- the whole part's entry times one of the table that is lent
first_le : (p x y v m : ℕ) → p ≡ times x y → x ≡ v → y ≡ min m (2 ^ 62) → v ≤ 2 ^ 62 → p ≤ 2 ^ 62
first_le p x y v m e f g h =
    let k : x ≤ 2 ^ 62 = omega arith in
    let l : y ≤ 2 ^ 62 = omega arith in
    subst (λ (n : ℕ). n ≤ 2 ^ 62) (sym e) (times_le _ _ (2 ^ 62) k l)

pub product-requires : goal.product-requires
product-requires c =
    let s = c in
    (omega (arith, whole_part_le s.args.w s.requires), omega arith)

pub product-requires-2 : goal.product-requires-2
product-requires-2 c =
    let first-le : c.product.result ≤ 2 ^ 62 =
    first_le _ _ _ _ _ c.product.ensures c.whole_entry-whole.ensures c.fraction_entry-fraction.ensures (whole_part_le c.args.w c.requires) in
    (first-le, subst (λ (n : ℕ). n ≤ 2 ^ 62) (sym c.short_series.ensures) (series_part_le c.args.w c.requires))

pub returns : goal.returns
unfolding units_by
returns c =
    let first-le : c.product.result ≤ 2 ^ 62 =
    first_le _ _ _ _ _ c.product.ensures c.whole_entry-whole.ensures c.fraction_entry-fraction.ensures (whole_part_le c.args.w c.requires) in
    let l : c.short_series.result ≤ 2 ^ 62 = subst (λ (n : ℕ). n ≤ 2 ^ 62) (sym c.short_series.ensures) (series_part_le c.args.w c.requires) in
    (cc, subst (λ (n : ℕ). n ≤ 2 ^ 62) (sym c.product-2.ensures) (times_le _ _ (2 ^ 62) first-le l))
