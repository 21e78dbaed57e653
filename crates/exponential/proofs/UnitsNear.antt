-- The product of the three parts lies within 1,140 units of 2^-62 of e^−u, for every u below 35 whose first digits are w·2^-57. u is (w·32·b + rest) /
-- (2^62·b), with b
-- left open: 2^1012 where u is a multiple of 2^-1074.
use Rattle.std.proofs.Common.{◌≡◌, ℕ, ◌+◌, ◌-◌, ◌*◌, ◌/◌, ◌%◌, ◌^◌, ◌<◌, ◌≤◌, sym, refl, ap, ◌∙◌, subst, le_refl, add-zero, le_of_lt, mul_comm, add-mul, mul-le-mul_left, mul-pos, one-mul, pow-suc, zero-add, zero-mul, mul-one, sub-add_cancel, div-mul-le_self, arith}
use native.Mathlib.Nat.{pow-zero}
use native.Mathlib.Nat.{lt-div-mul-add}
use Rattle.series.specs.Series.{over, added, taken}
use Rattle.series.proofs.Bounds.{from_lower, from_upper}
use Rattle.series.proofs.Near.{Near, near_product}
use Rattle.series.proofs.Scale.{near_scaled}
use Rattle.exponential.specs.Exponential.{whole, fraction, times, short_series, units}
use Rattle.exponential.proofs.Units.{whole_part_le, fraction_part_le, series_part_le, parts_le, units_le}
use Rattle.exponential.proofs.Rule.{whole_near, fraction_near}
use Rattle.exponential.proofs.SeriesNear.{series_near}

-- what is left of u, below 2^-57: 1 is within 32 units of e^−rest
rest_lower : (z b r : ℕ) → 32 ≤ z → r ≤ 32 * b → (z - 32) * (1 * (z * b * 1)) + z * (0 * (z * b * 1) + r) ≤ z * (1 * (z * b * 1) + 0)
rest_lower z b r large h =
    let whole : z * (z * b) ≡ (z - 32) * (z * b) + 32 * (z * b) = ap (λ (n : ℕ). n * (z * b)) (sym (sub-add_cancel large)) ∙ add-mul (z - 32) 32 (z * b) in
    let part : z * r ≤ z * (32 * b) = mul-le-mul_left z h in
    simp (one-mul, mul-one, zero-mul, zero-add, add-zero) (omega (arith, whole, part))

rest_near : (b r : ℕ) → 0 < b → r < 32 * b → Near r (2 ^ 62 * b) (2 ^ 62) (2 ^ 62) 32
unfolding over added taken
rest_near b r positive h =
    let U = 2 ^ 62 * b in
    let large : 0 < U = mul-pos (omega arith) positive in
    record {
      under = from_lower r U (2 ^ 62 - 32) (2 ^ 62) large 1 refl (omega arith)
          (subst (λ (n : ℕ). (2 ^ 62 - 32) * (1 * (U * 1)) + 2 ^ 62 * (0 * (U * 1) + n) ≤ 2 ^ 62 * (1 * (U * 1) + 0))
          (sym (pow-suc r 0 ∙ ap (λ (n : ℕ). n * r) (pow-zero r) ∙ one-mul r))
          (rest_lower (2 ^ 62) b r (omega arith) (le_of_lt h)));
      above = from_upper r U (2 ^ 62 + 32) (2 ^ 62) large 0 refl (omega arith);
    }

one_more : (n : ℕ) → n < n + 2 ^ 62
one_more n = omega arith

-- w·2^-57 by its three parts
digits : (w b : ℕ) → 2 ^ 62 * b * (w / 2 ^ 57) + 2 ^ 53 * b * (w / 2 ^ 48 % 512) + b * (w % 2 ^ 48 * 2 ^ 5) ≡ w * (32 * b)
digits w b =
    let e : w ≡ w / 2 ^ 57 * 2 ^ 57 + w / 2 ^ 48 % 512 * 2 ^ 48 + w % 2 ^ 48 = omega arith in
    apart (w / 2 ^ 57) (w / 2 ^ 48 % 512) (w % 2 ^ 48) ∙ ap (λ (n : ℕ). n * (32 * b)) (sym e)
  where
    apart : (k i g : ℕ) → 2 ^ 62 * b * k + 2 ^ 53 * b * i + b * (g * 2 ^ 5) ≡ (k * 2 ^ 57 + i * 2 ^ 48 + g) * (32 * b)
    apart k i g = omega arith

module _ (w b : ℕ) (below : w < 35 * 2 ^ 57) (b-positive : 0 < b) where
  U : ℕ
  U = 2 ^ 62 * b

  U-positive : 0 < U
  unfolding U
  U-positive = mul-pos (omega arith) b-positive

  cut_low : (y z : ℕ) → times y z * 2 ^ 62 ≤ y * z
  cut_low y z = div-mul-le_self (y * z) (2 ^ 62)

  cut_high : (y z : ℕ) → y * z < times y z * 2 ^ 62 + 2 ^ 62
  cut_high y z = lt-div-mul-add (omega arith)

  whole_part : Near (2 ^ 62 * b * (w / 2 ^ 57)) U (2 ^ 62) (whole (w / 2 ^ 57)) 1
  unfolding U
  whole_part =
      subst (λ (d : ℕ). Near (2 ^ 62 * b * (w / 2 ^ 57)) d (2 ^ 62) (whole (w / 2 ^ 57)) 1) (mul-one (2 ^ 62 * b))
      (near_scaled (2 ^ 62 * b) (w / 2 ^ 57) 1 (2 ^ 62) (whole (w / 2 ^ 57)) 1 (whole_near (w / 2 ^ 57) (omega arith)))

  fraction_part : Near (2 ^ 53 * b * (w / 2 ^ 48 % 512)) U (2 ^ 62) (fraction (w / 2 ^ 48 % 512)) 1
  unfolding U
  fraction_part =
      let e : 2 ^ 53 * b * 512 ≡ 2 ^ 62 * b = omega arith in
      subst (λ (d : ℕ). Near (2 ^ 53 * b * (w / 2 ^ 48 % 512)) d (2 ^ 62) (fraction (w / 2 ^ 48 % 512)) 1) e
      (near_scaled (2 ^ 53 * b) (w / 2 ^ 48 % 512) 512 (2 ^ 62) (fraction (w / 2 ^ 48 % 512)) 1 (fraction_near (w / 2 ^ 48 % 512) (omega arith)))

  series_part : Near (b * (w % 2 ^ 48 * 2 ^ 5)) U (2 ^ 62) (short_series (w % 2 ^ 48 * 2 ^ 5)) 1100
  unfolding U
  series_part =
      subst (λ (d : ℕ). Near (b * (w % 2 ^ 48 * 2 ^ 5)) d (2 ^ 62) (short_series (w % 2 ^ 48 * 2 ^ 5)) 1100) (mul_comm b (2 ^ 62))
      (near_scaled b (w % 2 ^ 48 * 2 ^ 5) (2 ^ 62) (2 ^ 62) (short_series (w % 2 ^ 48 * 2 ^ 5)) 1100 (series_near (w % 2 ^ 48 * 2 ^ 5) (omega arith)))

  pub units_near : (rest : ℕ) → rest < 32 * b → Near (w * (32 * b) + rest) (2 ^ 62 * b) (2 ^ 62) (units w) 1140
  unfolding U units
  units_near rest h =
      let k = whole (w / 2 ^ 57) in
      let i = fraction (w / 2 ^ 48 % 512) in
      let s = short_series (w % 2 ^ 48 * 2 ^ 5) in
      let a1 = 2 ^ 62 * b * (w / 2 ^ 57) in
      let a2 = 2 ^ 53 * b * (w / 2 ^ 48 % 512) in
      let a3 = b * (w % 2 ^ 48 * 2 ^ 5) in
      let two : Near (a1 + a2) U (2 ^ 62) (times k i) 4 =
      near_product a1 a2 U (2 ^ 62) k i 1 1 (times k i) U-positive (omega arith) whole_part fraction_part (whole_part_le w below) (fraction_part_le w below)
      (omega arith) (cut_low k i) (cut_high k i) in
      let three : Near (a1 + a2 + a3) U (2 ^ 62) (times (times k i) s) 1106 =
      near_product (a1 + a2) a3 U (2 ^ 62) (times k i) s 4 1100 (times (times k i) s) U-positive (omega arith) two series_part (parts_le w below)
      (series_part_le w below)
      (omega arith) (cut_low (times k i) s) (cut_high (times k i) s) in
      let four : Near (a1 + a2 + a3 + rest) U (2 ^ 62) (units w) 1140 =
      near_product (a1 + a2 + a3) rest U (2 ^ 62) (units w) (2 ^ 62) 1106 32 (units w) U-positive (omega arith) three (rest_near b rest b-positive h)
      (units_le w below)
      (le_refl (2 ^ 62)) (omega arith) (le_refl (units w * 2 ^ 62)) (one_more (units w * 2 ^ 62)) in
      subst (λ (a : ℕ). Near (a + rest) U (2 ^ 62) (units w) 1140) (digits w b) four
