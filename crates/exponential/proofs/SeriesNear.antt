-- The short series for an f below 1/512 lies within 1,100 units of 2^-62 of e^−f: its terms up to the fourth power are an upper sum, those up to the fifth a
-- lower one, and what the products cut off is a few units.
use Rattle.std.proofs.Common.{◌≡◌, ℕ, ◌+◌, ◌-◌, ◌*◌, ◌/◌, ◌^◌, ◌<◌, ◌≤◌, refl, ap, ◌∙◌, subst, le_of_lt, mul-le-mul, mul-one, mul-add, arith}
use native.Mathlib.Nat.{mul-div-le, lt-mul-div-succ}
use Rattle.series.proofs.Bounds.{from_lower, from_upper}
use Rattle.series.proofs.Near.{Near}
use Rattle.exponential.specs.Exponential.{times, short_series}
use Rattle.exponential.proofs.ShortSums.{third_low, third_high, fourth_low, fourth_high, lower_sum, upper_sum}

-- the series and its powers in units, g2, g3, g4 and g5 their quotients
under_linear : (f f2 f3 f4 g2 g3 g4 g5 : ℕ) → f < 2 ^ 53 → f3 ≤ 2 ^ 35 → 2 * g2 ≤ f2 → f3 < 6 * g3 + 6 → 24 * g4 ≤ f4
    → 24 * (2 ^ 62 + g2 + g4 - (f + g3 + g5) - 1100) + 24 * f + 4 * f3 + 26372 ≤ 24 * 2 ^ 62 + 12 * f2 + f4
under_linear f f2 f3 f4 g2 g3 g4 g5 a b c d e = omega arith

above_linear : (f f2 f3 f4 g2 g3 g4 g5 : ℕ) → f < 2 ^ 53 → g3 ≤ 2 ^ 35 → g5 ≤ 1093 → f2 < 2 * g2 + 2 → 6 * g3 ≤ f3 → f4 < 24 * g4 + 24
    → 24 * 2 ^ 62 + 12 * f2 + f4 + 14 ≤ 24 * (2 ^ 62 + g2 + g4 - (f + g3 + g5) + 1100) + 24 * f + 4 * f3
above_linear f f2 f3 f4 g2 g3 g4 g5 a b c d e h = omega arith

sixth_small : (n : ℕ) → n ≤ 2 ^ 35 → n / 6 ≤ 2 ^ 35
sixth_small n h = omega arith

small_part : (n : ℕ) → n ≤ 2 ^ 17 → n / 120 ≤ 1093
small_part n h = omega arith

-- a quotient's rest is less than the divisor
quotient : (k n : ℕ) → 0 < k → n < k * (n / k) + k
quotient k n h = subst (λ (m : ℕ). n < m) (mul-add k (n / k) 1 ∙ ap (λ (m : ℕ). k * (n / k) + m) (mul-one k)) (lt-mul-div-succ n h)

module _ (f f2 f3 f4 f5 : ℕ) (small : f < 2 ^ 53) (e2 : f2 ≡ times f f) (e3 : f3 ≡ times f f2) (e4 : f4 ≡ times f2 f2) (e5 : f5 ≡ times f2 f3) where
  square_small : f * f ≤ 2 ^ 106
  square_small = mul-le-mul (le_of_lt small) (le_of_lt small)

  fifth_small : f * f * f * f * f ≤ 131072 * (2 ^ 62 * 2 ^ 62 * 2 ^ 62 * 2 ^ 62)
  fifth_small = mul-le-mul (mul-le-mul (mul-le-mul square_small (le_of_lt small)) (le_of_lt small)) (le_of_lt small)

  second_low : f2 * 2 ^ 62 ≤ f * f
  second_low = omega arith

  second_high : f * f ≤ f2 * 2 ^ 62 + 2 ^ 62
  second_high = omega arith

  second_units : f2 ≤ 2 ^ 44
  second_units = omega (arith, square_small)

  third_units : f3 ≤ 2 ^ 35
  third_units = let h : f * f2 ≤ 2 ^ 53 * 2 ^ 44 = mul-le-mul (le_of_lt small) second_units in omega arith

  fifth_units : f5 ≤ 2 ^ 17
  fifth_units = let h : f2 * f3 ≤ 2 ^ 44 * 2 ^ 35 = mul-le-mul second_units third_units in omega arith

  fourth_units : f4 ≤ 2 ^ 26
  fourth_units = let h : f2 * f2 ≤ 2 ^ 44 * 2 ^ 44 = mul-le-mul second_units second_units in omega arith

  parts_near : Near f (2 ^ 62) (2 ^ 62) (2 ^ 62 + f2 / 2 + f4 / 24 - (f + f3 / 6 + f5 / 120)) 1100
  parts_near =
      let p = 2 ^ 62 + f2 / 2 + f4 / 24 - (f + f3 / 6 + f5 / 120) in
      record {
        under = from_lower f (2 ^ 62) (p - 1100) (2 ^ 62) (omega arith) 5 refl (omega arith)
            (lower_sum (2 ^ 62) (p - 1100) f f2 f3 f4 (omega arith) second_low
            (fourth_low (2 ^ 62) f f2 f3 f4 (omega arith) second_low second_high (omega arith))
            (third_high (2 ^ 62) f f2 f3 f4 (omega arith) second_low second_high (omega arith))
            fifth_small (under_linear f f2 f3 f4 (f2 / 2) (f3 / 6) (f4 / 24) (f5 / 120) small third_units (mul-div-le f2 2) (quotient 6 f3 (omega arith))
            (mul-div-le f4 24)));
        above = from_upper f (2 ^ 62) (p + 1100) (2 ^ 62) (omega arith) 4 refl
            (upper_sum (2 ^ 62) (p + 1100) f f2 f3 f4 (omega (arith, second_units)) second_high
            (third_low (2 ^ 62) f f2 f3 f4 (omega arith) second_low second_high (omega arith))
            (fourth_high (2 ^ 62) f f2 f3 f4 (omega arith) second_low second_high (omega arith))
            (above_linear f f2 f3 f4 (f2 / 2) (f3 / 6) (f4 / 24) (f5 / 120) small (sixth_small f3 third_units) (small_part f5 fifth_units)
            (quotient 2 f2 (omega arith)) (mul-div-le f3 6) (quotient 24 f4 (omega arith))));
      }

pub series_near : (f : ℕ) → f < 2 ^ 53 → Near f (2 ^ 62) (2 ^ 62) (short_series f) 1100
unfolding short_series
series_near f small =
    let f2 = times f f in
    let f3 = times f f2 in
    parts_near f f2 f3 (times f2 f2) (times f2 f3) small refl refl refl refl
