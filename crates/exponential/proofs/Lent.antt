-- By the table itself, lent, e^−u comes out.
use Rattle.std.proofs.Common.{◌≡◌, ℕ, ◌*◌, ◌/◌, ◌%◌, ◌^◌, ◌<◌, ◌≤◌, min, ap, ◌∙◌, arith}
use lib.Ieee.{Float}
use Rattle.area.proofs.Tables.{table_at}
use Rattle.ieee.specs.Values.{multiple}
use Rattle.exponential.specs.Exponential.{fraction, fraction_table, entry_of, whole, times, short_series, units, units_by, shown, by_range, exp_neg, exp_neg_by}
use Rattle.exponential.proofs.Units.{fraction_le}

capped : (n : ℕ) → n ≤ 2 ^ 62 → min n (2 ^ 62) ≡ n
capped n h = omega arith

own_entry : (i : ℕ) → i < 512 → entry_of fraction_table i ≡ fraction i
unfolding fraction_table
own_entry i h = ap (λ (n : ℕ). min n (2 ^ 62)) (table_at 512 fraction i 0 h) ∙ capped (fraction i) (fraction_le i h)

own_units : (w : ℕ) → units_by fraction_table w ≡ units w
unfolding units_by units
own_units w =
    ap (λ (n : ℕ). times (times (whole (w / 2 ^ 57)) n) (short_series (w % 2 ^ 48 * 2 ^ 5))) (own_entry (w / 2 ^ 48 % 512) (omega arith))

pub by_table : (u : Float) → exp_neg_by fraction_table u ≡ exp_neg u
unfolding exp_neg_by exp_neg
by_table u = ap (λ (n : ℕ). by_range u (shown n)) (own_units (multiple u / 2 ^ 1017))
