-- The tables' rule, by one computed test over each of them: every entry lies within one unit of 2^-62 of e^−(i/512), and of e^−k.
use Rattle.std.proofs.Common.{◌≡◌, ℕ, suc, ◌+◌, ◌-◌, ◌*◌, ◌^◌, ◌<◌, Bool, true, false, T, ltb, leb, sym, refl, subst, arith, ltb→lt, leb→le}
use Rattle.area.proofs.Tables.{table_length, table_at}
use Rattle.series.specs.Bracket.{Within}
use Rattle.series.specs.Series.{even, over, added, taken}
use Rattle.series.proofs.Bounds.{from_lower, from_upper}
use Rattle.series.proofs.Bracket.{within}
use Rattle.series.proofs.Near.{Near}
use Rattle.exponential.specs.Exponential.{fraction, fraction_table, whole}
use Rattle.exponential.specs.Exact.{TableRule}
use Rattle.exponential.proofs.Table.{each, passes, both, both_left, both_right}

-- x − 1 units are at most the lower sum that ends at the odd power n, and x + 1 at least the upper one that ends at the next
abbrev close : ℕ → ℕ → ℕ → ℕ → Bool
close n d a x =
    both (leb ((x - 1) * over d n + 2 ^ 62 * taken a d n) (2 ^ 62 * added a d n))
    (both (leb (2 ^ 62 * added a d (suc n)) ((x + 1) * over d (suc n) + 2 ^ 62 * taken a d (suc n))) (ltb a (n * d)))

near : (n d a x : ℕ) → 0 < d → even n ≡ false → even (suc n) ≡ true → T (close n d a x) → Near a d (2 ^ 62) x 1
near n d a x positive odd ev t =
    let low = leb ((x - 1) * over d n + 2 ^ 62 * taken a d n) (2 ^ 62 * added a d n) in
    let high = leb (2 ^ 62 * added a d (suc n)) ((x + 1) * over d (suc n) + 2 ^ 62 * taken a d (suc n)) in
    let past = ltb a (n * d) in
    let rest = both_right low (both high past) t in
    record {
      under = from_lower a d (x - 1) (2 ^ 62) positive n odd (ltb→lt a (n * d) (both_right high past rest)) (leb→le _ _ (both_left low (both high past) t));
      above = from_upper a d (x + 1) (2 ^ 62) positive (suc n) ev (leb→le _ _ (both_left high past rest));
    }

fractions_close : T (each (λ i. close 23 512 i (fraction i)) 512)
unfolding over added taken fraction
fractions_close = tt

wholes_close : T (each (λ k. close 151 1 k (whole k)) 35)
unfolding over added taken whole
wholes_close = tt

pub fraction_near : (i : ℕ) → i < 512 → Near i 512 (2 ^ 62) (fraction i) 1
fraction_near i h = near 23 512 i (fraction i) (omega arith) refl refl (passes (λ n. close 23 512 n (fraction n)) 512 fractions_close i h)

pub whole_near : (k : ℕ) → k < 35 → Near k 1 (2 ^ 62) (whole k) 1
whole_near k h = near 151 1 k (whole k) (omega arith) refl refl (passes (λ n. close 151 1 n (whole n)) 35 wholes_close k h)

pub table_rule : TableRule
unfolding fraction_table fraction
table_rule =
    record {
      many = table_length 512 fraction;
      entries = λ i h.
          subst (λ (x : ℕ). Within i 512 x (2 ^ 62) 1) (sym (table_at 512 fraction i 0 h))
          (within i 512 (fraction i) (2 ^ 62) 1 (omega arith) (fraction_near i h).under (fraction_near i h).above);
      first = table_at 512 fraction 0 0 (omega arith);
    }
