-- `exponential::scaled` meets its contract, by the three ranges of the exponent field (proofs/Digits.antt).
use Rattle.std.proofs.Common.{◌≡◌, ℕ, ◌-◌, ◌*◌, ◌/◌, ◌%◌, ◌^◌, ◌<◌, sym, ap, ◌∙◌, subst, arith}
use lib.Ieee.{binary64, fits, to_bits}
use Rattle.ieee.specs.Values.{multiple, fields_multiple}
use Rattle.ieee.proofs.Zero.{holds}
use Rattle.ieee.proofs.Fields.{multiple_of_bits}
use Rattle.exponential.proofs.Digits.{in_range_finite, below_cut, far_below, to_the_right, shift_below, to_the_left}
use Rattle.exponential.proofs.scaled.Goals as goal

-- return 0;
pub returns-then-field-lt965 : goal.returns-then-field-lt965
returns-then-field-lt965 c =
    let field : ℕ = to_bits binary64 c.args.u / 2 ^ 52 % 2 ^ 11 in
    let fraction : ℕ = to_bits binary64 c.args.u % 2 ^ 52 in
    let by-fields : multiple c.args.u ≡ fields_multiple field fraction =
    let u = c.args.u in
    let b = to_bits binary64 u in
    let same : b % 2 ^ 63 / 2 ^ 52 ≡ b / 2 ^ 52 % 2 ^ 11 = omega arith in
    multiple_of_bits u (holds (fits binary64 u) c.well_formed.0.1) (in_range_finite u c.requires.0 c.requires.1)
    ∙ ap (λ (n : ℕ). fields_multiple n fraction) same in
    let s = c in
    far_below field fraction c.if-field-lt965.true (omega arith) ∙ ap (λ (n : ℕ). n / 2 ^ 1017) (sym by-fields)

pub returns-then-field-lt1018 : goal.returns-then-field-lt1018
returns-then-field-lt1018 c =
    let field : ℕ = to_bits binary64 c.args.u / 2 ^ 52 % 2 ^ 11 in
    let fraction : ℕ = to_bits binary64 c.args.u % 2 ^ 52 in
    let by-fields : multiple c.args.u ≡ fields_multiple field fraction =
    let u = c.args.u in
    let b = to_bits binary64 u in
    let same : b % 2 ^ 63 / 2 ^ 52 ≡ b / 2 ^ 52 % 2 ^ 11 = omega arith in
    multiple_of_bits u (holds (fits binary64 u) c.well_formed.0.1) (in_range_finite u c.requires.0 c.requires.1)
    ∙ ap (λ (n : ℕ). fields_multiple n fraction) same in
    let s = c in
    to_the_right field fraction (1018 - field) (omega arith) (omega arith) ∙ ap (λ (n : ℕ). n / 2 ^ 1017) (sym by-fields)

-- digits << (field - 1018)
pub overflow_shl-result : goal.overflow_shl-result
overflow_shl-result c =
    let field : ℕ = to_bits binary64 c.args.u / 2 ^ 52 % 2 ^ 11 in
    let fraction : ℕ = to_bits binary64 c.args.u % 2 ^ 52 in
    let by-fields : multiple c.args.u ≡ fields_multiple field fraction =
    let u = c.args.u in
    let b = to_bits binary64 u in
    let same : b % 2 ^ 63 / 2 ^ 52 ≡ b / 2 ^ 52 % 2 ^ 11 = omega arith in
    multiple_of_bits u (holds (fits binary64 u) c.well_formed.0.1) (in_range_finite u c.requires.0 c.requires.1)
    ∙ ap (λ (n : ℕ). fields_multiple n fraction) same in
    let fields-below : fields_multiple field fraction < 35 * 2 ^ 1074 = subst (λ (n : ℕ). n < 35 * 2 ^ 1074) by-fields (below_cut c.args.u c.requires.0 c.requires.1) in
    let s = c in
    shift_below field fraction (field - 1018) (omega arith) fields-below

pub returns : goal.returns
returns c =
    let field : ℕ = to_bits binary64 c.args.u / 2 ^ 52 % 2 ^ 11 in
    let fraction : ℕ = to_bits binary64 c.args.u % 2 ^ 52 in
    let by-fields : multiple c.args.u ≡ fields_multiple field fraction =
    let u = c.args.u in
    let b = to_bits binary64 u in
    let same : b % 2 ^ 63 / 2 ^ 52 ≡ b / 2 ^ 52 % 2 ^ 11 = omega arith in
    multiple_of_bits u (holds (fits binary64 u) c.well_formed.0.1) (in_range_finite u c.requires.0 c.requires.1)
    ∙ ap (λ (n : ℕ). fields_multiple n fraction) same in
    let fields-below : fields_multiple field fraction < 35 * 2 ^ 1074 = subst (λ (n : ℕ). n < 35 * 2 ^ 1074) by-fields (below_cut c.args.u c.requires.0 c.requires.1) in
    let s = c in
    to_the_left field fraction (field - 1018) (omega arith) fields-below ∙ ap (λ (n : ℕ). n / 2 ^ 1017) (sym by-fields)
