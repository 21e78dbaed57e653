-- What `nearest_root` hands on and what it puts together: the fields of a number above zero, and bounds.
use Rattle.std.proofs.Common.{◌≡◌, ℕ, zero, suc, ◌+◌, ◌-◌, ◌*◌, ◌/◌, ◌%◌, ◌^◌, ◌<◌, ◌≤◌, Bool, true, false, cond, not, T, eqb, leb, sym, refl, ap, ◌∙◌, subst, lt_of_le_of_lt, mul_assoc, mul-le-mul_left, arith, pow_pos, ne_eqb, leb-false}
use lib.Ieee.{Float, nan, inf, fin, binary64, fits, is_nan, nan_bits, of_bits, to_bits, of_fields}
use lib.Ieee.Bits.{of_bits-to_bits}
use lib.Ieee.Exact.{HasValue}
use lib.Ieee.Positive.{positive, positive-finite, value_pos}
use lib.Ieee.Scale.{finite}
use Rattle.ieee.specs.Values.{multiple, sign_of, fields_multiple}
use Rattle.ieee.specs.Root.{whole_root, root_of, Normalised}
use Rattle.ieee.proofs.Fields.{bits_value, multiple_of_bits, sign_of_bits}
use Rattle.ieee.proofs.WholeRoot.{root_lt, whole_root_le}
use Rattle.ieee.proofs.RootBits.{even_power, root_pattern}

pub positive_number : (x : Float) → T (positive x) → T (not (is_nan x))
unfolding is_nan
positive_number nan h = h
positive_number (inf s) h = tt
positive_number (fin s m e) h = tt

pub positive_sign : (x : Float) → T (positive x) → sign_of x ≡ false
positive_sign nan h = refl
positive_sign (inf s) h = absurd h
positive_sign (fin true m e) h = absurd h
positive_sign (fin false m e) h = refl

-- ---- a field of all ones is no finite number's
all_ones : (s : Bool) (t : ℕ) → T (finite (of_fields binary64 s 2047 t)) → ⊥
unfolding of_fields
all_ones s t h = go (eqb t 0) h
  where
    go : (b : Bool) → T (finite (cond b (inf s) nan)) → ⊥
    go true k = k
    go false k = k

pub field_below : (x : Float) → T (fits binary64 x) → T (finite x) → to_bits binary64 x % 2 ^ 63 / 2 ^ 52 < 2047
unfolding of_bits
field_below x f h =
    let b = to_bits binary64 x in
    let s = leb (2 ^ 63) b in
    let is : of_fields binary64 s (b % 2 ^ 63 / 2 ^ 52) (b % 2 ^ 52) ≡ x = of_bits-to_bits binary64 x f in
    let other : b % 2 ^ 63 / 2 ^ 52 ≡ 2047 → ⊥ =
    λ e. all_ones s (b % 2 ^ 52) (subst (λ (n : ℕ). T (finite (of_fields binary64 s n (b % 2 ^ 52)))) e (subst (λ (y : Float). T (finite y)) (sym is) h)) in
    omega arith

-- ---- the fields of a number above zero
pub record AboveZero (x : Float) (b : ℕ) : Type 0 where
  pub field : b / 2 ^ 52 < 2047
  pub some : 0 < b / 2 ^ 52 + b % 2 ^ 52
  pub value : multiple x ≡ fields_multiple (b / 2 ^ 52) (b % 2 ^ 52)

some_digit : (e t : ℕ) → 0 < fields_multiple e t → 0 < e + t
some_digit zero t h = omega arith
some_digit (suc e) t h = omega arith

pub above_zero : (x : Float) → T (fits binary64 x) → T (positive x) → AboveZero x (to_bits binary64 x)
above_zero x f p =
    let b = to_bits binary64 x in
    let h = positive-finite x p in
    let sign : leb (2 ^ 63) b ≡ false = sym (sign_of_bits x f h) ∙ positive_sign x p in
    let low : b < 2 ^ 63 = leb-false (2 ^ 63) b sign in
    let whole : b % 2 ^ 63 / 2 ^ 52 ≡ b / 2 ^ 52 = omega arith in
    let v : HasValue x false (fields_multiple (b % 2 ^ 63 / 2 ^ 52) (b % 2 ^ 52)) (2 ^ 1074) =
    subst (λ (s : Bool). HasValue x s (fields_multiple (b % 2 ^ 63 / 2 ^ 52) (b % 2 ^ 52)) (2 ^ 1074)) sign (bits_value x f h) in
    let k = field_below x f h in
    record {
      field = subst (λ (n : ℕ). n < 2047) whole k;
      some =
          subst (λ (n : ℕ). 0 < n + b % 2 ^ 52) whole (some_digit (b % 2 ^ 63 / 2 ^ 52) (b % 2 ^ 52)
          (value_pos x (fields_multiple (b % 2 ^ 63 / 2 ^ 52) (b % 2 ^ 52)) (2 ^ 1074) p (pow_pos 1074) v));
      value = multiple_of_bits x f h ∙ ap (λ (n : ℕ). fields_multiple n (b % 2 ^ 52)) whole;
    }

-- ---- a significand, or twice it
pub doubled : (s e : ℕ) → s < 2 ^ 53 → s * (1 + e % 2) ≤ 2 ^ 54 - 2
doubled s e h = let x : s * (1 + e % 2) ≤ s * 2 = mul-le-mul_left s (omega arith) in omega arith

pub not_halved : (s e : ℕ) → 2 ^ 52 ≤ s → 2 ^ 52 ≤ s * (1 + e % 2)
not_halved s e h = let x : s * 1 ≤ s * (1 + e % 2) = mul-le-mul_left s (omega arith) in omega arith

pub root_bound : (n : ℕ) → n ≤ 2 ^ 54 - 2 → whole_root 54 (n * 2 ^ 54) < 2 ^ 54
root_bound n h =
    let q = whole_root 54 (n * 2 ^ 54) in
    let x : n * 2 ^ 54 < 2 ^ 54 * 2 ^ 54 = omega arith in
    root_lt q (2 ^ 54) (lt_of_le_of_lt (whole_root_le 54 (n * 2 ^ 54)) x)

pub no_nan : (e r : ℕ) → e ≤ 2000 → r ≤ 2 ^ 53 → T (not (nan_bits binary64 (e * 2 ^ 52 + r)))
unfolding nan_bits
no_nan e r h k =
    let b = e * 2 ^ 52 + r in
    let x : b % 2 ^ 63 / 2 ^ 52 < 2047 = omega arith in
    rw (ne_eqb (b % 2 ^ 63 / 2 ^ 52) 2047 (λ (y : b % 2 ^ 63 / 2 ^ 52 ≡ 2047). omega arith)) tt

-- ---- the pattern, from a normalised significand
pub normalised_value : (v field fraction s e : ℕ) → Normalised field fraction s e → v ≡ fields_multiple field fraction
    → s * (1 + e % 2) * 4 ^ (e / 2) ≡ v * 2 ^ 1074
normalised_value v field fraction s e d is =
    mul_assoc s (1 + e % 2) (4 ^ (e / 2)) ∙ ap (λ (n : ℕ). s * n) (sym (even_power e)) ∙ d.value ∙ ap (λ (n : ℕ). n * 2 ^ 1074) (sym is)

pub root_of_normalised : (v field fraction s e : ℕ) → Normalised field fraction s e → v ≡ fields_multiple field fraction
    → of_bits binary64 ((e / 2 - 26) * 2 ^ 52 + (whole_root 54 (s * (1 + e % 2) * 2 ^ 54) + 1) / 2) ≡ root_of v
root_of_normalised v field fraction s e d is =
    sym (root_pattern v (s * (1 + e % 2)) (e / 2) (not_halved s e d.lower) (doubled s e d.upper) (let x = d.least in omega arith)
    (let x = d.greatest in omega arith)
    (normalised_value v field fraction s e d is))
