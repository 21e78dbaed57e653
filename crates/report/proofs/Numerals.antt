-- Texts of numbers: they are what the kit's digits are, and how long they are.
use Prim.Native.Nat.{ℕ, zero, suc, ◌+◌, ◌-◌, ◌/◌, ◌%◌, ◌^◌, ◌≤◌, ◌<◌, min, max}
use native.Mathlib.Nat.{not-suc-le-zero, pow-suc, pow-le-pow_right}
use native.Mathlib.Numerals.{add-one}
use native.Mathlib.Decide.{dec_lt}
use native.Mathlib.Omega.{arith}
use mathlib.Core.Path.{◌≡◌, refl, ap, ap₂, sym, ◌∙◌}
use mathlib.Core.List.{List, [], ◌∷◌, ◌++◌}
use borrow.Author.Tests.{lt-ltb, le-ltb}
use lib.Dec.{lit<}
use lib.ListN.{length, length-append}
use lib.Ieee.{Float, nan, inf, fin, binary64, to_bits}
use Rattle.io.specs.Digits.{hex_digit_ascii, last_digits, IsDigitCount}
use Rattle.report.specs.Numerals.{digit, in_tens, decimal_text, in_sixteens, hex_text, bits_of, bits_text}
use Rattle.report.proofs.Digits.{digit_glyph}

-- one digit more, at the end
snoc : {xs ys : List ℕ} {x y : ℕ} → xs ≡ ys → x ≡ y → xs ++ (x ∷ []) ≡ ys ++ (y ∷ [])
snoc e f = ap₂ (λ (zs : List ℕ) (z : ℕ). zs ++ (z ∷ [])) e f

pub length-snoc : (xs : List ℕ) (x : ℕ) → length (xs ++ (x ∷ [])) ≡ length xs + 1
length-snoc xs x = length-append xs (x ∷ [])

-- ---- decimal
-- one step: a number below ten, and any other
pub one_digit : (steps n : ℕ) → n < 10 → in_tens (suc steps) n ≡ digit n ∷ []
unfolding in_tens
one_digit steps n h = rw (lt-ltb n 10, in_tens)

pub more_digits : (steps n : ℕ) → 10 ≤ n → in_tens (suc steps) n ≡ in_tens steps (n / 10) ++ (digit (n % 10) ∷ [])
unfolding in_tens
more_digits steps n h = rw (le-ltb n 10, in_tens)

-- a number whose fewest digits are two or more is no less than the least of so many
at_least : (k n : ℕ) → IsDigitCount 10 1 n (suc (suc k)) → 10 ^ suc k ≤ n
at_least k n f = let e : suc (suc k) - 1 ≡ suc k = omega arith in (rw e at f).2 (omega arith)

-- the fewest digits of n, less its last, are the fewest of n / 10
fewer : (k n : ℕ) → IsDigitCount 10 1 n (suc (suc k)) → IsDigitCount 10 1 (n / 10) (suc k)
fewer k n f =
    let p = pow-suc 10 (suc k) in
    let q = pow-suc 10 k in
    let e : suc k - 1 ≡ k = omega arith in
    let g = at_least k n f in
    (omega arith, omega (arith, f.1), λ h. rw e (omega arith))

-- what the kit writes in the fewest digits is the text
as_tens : (k steps n : ℕ) → IsDigitCount 10 1 n k → n < steps → last_digits 10 k n ≡ in_tens steps n
as_tens zero steps n f h = absurd (not-suc-le-zero f.0)
as_tens (suc k) zero n f h = absurd (not-suc-le-zero h)
as_tens (suc zero) (suc steps) n f h =
    let e : n % 10 ≡ n = omega (arith, f.1) in
    ap (λ (d : ℕ). d ∷ []) (ap hex_digit_ascii e ∙ sym (digit_glyph n (omega (arith, f.1)))) ∙ sym (one_digit steps n f.1)
as_tens (suc (suc k)) (suc steps) n f h =
    let p = pow-suc 10 k in
    let g = at_least k n f in
    let q : 0 < 10 ^ k = pow-le-pow_right (lit< tt) {i = 0} {j = k} (omega arith) in
    snoc (as_tens (suc k) steps (n / 10) (fewer k n f) (omega arith)) (sym (digit_glyph (n % 10) (omega arith)))
    ∙ sym (more_digits steps n (omega arith))

pub is_decimal : (k n : ℕ) → IsDigitCount 10 1 n k → last_digits 10 k n ≡ decimal_text n
unfolding decimal_text
is_decimal k n f = as_tens k (suc n) n f (omega arith)

-- no more digits than it takes
tens_length : (k steps n : ℕ) → 0 < k → n < 10 ^ k → length (in_tens steps n) ≤ k
unfolding in_tens
tens_length k zero n h g = omega arith
tens_length zero (suc steps) n h g = absurd (not-suc-le-zero h)
tens_length (suc k) (suc steps) n h g =
    elim (dec_lt n 10) [
      | yes p ↦ rw (one_digit steps n p) (omega arith)
      | no m ↦
          let big : 10 ≤ n = omega arith in
          let p = pow-suc 10 k in
          let s = tens_length k steps (n / 10) (some_left k n big g) (omega arith) in
          rw (more_digits steps n big) (omega (arith, length-snoc (in_tens steps (n / 10)) (digit (n % 10))))
    ]
  where
    some_left : (k n : ℕ) → 10 ≤ n → n < 10 ^ suc k → 0 < k
    some_left zero n b g = omega arith
    some_left (suc k) n b g = omega arith

pub decimal_length_lem : (k n : ℕ) → 0 < k → n < 10 ^ k → length (decimal_text n) ≤ k
unfolding decimal_text
decimal_length_lem k n h g = tens_length k (suc n) n h g

-- ---- hexadecimal
pub as_sixteens : (k n : ℕ) → last_digits 16 k n ≡ in_sixteens k n
unfolding in_sixteens
as_sixteens zero n = refl
as_sixteens (suc k) n = snoc (as_sixteens k (n / 16)) (sym (digit_glyph (n % 16) (omega arith)))

-- a word of 64 bits takes 16 digits where no fewer are asked for
sixteen_digits : (n r : ℕ) → n < 2 ^ 64 → IsDigitCount 16 (min (max 16 1) 16) n r → r ≡ 16
sixteen_digits n r b f =
    elim (dec_lt 16 r) [
      | yes p ↦ absurd (omega (arith, f.2 p, pow-le-pow_right {n = 16} (lit< tt) {i = 16} {j = r - 1} (omega arith)))
      | no m ↦ omega (arith, f.0)
    ]

pub is_hex : (n r : ℕ) → n < 2 ^ 64 → IsDigitCount 16 (min (max 16 1) 16) n r → last_digits 16 r n ≡ hex_text n
unfolding hex_text
is_hex n r b f = as_sixteens r n ∙ ap (λ (k : ℕ). in_sixteens k n) (sixteen_digits n r b f)

pub sixteens_length : (k n : ℕ) → length (in_sixteens k n) ≡ k
unfolding in_sixteens
sixteens_length zero n = refl
sixteens_length (suc k) n = length-snoc (in_sixteens k (n / 16)) (digit (n % 16)) ∙ ap (λ (m : ℕ). m + 1) (sixteens_length k (n / 16)) ∙ add-one k

pub bits_length : (x : Float) → length (bits_text x) ≡ 16
unfolding bits_text hex_text
bits_length x = sixteens_length 16 (bits_of x)

-- the pattern of a float is the kit's, which has one NaN
pub bits_are : (x : Float) → to_bits binary64 x ≡ bits_of x
unfolding bits_of to_bits
bits_are nan = refl
bits_are (inf s) = refl
bits_are (fin s m e) = refl
