-- The texts of numbers read as the numbers, for every number: decimal without a zero in front, hexadecimal for every word.
use Prim.Native.Nat.{ℕ, zero, suc, ◌+◌, ◌*◌, ◌/◌, ◌%◌, ◌^◌, ◌≤◌, ◌<◌}
use native.Mathlib.Nat.{not-suc-le-zero, pow-suc, zero-add}
use native.Mathlib.Decide.{dec_lt}
use native.Mathlib.Omega.{arith}
use mathlib.Core.Path.{◌≡◌, refl, ◌∙◌}
use mathlib.Core.List.{List, [], ◌∷◌, ◌++◌}
use lib.ListN.{length, get_or, get_or-append}
use Rattle.report.specs.Numerals.{digit, in_tens, decimal_text, in_sixteens, hex_text}
use Rattle.report.specs.Reading.{IsTen, IsSixteen, meant, read_after, Each, Decimal, Hexadecimal}
use Rattle.report.proofs.Digits.{digit_meant, digit_low, is_ten, is_sixteen}
use Rattle.report.proofs.Numerals.{one_digit, more_digits, length-snoc, sixteens_length}

-- a digit more is read last
read_snoc : (base n : ℕ) (xs : List ℕ) (x : ℕ) → read_after base n (xs ++ (x ∷ [])) ≡ read_after base n xs * base + meant x
read_snoc base n [] x = refl
read_snoc base n (y ∷ xs) x = read_snoc base (n * base + meant y) xs x

each_snoc : (P : ℕ → Type 0) (xs : List ℕ) (x : ℕ) → Each P xs → P x → Each P (xs ++ (x ∷ []))
each_snoc P [] x e p = (p, tt)
each_snoc P (y ∷ xs) x e p = (e.0, each_snoc P xs x e.1 p)

-- a decimal text and its first digit: with one digit a number is below ten, and but for 0 no first digit is a zero
record Led (n : ℕ) (text : List ℕ) : Type 0 where
  digits : Each IsTen text
  reads : read_after 10 0 text ≡ n
  some : 0 < length text
  one : n < 10 → length text ≡ 1
  led : 0 < n → 48 < get_or text 0 0

led_one : (n : ℕ) → n < 10 → Led n (digit n ∷ [])
led_one n h = record {
  digits = (is_ten n h, tt);
  reads = zero-add (meant (digit n)) ∙ digit_meant n (omega arith);
  some = omega arith;
  one = λ b. refl;
  led = λ b. omega (arith, digit_low n h);
}

led_more : (n : ℕ) (xs : List ℕ) → 10 ≤ n → Led (n / 10) xs → Led n (xs ++ (digit (n % 10) ∷ []))
led_more n xs h l = record {
  digits = each_snoc IsTen xs (digit (n % 10)) l.digits (is_ten (n % 10) (omega arith));
  reads =
      let e = read_snoc 10 0 xs (digit (n % 10)) in
      let d = digit_meant (n % 10) (omega arith) in
      let q = l.reads in
      omega arith;
  some = omega (arith, length-snoc xs (digit (n % 10)));
  one = λ b. absurd (omega arith);
  led = λ b. let e = get_or-append xs (digit (n % 10) ∷ []) 0 0 l.some in rw e (l.led (omega arith));
}

led_tens : (steps n : ℕ) → n < steps → Led n (in_tens steps n)
led_tens zero n h = absurd (not-suc-le-zero h)
led_tens (suc steps) n h =
    elim (dec_lt n 10) [
      | yes p ↦ rw (one_digit steps n p) (led_one n p)
      | no m ↦
          let big : 10 ≤ n = omega arith in
          rw (more_digits steps n big) (led_more n (in_tens steps (n / 10)) big (led_tens steps (n / 10) (omega arith)))
    ]

-- "decimal"
pub decimal_reads : (n : ℕ) → Decimal n (decimal_text n)
unfolding decimal_text
decimal_reads n =
    let l = led_tens (suc n) n (omega arith) in
    record {
      digits = l.digits;
      reads = l.reads;
      some = l.some;
      no_zero_in_front = λ h. l.led (elim (dec_lt n 10) [ yes p ↦ absurd (omega (arith, l.one p)) | no m ↦ omega arith ]);
    }

-- ---- hexadecimal
each_sixteen : (k n : ℕ) → Each IsSixteen (in_sixteens k n)
unfolding in_sixteens
each_sixteen zero n = tt
each_sixteen (suc k) n = each_snoc IsSixteen (in_sixteens k (n / 16)) (digit (n % 16)) (each_sixteen k (n / 16)) (is_sixteen (n % 16) (omega arith))

read_sixteens : (k n : ℕ) → n < 16 ^ k → read_after 16 0 (in_sixteens k n) ≡ n
unfolding in_sixteens
read_sixteens zero n h = omega arith
read_sixteens (suc k) n h =
    let p = pow-suc 16 k in
    let q = read_sixteens k (n / 16) (omega arith) in
    let d = digit_meant (n % 16) (omega arith) in
    let e = read_snoc 16 0 (in_sixteens k (n / 16)) (digit (n % 16)) in
    omega arith

-- "16 hexadecimal digits in small letters"
pub hex_reads : (n : ℕ) → n < 2 ^ 64 → Hexadecimal n (hex_text n)
unfolding hex_text
hex_reads n h = record { digits = each_sixteen 16 n; reads = read_sixteens 16 n h; sixteen = sixteens_length 16 n }
