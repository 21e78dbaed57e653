-- What a number's text must be leaves one text: whatever reads so is what is printed.
use Prim.Native.Nat.{ℕ, ◌+◌, ◌-◌, ◌*◌, ◌/◌, ◌%◌, ◌^◌, ◌≤◌, ◌<◌}
use native.Mathlib.Nat.{mul_assoc, mul_comm, mul-le-mul_right, one-mul, pow-suc, pow-le-pow_right, le_trans, lt_of_lt_of_le}
use native.Mathlib.Decide.{dec_lt}
use native.Mathlib.Omega.{arith}
use mathlib.Core.Path.{◌≡◌, refl, ap, ap₂, sym, ◌∙◌}
use mathlib.Core.Logic.{inl, inr}
use mathlib.Core.List.{List, [], ◌∷◌}
use borrow.Author.Tests.{lt-ltb, le-ltb}
use lib.Arith.{digits_div, digits_mod}
use lib.Dec.{lit<}
use lib.ListN.{length}
use Rattle.report.specs.Numerals.{decimal_text, hex_text}
use Rattle.report.specs.Reading.{IsTen, IsSixteen, meant, read_after, Each, Decimal, Hexadecimal}
use Rattle.report.proofs.Reading.{decimal_reads, hex_reads}

-- ---- digits: what each means is below the base, and no other means it
meant_low : (b : ℕ) → b < 97 → meant b ≡ b - 48
unfolding meant
meant_low b h = rw (lt-ltb b 97, meant)

meant_high : (b : ℕ) → 97 ≤ b → meant b ≡ b - 87
unfolding meant
meant_high b h = rw (le-ltb b 97, meant)

-- a kind of digits in a base
record Digits (base : ℕ) (P : ℕ → Type 0) : Type 0 where
  below : (b : ℕ) → P b → meant b < base
  alone : (a b : ℕ) → P a → P b → meant a ≡ meant b → a ≡ b

tens : Digits 10 IsTen
tens = record {
  below = λ b p. let e = meant_low b (omega arith) in omega arith;
  alone = λ a b p q h. let e = meant_low a (omega arith) in let f = meant_low b (omega arith) in omega arith;
}

sixteens : Digits 16 IsSixteen
sixteens = record { below = bound; alone = same }
  where
    bound : (b : ℕ) → IsSixteen b → meant b < 16
    bound b (inl p) = let e = meant_low b (omega arith) in omega arith
    bound b (inr p) = let e = meant_high b (omega arith) in omega arith

    same : (a b : ℕ) → IsSixteen a → IsSixteen b → meant a ≡ meant b → a ≡ b
    same a b (inl p) (inl q) h = let e = meant_low a (omega arith) in let f = meant_low b (omega arith) in omega arith
    same a b (inl p) (inr q) h = let e = meant_low a (omega arith) in let f = meant_high b (omega arith) in omega arith
    same a b (inr p) (inl q) h = let e = meant_high a (omega arith) in let f = meant_low b (omega arith) in omega arith
    same a b (inr p) (inr q) h = let e = meant_high a (omega arith) in let f = meant_high b (omega arith) in omega arith

-- texts of one length that read alike are the same
same_text : {base : ℕ} {P : ℕ → Type 0} → Digits base P → (n m : ℕ) (xs ys : List ℕ) → length xs ≡ length ys → Each P xs → Each P ys
    → read_after base n xs ≡ read_after base m ys → (n ≡ m) × (xs ≡ ys)
same_text d n m [] [] l p q h = (h, refl)
same_text d n m [] (y ∷ ys) l p q h = absurd (omega arith)
same_text d n m (x ∷ xs) [] l p q h = absurd (omega arith)
same_text {base} d n m (x ∷ xs) (y ∷ ys) l p q h =
    let r = same_text d (n * base + meant x) (m * base + meant y) xs ys (omega arith) p.1 q.1 h in
    let bx = d.below x p.0 in
    let by = d.below y q.0 in
    let e : n ≡ m = sym (digits_div n bx) ∙ ap (λ (k : ℕ). k / base) r.0 ∙ digits_div m by in
    let f : meant x ≡ meant y = sym (digits_mod n bx) ∙ ap (λ (k : ℕ). k % base) r.0 ∙ digits_mod m by in
    (e, ap₂ (λ (b : ℕ) (bs : List ℕ). b ∷ bs) (d.alone x y p.0 q.0 f) r.1)

pub hex_unique : (n : ℕ) (text : List ℕ) → n < 2 ^ 64 → Hexadecimal n text → text ≡ hex_text n
hex_unique n text b h =
    let g = hex_reads n b in
    (same_text sixteens 0 0 text (hex_text n) (h.sixteen ∙ sym g.sixteen) h.digits g.digits (h.reads ∙ sym g.reads)).1

-- ---- decimal: how long a text is follows from the number
shifted : (n p : ℕ) → n * (p * 10) ≡ n * 10 * p
shifted n p = ap (λ (k : ℕ). n * k) (mul_comm p 10) ∙ sym (mul_assoc n 10 p)

at_least : (n : ℕ) (xs : List ℕ) → n * 10 ^ length xs ≤ read_after 10 n xs
at_least n [] = omega arith
at_least n (x ∷ xs) =
    let p = 10 ^ length xs in
    rw (pow-suc 10 (length xs), shifted n p) (le_trans (mul-le-mul_right p (omega arith)) (at_least (n * 10 + meant x) xs))

below : (n : ℕ) (xs : List ℕ) → Each IsTen xs → read_after 10 n xs < (n + 1) * 10 ^ length xs
below n [] e = omega arith
below n (x ∷ xs) e =
    let p = 10 ^ length xs in
    let b = tens.below x e.0 in
    rw (pow-suc 10 (length xs), shifted (n + 1) p) (lt_of_lt_of_le (below (n * 10 + meant x) xs e.1) (mul-le-mul_right p (omega arith)))

-- of two texts of one number neither is longer
no_longer : (n : ℕ) (xs ys : List ℕ) → Decimal n xs → Decimal n ys → length ys ≤ length xs
no_longer n xs [] d e = omega arith
no_longer n xs (y ∷ ys) d e =
    elim (dec_lt (length xs) (length (y ∷ ys))) [
      | yes l ↦
          let front : 48 < y = e.no_zero_in_front (omega (arith, d.some)) in
          let one : 1 ≤ 0 * 10 + meant y = let m = meant_low y (omega (arith, e.digits.0.1)) in omega arith in
          let high = le_trans (mul-le-mul_right (10 ^ length ys) one) (at_least (0 * 10 + meant y) ys) in
          let low = below 0 xs d.digits in
          let more = pow-le-pow_right {n = 10} (lit< tt) {i = length xs} {j = length ys} (omega arith) in
          absurd (omega (arith, d.reads, e.reads, one-mul (10 ^ length ys), one-mul (10 ^ length xs)))
      | no m ↦ omega arith
    ]

pub decimal_unique : (n : ℕ) (text : List ℕ) → Decimal n text → text ≡ decimal_text n
decimal_unique n text d =
    let g = decimal_reads n in
    let a = no_longer n text (decimal_text n) d g in
    let b = no_longer n (decimal_text n) text g d in
    (same_text tens 0 0 text (decimal_text n) (omega arith) d.digits g.digits (d.reads ∙ sym g.reads)).1
