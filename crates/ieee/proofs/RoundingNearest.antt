-- The kit's `round` obeys the rule of specs/Ieee754.antt, at every fraction.
use Rattle.std.proofs.Common.{◌≡◌, ℕ, zero, suc, ◌+◌, ◌-◌, ◌*◌, ◌/◌, ◌%◌, ◌^◌, ◌<◌, ◌≤◌, Bool, true, false, cond, not, T, ltb, ◌≢◌, ◌⊎◌, ℤ, ◌-ℤ◌, nat_abs, sym, refl, ap, ◌∙◌, subst, ap₂, inl, inr, le_trans, le_of_eq, lt_of_lt_of_le, mul-le-mul_right, zero-lt-suc, mul_assoc, add-mul, mul-lt-mul_of_pos_right, mul-one, mul_right_comm, not-le_of_lt, arith, lit<, lit≤, ltb→lt, nltb→le, pow_pos}
use lib.Ieee.{Float, nan, inf, fin, Format, binary64, prec, low, size, odd, units, round, le, fits, to_bits, top}
use lib.Ieee.Fits.{round_is, round-fits}
use lib.Ieee.Exact.{HasValue, odd_sign}
use lib.Ieee.Order.{drop, kept, round_mono}
use lib.Ieee.Scale.{finite, grid, overflow}
use Rattle.ieee.specs.Values.{multiple, sign_of, signed, value_of}
use Rattle.ieee.specs.Ieee754.{apart, overflow_bound, Nearest}
use Rattle.ieee.proofs.Fields.{value_multiple, value_sign, value_finite}
use Rattle.ieee.proofs.RoundingGrid.{held, on_grid}
use Rattle.ieee.proofs.RoundingWhole.{gap, kept_le, grid_near, grid_even, last_digit_even}
use Rattle.ieee.proofs.RoundingSigned.{signed_zero, signed_mul, like_apart, unlike_apart}

-- ---- `apart`, by the signs

pub same_or_not : (s t : Bool) → (s ≡ t) ⊎ (s ≡ not t)
same_or_not false false = inl refl
same_or_not false true = inr refl
same_or_not true false = inr refl
same_or_not true true = inl refl

pub apart_like : (y : Float) (s : Bool) (num den : ℕ) → sign_of y ≡ s → apart y s num den ≡ gap (multiple y * den) (num * 2 ^ 1074)
apart_like y s num den e =
    ap (λ (z : ℤ). nat_abs (z -ℤ signed s (num * 2 ^ 1074))) (signed_mul (sign_of y) (multiple y) den ∙ ap (λ (t : Bool). signed t (multiple y * den)) e)
    ∙ like_apart s (multiple y * den) (num * 2 ^ 1074)

pub apart_unlike : (y : Float) (s : Bool) (num den : ℕ) → sign_of y ≡ not s → apart y s num den ≡ multiple y * den + num * 2 ^ 1074
apart_unlike y s num den e =
    ap (λ (z : ℤ). nat_abs (z -ℤ signed s (num * 2 ^ 1074))) (signed_mul (sign_of y) (multiple y) den ∙ ap (λ (t : Bool). signed t (multiple y * den)) e)
    ∙ unlike_apart s (multiple y * den) (num * 2 ^ 1074)

-- ---- what a value is, in units of 2 ^ -1074

pub record Is (x : Float) (s : Bool) (a : ℕ) : Type 0 where
  pub is_finite : T (finite x)
  pub its_sign : sign_of x ≡ s
  pub its_multiple : multiple x ≡ a

pub is : (x : Float) (s : Bool) (a : ℕ) → HasValue x s a (2 ^ 1074) → Is x s a
is x s a v = record { is_finite = value_finite x s a (2 ^ 1074) v; its_sign = value_sign x s a (2 ^ 1074) v; its_multiple = value_multiple x s a v }

-- ---- the result of `round`: `grid` units below `overflow`, an infinity from there on

units_cases : (f : Format) (s : Bool) (q k : ℕ)
    → ((q * 2 ^ k < overflow f) × HasValue (units f s q k) s (q * 2 ^ k) (2 ^ low f)) ⊎ ((overflow f ≤ q * 2 ^ k) × (units f s q k ≡ inf s))
unfolding units
units_cases f s q k = go (ltb (q * 2 ^ k) (overflow f)) (ltb→lt (q * 2 ^ k) (overflow f)) (nltb→le (q * 2 ^ k) (overflow f))
  where
    go : (b : Bool) → (T b → q * 2 ^ k < overflow f) → (T (not b) → overflow f ≤ q * 2 ^ k)
        → ((q * 2 ^ k < overflow f) × HasValue (cond b (odd (suc (prec f)) s q k (low f)) (inf s)) s (q * 2 ^ k) (2 ^ low f))
        ⊎ ((overflow f ≤ q * 2 ^ k) × (cond b (odd (suc (prec f)) s q k (low f)) (inf s) ≡ inf s))
    go true h l = inl (h tt, odd_sign (suc (prec f)) s q k (low f))
    go false h l = inr (l tt, refl)

abbrev Cases : Float → Bool → ℕ → Type 0
Cases x s r = ((r < overflow binary64) × Is x s r) ⊎ ((overflow binary64 ≤ r) × (x ≡ inf s))

cases : (s : Bool) (num den : ℕ) → Cases (round binary64 s num den) s (grid binary64 num den)
cases s num den =
    let n = num * 2 ^ 1074 in
    let q = kept 53 n den in
    let k = drop 53 n den in
    subst (λ (x : Float). Cases x s (q * 2 ^ k)) (sym (round_is binary64 s num den))
    (elim (units_cases binary64 s q k) [
      | inl h ↦ inl (h.0, is (units binary64 s q k) s (q * 2 ^ k) h.1)
      | inr h ↦ inr h
    ])

-- ---- overflow

bound_rounds : round binary64 false overflow_bound 1 ≡ inf false
unfolding round
bound_rounds = refl

not_above : (x : Float) (s : Bool) (a : ℕ) → Is x s a → T (le (inf false) x) → ⊥
unfolding le
not_above nan s a v h = h
not_above (inf t) s a v h = v.is_finite
not_above (fin t m e) s a v h = h

-- from the bound on nothing is finite, since the bound itself is not
over : (s : Bool) (num den : ℕ) → 0 < den → overflow_bound * den ≤ num → round binary64 s num den ≡ inf s
over s num den D h = elim (cases s num den) [
  | inl c ↦ absurd (elim (cases false num den) [
    | inl v ↦ not_above (round binary64 false num den) false (grid binary64 num den) v.1
        (subst (λ (x : Float). T (le x (round binary64 false num den))) bound_rounds
        (round_mono binary64 overflow_bound 1 num den (zero-lt-suc 0) D (le_trans h (le_of_eq (sym (mul-one num))))))
    | inr v ↦ not-le_of_lt c.0 v.0
  ])
  | inr c ↦ c.1
]

bracket : (X Y Z R n : ℕ) → 2 * Z ≡ X + Y → X < Y → n < Z → Y ≤ R → gap R n ≤ gap X n → ⊥
bracket X Y Z R n e h l g k = omega arith

-- with B half-way between M and W, and n / den below B: what is no farther from n / den than M is not W or more
half_way : (M W B den n r : ℕ) → 0 < den → 2 * B ≡ M + W → M < W → n < B * den → W ≤ r → gap (r * den) n ≤ gap (M * den) n → ⊥
half_way M W B den n r D e h l g k =
    bracket (M * den) (W * den) (B * den) (r * den) n (sym (mul_assoc 2 B den) ∙ ap (λ (x : ℕ). x * den) e ∙ add-mul M W den)
    (mul-lt-mul_of_pos_right h D) l (mul-le-mul_right den g) k

under : (s : Bool) (num den : ℕ) → 0 < den → num < overflow_bound * den → T (finite (round binary64 s num den))
under s num den D h = elim (cases s num den) [
  | inl c ↦ c.1.is_finite
  | inr c ↦
      absurd (half_way ((2 ^ 53 - 1) * 2 ^ 2045) (overflow binary64) (overflow_bound * 2 ^ 1074) den (num * 2 ^ 1074) (grid binary64 num den) D refl (lit< tt)
      (lt_of_lt_of_le (mul-lt-mul_of_pos_right h (pow_pos 1074)) (le_of_eq (mul_right_comm overflow_bound den (2 ^ 1074))))
      c.0
      (grid_near 53 (num * 2 ^ 1074) den (2 ^ 53 - 1) 2045 (lit< tt) D (lit< tt)))
]

-- ---- the nearest

-- a finite f64 is c * 2 ^ g units, with c below 2 ^ 53
pub point : (y : Float) → T (fits binary64 y) → T (finite y) → (c : ℕ) × (g : ℕ) × (c < 2 ^ 53) × (multiple y ≡ c * 2 ^ g)
point nan h t = absurd t
point (inf s) h t = absurd t
point (fin s m e) h t =
    let d = held s m e h in
    let o = on_grid binary64 m e d in
    (m, o.0, d.digits, o.1.is)

near_all : (num den : ℕ) → 0 < den → (y : Float) → T (fits binary64 y) → T (finite y)
    → gap (grid binary64 num den * den) (num * 2 ^ 1074) ≤ gap (multiple y * den) (num * 2 ^ 1074)
near_all num den D y h t =
    let n = num * 2 ^ 1074 in
    let c = point y h t in
    subst (λ (z : ℕ). gap (grid binary64 num den * den) n ≤ gap (z * den) n) (sym c.3) (grid_near 53 n den c.0 c.1 (lit< tt) D c.2)

tie_all : (num den : ℕ) → 0 < den → (y : Float) → T (fits binary64 y) → T (finite y)
    → gap (grid binary64 num den * den) (num * 2 ^ 1074) ≡ gap (multiple y * den) (num * 2 ^ 1074)
    → multiple y ≢ grid binary64 num den → kept 53 (num * 2 ^ 1074) den % 2 ≡ 0
tie_all num den D y h t e ne =
    let n = num * 2 ^ 1074 in
    let c = point y h t in
    grid_even 53 n den c.0 c.1 (lit< tt) D c.2
    (subst (λ (z : ℕ). gap (grid binary64 num den * den) n ≡ gap (z * den) n) c.3 e)
    (λ (z : c.0 * 2 ^ c.1 ≡ grid binary64 num den). ne (c.3 ∙ z))

-- a zero is no nearer
near_zero : (num den : ℕ) → 0 < den → gap (grid binary64 num den * den) (num * 2 ^ 1074) ≤ num * 2 ^ 1074
near_zero num den D = le_trans (grid_near 53 (num * 2 ^ 1074) den 0 0 (lit< tt) D (lit< tt)) (at_zero den (num * 2 ^ 1074))
  where
    at_zero : (d n : ℕ) → gap (0 * d) n ≤ n
    at_zero d n = omega arith

pub finite_is : (s : Bool) (num den : ℕ) → T (finite (round binary64 s num den)) → Is (round binary64 s num den) s (grid binary64 num den)
finite_is s num den t = elim (cases s num den) [ inl c ↦ c.1 | inr c ↦ absurd (subst (λ (x : Float). T (finite x)) c.1 t) ]

pub apart_is : (x : Float) (s : Bool) (r num den : ℕ) → Is x s r → apart x s num den ≡ gap (r * den) (num * 2 ^ 1074)
apart_is x s r num den v = apart_like x s num den v.its_sign ∙ ap (λ (z : ℕ). gap (z * den) (num * 2 ^ 1074)) v.its_multiple

farther : (g n a : ℕ) → g ≤ n → g ≤ a + n
farther g n a h = omega arith

nearest_all : (s : Bool) (num den : ℕ) → 0 < den → T (finite (round binary64 s num den)) → (y : Float) → T (fits binary64 y) → T (finite y)
    → apart (round binary64 s num den) s num den ≤ apart y s num den
nearest_all s num den D t y h u =
    let n = num * 2 ^ 1074 in
    let r = grid binary64 num den in
    le_trans (le_of_eq (apart_is (round binary64 s num den) s r num den (finite_is s num den t)))
    (elim (same_or_not (sign_of y) s) [
      | inl e ↦ le_trans (near_all num den D y h u) (le_of_eq (sym (apart_like y s num den e)))
      | inr e ↦ le_trans (farther (gap (r * den) n) n (multiple y * den) (near_zero num den D)) (le_of_eq (sym (apart_unlike y s num den e)))
    ])

-- ---- the last digit of the result's pattern

last_of_sum : (a b c : ℕ) → a % 2 ≡ 0 → (a + b * 4503599627370496 + c) % 2 ≡ c % 2
last_of_sum a b c h = omega arith

sign_even : (s : Bool) → cond s (top binary64) 0 % 2 ≡ 0
sign_even false = refl
sign_even true = refl

-- the last digit of a pattern is the last one of the 53 digits that are kept of the multiple
pub last_digit : (x : Float) → T (finite x) → to_bits binary64 x % 2 ≡ multiple x / 2 ^ (size (multiple x) - 53) % 2
unfolding to_bits
last_digit nan t = absurd t
last_digit (inf s) t = absurd t
last_digit (fin s m e) t =
    let n = multiple (fin s m e) in
    last_of_sum (cond s (top binary64) 0) (size n - 53) (n / 2 ^ (size n - 53)) (sign_even s)

bits_even : (x : Float) (s : Bool) (q k : ℕ) → Is x s (q * 2 ^ k) → q ≤ 2 ^ 53 → q % 2 ≡ 0 → to_bits binary64 x % 2 ≡ 0
bits_even x s q k v l e = last_digit x v.is_finite ∙ ap (λ (z : ℕ). z / 2 ^ (size z - 53) % 2) v.its_multiple ∙ last_digit_even 53 q k (lit≤ tt) l e

-- an f64 of the other sign is as near only if it is a zero
other_sign : (g a n : ℕ) → g ≤ n → g ≡ a + n → a ≡ 0
other_sign g a n h e = omega arith

as_zero : (g a n : ℕ) → a ≡ 0 → g ≡ a + n → g ≡ gap a n
as_zero g a n h e = omega arith

factor_zero : (a d : ℕ) → 0 < d → a * d ≡ 0 → a ≡ 0
factor_zero zero d h e = refl
factor_zero (suc a) d h e = absurd (omega arith)

even_all : (s : Bool) (num den : ℕ) → 0 < den → T (finite (round binary64 s num den)) → (y : Float) → T (fits binary64 y) → T (finite y)
    → apart (round binary64 s num den) s num den ≡ apart y s num den → value_of y ≢ value_of (round binary64 s num den)
    → to_bits binary64 (round binary64 s num den) % 2 ≡ 0
even_all s num den D t y h u a ne =
    let n = num * 2 ^ 1074 in
    let x = round binary64 s num den in
    let r = grid binary64 num den in
    let v : Is x s r = finite_is s num den t in
    bits_even x s (kept 53 n den) (drop 53 n den) v (kept_le 53 n den)
    (elim (same_or_not (sign_of y) s) [
      | inl e ↦
          tie_all num den D y h u (sym (apart_is x s r num den v) ∙ a ∙ apart_like y s num den e)
          (λ (z : multiple y ≡ r). ne (ap₂ signed (e ∙ sym v.its_sign) (z ∙ sym v.its_multiple)))
      | inr e ↦
          let g : gap (r * den) n ≡ multiple y * den + n = sym (apart_is x s r num den v) ∙ a ∙ apart_unlike y s num den e in
          let o : multiple y * den ≡ 0 = other_sign (gap (r * den) n) (multiple y * den) n (near_zero num den D) g in
          let z : multiple y ≡ 0 = factor_zero (multiple y) den D o in
          tie_all num den D y h u (as_zero (gap (r * den) n) (multiple y * den) n o g)
          (λ (w : multiple y ≡ r). ne (ap (λ (i : ℕ). signed (sign_of y) i) z ∙ signed_zero (sign_of y)
          ∙ sym (ap (λ (i : ℕ). signed (sign_of x) i) (v.its_multiple ∙ sym w ∙ z) ∙ signed_zero (sign_of x))))
    ])

-- ---- the rule

sign_all : (s : Bool) (num den : ℕ) → sign_of (round binary64 s num den) ≡ s
sign_all s num den = elim (cases s num den) [ inl c ↦ c.1.its_sign | inr c ↦ ap sign_of c.1 ]

pub round_nearest : (s : Bool) (num den : ℕ) → 0 < den → Nearest (round binary64 s num den) s num den
round_nearest s num den D = record {
  in_format = round-fits binary64 s num den;
  sign = sign_all s num den;
  over = over s num den D;
  under = under s num den D;
  nearest = nearest_all s num den D;
  even = even_all s num den D;
}
