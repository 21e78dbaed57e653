-- Rounding over the whole numbers. `closest a b` is a whole number nearest to a / b, and where another one is as near it is even and the other odd.
-- `kept * 2 ^ drop`, which `round` gives, is nearest to n / den among all c * 2 ^ g with c of p binary digits. Where another one is as near, the last of its
-- p digits is even and the other's is odd.
use Rattle.std.proofs.Common.{◌≡◌, ℕ, zero, suc, pred, ◌+◌, ◌-◌, ◌*◌, ◌/◌, ◌%◌, ◌^◌, ◌<◌, ◌≤◌, Bool, true, false, not, T, eqb, leb, ◌≢◌, ◌⊎◌, sym, ap, ◌∙◌, subst, inl, inr, le_trans, le_of_eq, lt_of_lt_of_le, lt_of_le_of_lt, le_of_lt, mul-le-mul_right, mod-lt, zero-lt-suc, mul_assoc, lt-suc_self, le_antisymm, mul-lt-mul_of_pos_right, mul-pos, pow-suc, lt_of_not-le, div-add-mod', le-div_iff_mul-le, sub-add_cancel, mul_right_comm, not-le_of_lt, mul-div_cancel, arith, eqb→eq, leb→le, pow_pos, pow_mono, pow-add, shl_lt}
use Prim.Native.Nat.{compare, Ordering}
use native.Mathlib.Nat.{suc-pred-eq_of_pos, mul-mod_left}
use native.Mathlib.Nat.{div-div-eq-div-mul}
use lib.Dec.{is_le, compare_is_eq, nleb→lt, eqb_refl}
use lib.Arith.{lt_of_le-ne}
use lib.Pow.{pow-lt}
use lib.Ieee.{size, nearest}
use lib.Ieee.Digits.{size-lt, size-le, size_reaches}
use lib.Ieee.Fits.{kept-lt, nearest-le}
use lib.Ieee.Nearest.{closest}
use lib.Ieee.Order.{drop, kept}

-- how far apart two numbers are
abbrev pub gap : ℕ → ℕ → ℕ
gap a b = (a - b) + (b - a)

pub le_or_lt : (a b : ℕ) → (a ≤ b) ⊎ (b < a)
le_or_lt a b = go (leb a b) (leb→le a b) (nleb→lt a b)
  where
    go : (t : Bool) → (T t → a ≤ b) → (T (not t) → b < a) → (a ≤ b) ⊎ (b < a)
    go true h k = inl (h tt)
    go false h k = inr (k tt)

-- ---- what `compare` says

abbrev Cmp : Ordering → ℕ → ℕ → Type 0
Cmp Ordering.lt a b = a < b
Cmp Ordering.eq a b = a ≡ b
Cmp Ordering.gt a b = b < a

cmp : (a b : ℕ) → Cmp (compare a b) a b
cmp a b = go (compare a b) (leb→le a b) (nleb→lt a b) (eqb→eq a b) (λ (e : a ≡ b). subst (λ (x : ℕ). T (eqb a x)) e (eqb_refl a))
  where
    go : (o : Ordering) → (T (is_le o) → a ≤ b) → (T (not (is_le o)) → b < a) → (T (compare_is_eq o) → a ≡ b) → (a ≡ b → T (compare_is_eq o)) → Cmp o a b
    go Ordering.lt h k e n = lt_of_le-ne (h tt) n
    go Ordering.eq h k e n = e tt
    go Ordering.gt h k e n = k tt

-- ---- the multiples of b about w * b + t, for a t below b

lower_near : (w t b c : ℕ) → t * 2 ≤ b → gap (w * b) (w * b + t) ≤ gap (c * b) (w * b + t)
lower_near w t b c h = elim (le_or_lt c w) [ inl l ↦ omega (arith, mul-le-mul_right b l) | inr l ↦ omega (arith, mul-le-mul_right b l) ]

upper_near : (w t b c : ℕ) → t < b → b ≤ t * 2 → gap (suc w * b) (w * b + t) ≤ gap (c * b) (w * b + t)
upper_near w t b c g h = elim (le_or_lt c w) [ inl l ↦ omega (arith, mul-le-mul_right b l) | inr l ↦ omega (arith, mul-le-mul_right b l) ]

-- below the half the lower one is nearer than any other, above the half the upper one
lower_alone : (w t b c : ℕ) → t * 2 < b → c ≢ w → gap (w * b) (w * b + t) < gap (c * b) (w * b + t)
lower_alone w t b c h n = elim (le_or_lt c w) [
  | inl l ↦ omega (arith, mul-le-mul_right b (lt_of_le-ne l n))
  | inr l ↦ omega (arith, mul-le-mul_right b l)
]

upper_alone : (w t b c : ℕ) → t < b → b < t * 2 → c ≢ suc w → gap (suc w * b) (w * b + t) < gap (c * b) (w * b + t)
upper_alone w t b c g h n = elim (le_or_lt c w) [
  | inl l ↦ omega (arith, mul-le-mul_right b l)
  | inr l ↦ omega (arith, mul-le-mul_right b (lt_of_le-ne l (λ (e : suc w ≡ c). n (sym e))))
]

-- ---- `nearest`

tie : (w : ℕ) → (w + w % 2 ≡ w) ⊎ (w + w % 2 ≡ suc w)
tie w = go (w % 2) (mod-lt w (le_of_lt two))
  where
    two : 1 < 2
    two = omega arith

    go : (r : ℕ) → r < 2 → (w + r ≡ w) ⊎ (w + r ≡ suc w)
    go zero h = inl (omega arith)
    go (suc zero) h = inr (omega arith)
    go (suc (suc r)) h = absurd (omega arith)

tie_even : (w : ℕ) → (w + w % 2) % 2 ≡ 0
tie_even w = omega arith

nearest_near : (o : Ordering) (w t b c : ℕ) → Cmp o (t * 2) b → t < b → gap (nearest w o * b) (w * b + t) ≤ gap (c * b) (w * b + t)
nearest_near Ordering.lt w t b c h g = lower_near w t b c (le_of_lt h)
nearest_near Ordering.eq w t b c h g = elim (tie w) [
  | inl e ↦ subst (λ (x : ℕ). gap (x * b) (w * b + t) ≤ gap (c * b) (w * b + t)) (sym e) (lower_near w t b c (le_of_eq h))
  | inr e ↦ subst (λ (x : ℕ). gap (x * b) (w * b + t) ≤ gap (c * b) (w * b + t)) (sym e) (upper_near w t b c g (le_of_eq (sym h)))
]
nearest_near Ordering.gt w t b c h g = upper_near w t b c g (le_of_lt h)

ne_of_lt : (a b : ℕ) → a < b → a ≡ b → ⊥
ne_of_lt a b h e = omega arith

nearest_even : (o : Ordering) (w t b c : ℕ) → Cmp o (t * 2) b → t < b → gap (nearest w o * b) (w * b + t) ≡ gap (c * b) (w * b + t) → c ≢ nearest w o
    → nearest w o % 2 ≡ 0
nearest_even Ordering.lt w t b c h g e n = absurd (ne_of_lt _ _ (lower_alone w t b c h n) e)
nearest_even Ordering.eq w t b c h g e n = tie_even w
nearest_even Ordering.gt w t b c h g e n = absurd (ne_of_lt _ _ (upper_alone w t b c g h n) e)

-- ---- `closest`

pub closest_near : (a b c : ℕ) → 0 < b → gap (closest a b * b) a ≤ gap (c * b) a
closest_near a b c B =
    let o = compare (a % b * 2) b in
    subst (λ (x : ℕ). gap (closest a b * b) x ≤ gap (c * b) x) (div-add-mod' a b) (nearest_near o (a / b) (a % b) b c (cmp (a % b * 2) b) (mod-lt a B))

pub closest_even : (a b c : ℕ) → 0 < b → gap (closest a b * b) a ≡ gap (c * b) a → c ≢ closest a b → closest a b % 2 ≡ 0
closest_even a b c B e n =
    let o = compare (a % b * 2) b in
    nearest_even o (a / b) (a % b) b c (cmp (a % b * 2) b) (mod-lt a B)
    (subst (λ (x : ℕ). gap (closest a b * b) x ≡ gap (c * b) x) (sym (div-add-mod' a b)) e) n

-- ---- the grid: numbers c * 2 ^ g, with c of p digits

pub kept_le : (p n den : ℕ) → kept p n den ≤ 2 ^ p
kept_le p n den =
    let k = drop p n den in
    let u = den * 2 ^ k in
    le_trans (nearest-le (n / u) (compare (n % u * 2) u)) (subst (λ (x : ℕ). x < 2 ^ p) (div-div-eq-div-mul n den (2 ^ k)) (kept-lt p (n / den)))

unit : (q k den : ℕ) → q * 2 ^ k * den ≡ q * (den * 2 ^ k)
unit q k den = mul_right_comm q (2 ^ k) den ∙ mul_assoc q den (2 ^ k)

-- a number on a grid that is as coarse, or coarser, is one on this grid
coarser : (c g k : ℕ) → k ≤ g → c * 2 ^ (g - k) * 2 ^ k ≡ c * 2 ^ g
coarser c g k h = mul_assoc c (2 ^ (g - k)) (2 ^ k) ∙ ap (λ (x : ℕ). c * x) (sym (pow-add 2 (g - k) k) ∙ ap (λ (x : ℕ). 2 ^ x) (sub-add_cancel h))

leading : (z p : ℕ) → 0 < p → 0 < z - p → p - 1 + (z - p) < z
leading z p P h = omega arith

finer_place : (p g k : ℕ) → 0 < p → g < k → p + g ≤ p - 1 + k
finer_place p g k P h = omega arith

above_any : (g k : ℕ) → g < k → 0 < k
above_any g k h = omega arith

farther : (r b y n : ℕ) → gap r n ≤ gap b n → b ≤ n → y < b → gap r n < gap y n
farther r b y n h l s = omega arith

-- where digits are dropped, the leading one of the p stands for 2 ^ (p - 1 + k), which is not above n / den
leading_low : (p n den : ℕ) → 0 < p → 0 < den → 0 < drop p n den → 2 ^ (p - 1) * 2 ^ drop p n den * den ≤ n
leading_low p n den P D K =
    let k = drop p n den in
    let w = n / den in
    (le-div_iff_mul-le D).0 (le_trans (le_of_eq (sym (pow-add 2 (p - 1) k))) (size_reaches w (p - 1 + k) (leading (size w) p P K)))

-- a number on a finer grid lies below 2 ^ (p - 1 + k), which is on this grid too
finer : (p n den c g : ℕ) → 0 < p → 0 < den → c < 2 ^ p → g < drop p n den → gap (kept p n den * 2 ^ drop p n den * den) n < gap (c * 2 ^ g * den) n
finer p n den c g P D C G =
    let k = drop p n den in
    let b = 2 ^ (p - 1) in
    let low : b * 2 ^ k * den ≤ n = leading_low p n den P D (above_any g k G) in
    let less : c * 2 ^ g < b * 2 ^ k = lt_of_lt_of_le (shl_lt p g C) (le_trans (pow_mono (finer_place p g k P G)) (le_of_eq (pow-add 2 (p - 1) k))) in
    let near : gap (kept p n den * 2 ^ k * den) n ≤ gap (b * 2 ^ k * den) n =
    subst (λ (x : ℕ). gap x n ≤ gap (b * 2 ^ k * den) n) (sym (unit (kept p n den) k den))
    (subst (λ (x : ℕ). gap (kept p n den * (den * 2 ^ k)) n ≤ gap x n) (sym (unit b k den)) (closest_near n (den * 2 ^ k) b (mul-pos D (pow_pos k)))) in
    farther (kept p n den * 2 ^ k * den) (b * 2 ^ k * den) (c * 2 ^ g * den) n near low (mul-lt-mul_of_pos_right less D)

pub grid_near : (p n den c g : ℕ) → 0 < p → 0 < den → c < 2 ^ p → gap (kept p n den * 2 ^ drop p n den * den) n ≤ gap (c * 2 ^ g * den) n
grid_near p n den c g P D C =
    let k = drop p n den in
    elim (le_or_lt k g) [
      | inl h ↦
          subst (λ (x : ℕ). gap x n ≤ gap (c * 2 ^ g * den) n) (sym (unit (kept p n den) k den))
          (subst (λ (x : ℕ). gap (kept p n den * (den * 2 ^ k)) n ≤ gap x n) (sym (unit (c * 2 ^ (g - k)) k den) ∙ ap (λ (x : ℕ). x * den) (coarser c g k h))
          (closest_near n (den * 2 ^ k) (c * 2 ^ (g - k)) (mul-pos D (pow_pos k))))
      | inr h ↦ le_of_lt (finer p n den c g P D C h)
    ]

-- a number on a grid that is as coarse, as near and another one, said of the whole multiples of den * 2 ^ k
tie_on : (p n den c g : ℕ) → drop p n den ≤ g → gap (kept p n den * 2 ^ drop p n den * den) n ≡ gap (c * 2 ^ g * den) n
    → gap (kept p n den * (den * 2 ^ drop p n den)) n ≡ gap (c * 2 ^ (g - drop p n den) * (den * 2 ^ drop p n den)) n
tie_on p n den c g h e =
    let k = drop p n den in
    subst (λ (x : ℕ). gap x n ≡ gap (c * 2 ^ (g - k) * (den * 2 ^ k)) n) (unit (kept p n den) k den)
    (subst (λ (x : ℕ). gap (kept p n den * 2 ^ k * den) n ≡ gap x n) (ap (λ (x : ℕ). x * den) (sym (coarser c g k h)) ∙ unit (c * 2 ^ (g - k)) k den) e)

off : (p n den c g : ℕ) → drop p n den ≤ g → c * 2 ^ g ≢ kept p n den * 2 ^ drop p n den → c * 2 ^ (g - drop p n den) ≢ kept p n den
off p n den c g h ne z = ne (sym (coarser c g (drop p n den) h) ∙ ap (λ (x : ℕ). x * 2 ^ drop p n den) z)

pub grid_even : (p n den c g : ℕ) → 0 < p → 0 < den → c < 2 ^ p → gap (kept p n den * 2 ^ drop p n den * den) n ≡ gap (c * 2 ^ g * den) n
    → c * 2 ^ g ≢ kept p n den * 2 ^ drop p n den → kept p n den % 2 ≡ 0
grid_even p n den c g P D C e ne =
    let k = drop p n den in
    elim (le_or_lt k g) [
      | inl h ↦
          closest_even n (den * 2 ^ k) (c * 2 ^ (g - k)) (mul-pos D (pow_pos k)) (tie_on p n den c g h e) (off p n den c g h ne)
      | inr h ↦ absurd (ne_of_lt _ _ (finer p n den c g P D C h) e)
    ]

-- ---- the last of the p digits that a pattern keeps of q * 2 ^ k

double : (x y : ℕ) → x % 2 ≡ 0 → x * y % 2 ≡ 0
double x y h = ap (λ (z : ℕ). z * y % 2) (half x h) ∙ ap (λ (z : ℕ). z % 2) (mul_right_comm (x / 2) 2 y) ∙ mul-mod_left (x / 2 * y) 2
  where
    half : (x : ℕ) → x % 2 ≡ 0 → x ≡ x / 2 * 2
    half x h = omega arith

one_more : (z p k : ℕ) → k < z - p → z ≤ suc (p + k) → z - p ≡ suc k
one_more z p k h l = omega arith

more : (z p k : ℕ) → k < z - p → p + k < z
more z p k h = omega arith

split : (p k : ℕ) → 2 ≤ p → p + k ≡ suc (p - 2) + suc k
split p k h = omega arith

pub last_digit_even : (p q k : ℕ) → 2 ≤ p → q ≤ 2 ^ p → q % 2 ≡ 0 → q * 2 ^ k / 2 ^ (size (q * 2 ^ k) - p) % 2 ≡ 0
last_digit_even p q k P Q e =
    let r = q * 2 ^ k in
    let z = size r in
    let top : r ≤ 2 ^ (p + k) = le_trans (mul-le-mul_right (2 ^ k) Q) (le_of_eq (sym (pow-add 2 p k))) in
    elim (le_or_lt (z - p) k) [
      | inl h ↦
          ap (λ (x : ℕ). x / 2 ^ (z - p) % 2) (sym (coarser q k (z - p) h))
          ∙ ap (λ (x : ℕ). x % 2) (mul-div_cancel (q * 2 ^ (k - (z - p))) (pow_pos (z - p)))
          ∙ double q (2 ^ (k - (z - p))) e
      | inr h ↦
          let is : r ≡ 2 ^ suc (p - 2) * 2 ^ suc k =
          le_antisymm top (size_reaches r (p + k) (more z p k h)) ∙ ap (λ (x : ℕ). 2 ^ x) (split p k P) ∙ pow-add 2 (suc (p - 2)) (suc k) in
          let at : z - p ≡ suc k = one_more z p k h (size-le r (suc (p + k)) (lt_of_le_of_lt top (pow-lt (lt-suc_self (p + k))))) in
          ap (λ (x : ℕ). r / 2 ^ x % 2) at
          ∙ ap (λ (x : ℕ). x / 2 ^ suc k % 2) is
          ∙ ap (λ (x : ℕ). x % 2) (mul-div_cancel (2 ^ suc (p - 2)) (pow_pos (suc k)) ∙ pow-suc 2 (p - 2))
          ∙ mul-mod_left (2 ^ (p - 2)) 2
    ]

-- ---- the other one of a tie is odd

nearest_other : (o : Ordering) (w t b c : ℕ) → Cmp o (t * 2) b → t < b → gap (nearest w o * b) (w * b + t) ≡ gap (c * b) (w * b + t) → c ≢ nearest w o
    → (w ≤ c) × (c ≤ suc w) × (c % 2 ≡ 1)
nearest_other Ordering.lt w t b c h g e n = absurd (ne_of_lt _ _ (lower_alone w t b c h n) e)
nearest_other Ordering.gt w t b c h g e n = absurd (ne_of_lt _ _ (upper_alone w t b c g h n) e)
nearest_other Ordering.eq w t b c h g e n =
    let half : gap (c * b) (w * b + t) ≡ t = sym e ∙ at_half in
    let lo : w ≤ c = elim (le_or_lt w c) [ inl l ↦ l | inr l ↦ absurd (too_low half (mul-le-mul_right b l)) ] in
    let hi : c ≤ suc w = elim (le_or_lt c (suc w)) [ inl l ↦ l | inr l ↦ absurd (too_high half (mul-le-mul_right b l)) ] in
    (lo, hi, parity lo hi)
  where
    at_half : gap ((w + w % 2) * b) (w * b + t) ≡ t
    at_half = elim (tie w) [
      | inl z ↦ subst (λ (x : ℕ). gap (x * b) (w * b + t) ≡ t) (sym z) (omega arith)
      | inr z ↦ subst (λ (x : ℕ). gap (x * b) (w * b + t) ≡ t) (sym z) (omega arith)
    ]

    too_low : gap (c * b) (w * b + t) ≡ t → suc c * b ≤ w * b → ⊥
    too_low q l = omega arith

    too_high : gap (c * b) (w * b + t) ≡ t → suc (suc w) * b ≤ c * b → ⊥
    too_high q l = omega arith

    parity : w ≤ c → c ≤ suc w → c % 2 ≡ 1
    parity l u = omega arith

closest_other : (a b c : ℕ) → 0 < b → gap (closest a b * b) a ≡ gap (c * b) a → c ≢ closest a b → (a / b ≤ c) × (c ≤ suc (a / b)) × (c % 2 ≡ 1)
closest_other a b c B e n =
    let o = compare (a % b * 2) b in
    nearest_other o (a / b) (a % b) b c (cmp (a % b * 2) b) (mod-lt a B)
    (subst (λ (x : ℕ). gap (closest a b * b) x ≡ gap (c * b) x) (sym (div-add-mod' a b)) e) n

odd_under : (p c : ℕ) → 0 < p → c ≤ 2 ^ p → c % 2 ≡ 1 → c < 2 ^ p
odd_under p c P h o =
    lt_of_le-ne h (λ (e : c ≡ 2 ^ p). clash (c % 2) o (ap (λ (x : ℕ). x % 2) (e ∙ ap (λ (x : ℕ). 2 ^ x) (sym (suc-pred-eq_of_pos P)) ∙ pow-suc 2 (pred p))
    ∙ mul-mod_left (2 ^ pred p) 2))
  where
    clash : (x : ℕ) → x ≡ 1 → x ≡ 0 → ⊥
    clash x h g = omega arith

digits_are : (z p k : ℕ) → 0 < p → z ≤ p + k → (0 < k → p - 1 + k < z) → z - p ≡ k
digits_are z p zero P h g = omega arith
digits_are z p (suc k) P h g = let l : p - 1 + suc k < z = g (zero-lt-suc k) in omega arith

last_digit_odd : (p c k : ℕ) → 0 < p → c < 2 ^ p → (0 < k → 2 ^ (p - 1) ≤ c) → c % 2 ≡ 1 → c * 2 ^ k / 2 ^ (size (c * 2 ^ k) - p) % 2 ≡ 1
last_digit_odd p c k P C L o =
    let r = c * 2 ^ k in
    let reach : 0 < k → p - 1 + k < size r = λ K. lt_of_not-le (λ (g : size r ≤ p - 1 + k).
    not-le_of_lt (lt_of_lt_of_le (size-lt r) (pow_mono g)) (le_trans (le_of_eq (pow-add 2 (p - 1) k)) (mul-le-mul_right (2 ^ k) (L K)))) in
    let at : size r - p ≡ k = digits_are (size r) p k P (size-le r (p + k) (shl_lt p k C)) reach in
    ap (λ (x : ℕ). r / 2 ^ x % 2) at ∙ ap (λ (x : ℕ). x % 2) (mul-div_cancel c (pow_pos k)) ∙ o

pub grid_other : (p n den c g : ℕ) → 0 < p → 0 < den → c < 2 ^ p → gap (kept p n den * 2 ^ drop p n den * den) n ≡ gap (c * 2 ^ g * den) n
    → c * 2 ^ g ≢ kept p n den * 2 ^ drop p n den → c * 2 ^ g / 2 ^ (size (c * 2 ^ g) - p) % 2 ≡ 1
grid_other p n den c g P D C e ne =
    let k = drop p n den in
    let u = den * 2 ^ k in
    let U : 0 < u = mul-pos D (pow_pos k) in
    elim (le_or_lt k g) [
      | inl h ↦
          let a = c * 2 ^ (g - k) in
          let o = closest_other n u a U (tie_on p n den c g h e) (off p n den c g h ne) in
          let few : n / u < 2 ^ p = subst (λ (x : ℕ). x < 2 ^ p) (div-div-eq-div-mul n den (2 ^ k)) (kept-lt p (n / den)) in
          subst (λ (x : ℕ). x / 2 ^ (size x - p) % 2 ≡ 1) (coarser c g k h)
          (last_digit_odd p a k P (odd_under p a P (le_trans o.1 few) o.2)
          (λ K. le_trans ((le-div_iff_mul-le U).1 (le_trans (le_of_eq (sym (unit (2 ^ (p - 1)) k den))) (leading_low p n den P D K))) o.0) o.2)
      | inr h ↦ absurd (ne_of_lt _ _ (finer p n den c g P D C h) e)
    ]
