-- The root that `root_of` gives is the f64 nearest the exact root, over whole numbers, and the roots of what is not above zero.
use Rattle.std.proofs.Common.{◌≡◌, ℕ, zero, suc, ◌+◌, ◌-◌, ◌*◌, ◌/◌, ◌%◌, ◌^◌, ◌<◌, ◌≤◌, Bool, true, false, not, T, leb, pos, sym, refl, ap, ◌∙◌, subst, inl, inr, le_refl, lt_of_le_of_lt, le_of_lt, mul-le-mul_right, mul_assoc, add-mul, mul-le-mul, lt_of_mul-lt-mul_right, mul-lt-mul_of_pos_right, mul-pos, one-mul, pow-suc, lt_of_not-le, zero-mul, add-one, arith, ltb→lt, leb→le, pow_pos, pow_mono, pow-add}
use native.Mathlib.Nat.{mul-mul-mul_comm}
use lib.Dec.{nleb→lt}
use lib.Count.{count_leading_zeros}
use lib.Ieee.{Float, nan, inf, fin, lt, up, down, binary64, fits, to_bits}
use lib.Ieee.Exact.{HasValue}
use lib.Ieee.Fits.{round-fits}
use lib.Ieee.Positive.{positive}
use lib.Ieee.Scale.{finite}
use Rattle.ieee.specs.Values.{multiple, sign_of, fields_multiple}
use Rattle.ieee.specs.Root.{whole_root, root_of, sqrt_of, Normalised}
use Rattle.ieee.specs.NearestRoot.{NearestRoot, OtherRoots}
use Rattle.ieee.proofs.Fields.{value_multiple, value_sign, value_finite}
use Rattle.ieee.proofs.WholeRoot.{square_odd, whole_root_le, whole_root_lt}
use Rattle.ieee.proofs.RootRound.{parity}
use Rattle.ieee.proofs.RootBits.{pattern_value, not_all_ones, not_few, enough, next_half, scaled, root_pattern}
use Rattle.ieee.proofs.Normal.{top_of, subnormal, normal}
use Rattle.ieee.proofs.RootCall.{above_zero, not_halved, doubled, normalised_value}
use Rattle.ieee.proofs.RootCases.{root_of_positive}
use Rattle.ieee.proofs.RoundingNearest.{point}

-- ---- the gap above a number of 53 digits: a number of at most 53 digits that is above r * 2^k is at least (r + 1) * 2^k
module _ (c g r k : ℕ) (small : c < 2 ^ 53) (lo : 2 ^ 52 ≤ r) (h : r * 2 ^ k < c * 2 ^ g) where
  whole_steps : k ≤ g → (r + 1) * 2 ^ k ≤ c * 2 ^ g
  whole_steps l =
      let d = c * 2 ^ (g - k) in
      let e : c * 2 ^ g ≡ d * 2 ^ k =
      ap (λ (n : ℕ). c * 2 ^ n) (let x : g ≡ g - k + k = omega arith in x) ∙ ap (λ (n : ℕ). c * n) (pow-add 2 (g - k) k)
      ∙ sym (mul_assoc c (2 ^ (g - k)) (2 ^ k)) in
      let x : r < d = lt_of_mul-lt-mul_right (2 ^ k) (subst (λ (n : ℕ). r * 2 ^ k < n) e h) in
      subst (λ (n : ℕ). (r + 1) * 2 ^ k ≤ n) (sym e) (mul-le-mul_right (2 ^ k) (let y : r + 1 ≤ d = omega arith in y))

  too_small : g < k → ⊥
  too_small l =
      let x : c * 2 ^ g < 2 ^ 53 * 2 ^ g = mul-lt-mul_of_pos_right small (pow_pos g) in
      let y : 2 ^ 52 * 2 ^ k ≤ r * 2 ^ k = mul-le-mul_right (2 ^ k) lo in
      let z : 2 ^ suc g ≤ 2 ^ k = pow_mono l in
      let w : 2 ^ suc g ≡ 2 ^ g * 2 = pow-suc 2 g in
      omega arith

  gap : (r + 1) * 2 ^ k ≤ c * 2 ^ g
  gap = go (leb k g) (leb→le k g) (nleb→lt k g)
    where
      go : (b : Bool) → (T b → k ≤ g) → (T (not b) → g < k) → (r + 1) * 2 ^ k ≤ c * 2 ^ g
      go true l n = whole_steps (l tt)
      go false l n = absurd (too_small (n tt))

-- ---- R is a root of W rounded: q is the first 54 digits of the root, h the count of its others, and R is q rounded to 53 digits
pub record Rounded (W R : ℕ) : Type 0 where
  pub q : ℕ
  pub h : ℕ
  pub digits : 2 ^ 53 ≤ q
  pub value : R ≡ (q + 1) / 2 * 2 ^ (h + 1)
  pub under : q * 2 ^ h * (q * 2 ^ h) ≤ W
  pub over : W < (q + 1) * 2 ^ h * ((q + 1) * 2 ^ h)
  pub no_tie : q % 2 ≡ 1 → q * 2 ^ h * (q * 2 ^ h) < W

-- ---- squares
square_lt : (a b : ℕ) → a < b → a * a < b * b
square_lt a b h = lt_of_le_of_lt (mul-le-mul (le_refl a) (le_of_lt h)) (mul-lt-mul_of_pos_right h (let x : 0 < b = omega arith in x))

square_twice : (a b : ℕ) → b ≡ 2 * a → b * b ≡ 4 * (a * a)
square_twice a b e = ap (λ (n : ℕ). n * n) e ∙ mul-mul-mul_comm 2 a 2 a

-- an even number of steps, and an odd one
even_steps : (j q P : ℕ) → q ≡ 2 * j → q * P ≡ 2 * (j * P)
even_steps j q P e = ap (λ (n : ℕ). n * P) e ∙ mul_assoc 2 j P

next_steps : (j P : ℕ) → (j + 1) * P ≡ j * P + P
next_steps j P = add-mul j 1 P ∙ ap (λ (n : ℕ). j * P + n) (one-mul P)

odd_steps : (j q P : ℕ) → q ≡ 2 * j + 1 → q * P ≡ 2 * (j * P) + P
odd_steps j q P e = ap (λ (n : ℕ). n * P) e ∙ next_steps (2 * j) P ∙ ap (λ (n : ℕ). n + P) (mul_assoc 2 j P)

-- a step of the 53 digits is two of the 54
two_steps : (q h : ℕ) → q * 2 ^ (h + 1) ≡ 2 * (q * 2 ^ h)
two_steps q h = rw (add-one, pow-suc 2 h) (let e : q * (2 ^ h * 2) ≡ q * 2 ^ h * 2 = sym (mul_assoc q (2 ^ h) 2) in omega arith)

module _ (W R : ℕ) (d : Rounded W R) (c g : ℕ) (small : c < 2 ^ 53) where
  -- in the order of the numbers' squares
  above_even : (S : ℕ) → S < d.q * 2 ^ (d.h + 1) → S * S < 4 * W
  above_even S l =
      let x = square_lt S (d.q * 2 ^ (d.h + 1)) l in
      let e = square_twice (d.q * 2 ^ d.h) (d.q * 2 ^ (d.h + 1)) (two_steps d.q d.h) in
      let u = d.under in
      omega arith

  above_odd : (S : ℕ) → d.q % 2 ≡ 1 → S ≤ d.q * 2 ^ (d.h + 1) → S * S < 4 * W
  above_odd S o l =
      let x : S * S ≤ d.q * 2 ^ (d.h + 1) * (d.q * 2 ^ (d.h + 1)) = mul-le-mul l l in
      let e = square_twice (d.q * 2 ^ d.h) (d.q * 2 ^ (d.h + 1)) (two_steps d.q d.h) in
      let u = d.no_tie o in
      omega arith

  below_all : (S : ℕ) → (d.q + 1) * 2 ^ (d.h + 1) ≤ S → 4 * W < S * S
  below_all S l =
      let x : (d.q + 1) * 2 ^ (d.h + 1) * ((d.q + 1) * 2 ^ (d.h + 1)) ≤ S * S = mul-le-mul l l in
      let e = square_twice ((d.q + 1) * 2 ^ d.h) ((d.q + 1) * 2 ^ (d.h + 1)) (two_steps (d.q + 1) d.h) in
      let u = d.over in
      omega arith

  value_even : d.q ≡ 2 * (d.q / 2) → R ≡ d.q / 2 * 2 ^ (d.h + 1)
  value_even e = d.value ∙ ap (λ (n : ℕ). n * 2 ^ (d.h + 1)) (let x : (d.q + 1) / 2 ≡ d.q / 2 = omega arith in x)

  value_odd : d.q ≡ 2 * (d.q / 2) + 1 → R ≡ (d.q / 2 + 1) * 2 ^ (d.h + 1)
  value_odd e = d.value ∙ ap (λ (n : ℕ). n * 2 ^ (d.h + 1)) (let x : (d.q + 1) / 2 ≡ d.q / 2 + 1 = omega arith in x)

  half_digits : 2 ^ 52 ≤ d.q / 2
  half_digits = let x = d.digits in omega arith

  pub lies_above : c * 2 ^ g < R → (c * 2 ^ g + R) * (c * 2 ^ g + R) < 4 * W
  lies_above l = elim (parity d.q) [ inl e ↦ even e | inr e ↦ odd e ]
    where
      even : d.q ≡ 2 * (d.q / 2) → (c * 2 ^ g + R) * (c * 2 ^ g + R) < 4 * W
      even e =
          let x = even_steps (d.q / 2) d.q (2 ^ (d.h + 1)) e in
          let y = value_even e in
          above_even (c * 2 ^ g + R) (omega arith)

      odd : d.q ≡ 2 * (d.q / 2) + 1 → (c * 2 ^ g + R) * (c * 2 ^ g + R) < 4 * W
      odd e =
          let j = d.q / 2 in
          let x = odd_steps j d.q (2 ^ (d.h + 1)) e in
          let n = next_steps j (2 ^ (d.h + 1)) in
          let y = value_odd e in
          let z : c * 2 ^ g < suc (j * 2 ^ (d.h + 1)) =
          lt_of_not-le (λ (m : j * 2 ^ (d.h + 1) < c * 2 ^ g). let t = gap c g j (d.h + 1) small half_digits m in omega arith) in
          above_odd (c * 2 ^ g + R) (omega arith) (omega arith)

  pub lies_below : R < c * 2 ^ g → 4 * W < (c * 2 ^ g + R) * (c * 2 ^ g + R)
  lies_below l = elim (parity d.q) [ inl e ↦ even e | inr e ↦ odd e ]
    where
      even : d.q ≡ 2 * (d.q / 2) → 4 * W < (c * 2 ^ g + R) * (c * 2 ^ g + R)
      even e =
          let j = d.q / 2 in
          let x = even_steps j d.q (2 ^ (d.h + 1)) e in
          let q = next_steps d.q (2 ^ (d.h + 1)) in
          let n = next_steps j (2 ^ (d.h + 1)) in
          let y = value_even e in
          let t = gap c g j (d.h + 1) small half_digits (subst (λ (m : ℕ). m < c * 2 ^ g) y l) in
          below_all (c * 2 ^ g + R) (omega arith)

      odd : d.q ≡ 2 * (d.q / 2) + 1 → 4 * W < (c * 2 ^ g + R) * (c * 2 ^ g + R)
      odd e =
          let j = d.q / 2 in
          let x = odd_steps j d.q (2 ^ (d.h + 1)) e in
          let q = next_steps d.q (2 ^ (d.h + 1)) in
          let n = next_steps j (2 ^ (d.h + 1)) in
          let y = value_odd e in
          below_all (c * 2 ^ g + R) (omega arith)

-- ---- v * 2^1074 is n * 4^half, with n from 2^52 to 2^54 - 2: its root, rounded
scale_le : (a M W p : ℕ) → M * (p * p) ≡ W → a * a ≤ M → a * p * (a * p) ≤ W
scale_le a M W p e l = subst (λ (n : ℕ). n ≤ W) (sym (mul-mul-mul_comm a p a p)) (subst (λ (n : ℕ). a * a * (p * p) ≤ n) e (mul-le-mul_right (p * p) l))

scale_below : (a M W p : ℕ) → 0 < p → M * (p * p) ≡ W → a * a < M → a * p * (a * p) < W
scale_below a M W p P e l =
    subst (λ (n : ℕ). n < W) (sym (mul-mul-mul_comm a p a p)) (subst (λ (n : ℕ). a * a * (p * p) < n) e (mul-lt-mul_of_pos_right l (mul-pos P P)))

scale_above : (a M W p : ℕ) → 0 < p → M * (p * p) ≡ W → M < a * a → W < a * p * (a * p)
scale_above a M W p P e l =
    subst (λ (n : ℕ). W < n) (sym (mul-mul-mul_comm a p a p)) (subst (λ (n : ℕ). n < a * a * (p * p)) e (mul-lt-mul_of_pos_right l (mul-pos P P)))

-- the square of an odd number is odd
odd_square : (q n : ℕ) → q % 2 ≡ 1 → q * q ≤ n * 2 ^ 54 → q * q < n * 2 ^ 54
odd_square q n o l =
    let j = q / 2 in
    let e : q ≡ j * 2 + 1 = omega arith in
    let s : q * q ≡ 4 * (j * j) + 4 * j + 1 = ap (λ (m : ℕ). m * m) e ∙ square_odd j in
    omega arith

-- the root of v multiples, rounded, with what it is otherwise
pub record Found (v : ℕ) : Type 0 where
  pub rounded : Rounded (v * 2 ^ 1074) (multiple (root_of v))
  pub number : T (finite (root_of v))
  pub sign : sign_of (root_of v) ≡ false

module _ (v n half : ℕ) (lo : 2 ^ 52 ≤ n) (hi : n ≤ 2 ^ 54 - 2) (least : 511 ≤ half) (greatest : half ≤ 1559) (value : n * 4 ^ half ≡ v * 2 ^ 1074) where
  root_has : HasValue (root_of v) false ((whole_root 54 (n * 2 ^ 54) + 1) / 2 * 2 ^ (half - 26)) (2 ^ 1074)
  root_has =
      let q = whole_root 54 (n * 2 ^ 54) in
      let few = not_few q n lo (whole_root_lt 54 (n * 2 ^ 54) (enough n hi)) in
      let most = not_all_ones q n hi (whole_root_le 54 (n * 2 ^ 54)) in
      subst (λ (x : Float). HasValue x false ((q + 1) / 2 * 2 ^ (half - 26)) (2 ^ 1074)) (sym (root_pattern v n half lo hi least greatest value))
      (pattern_value (half - 26) ((q + 1) / 2) (omega arith) (omega arith) (omega arith))

  root_rounded : Rounded (v * 2 ^ 1074) (multiple (root_of v))
  root_rounded =
      let q = whole_root 54 (n * 2 ^ 54) in
      let p = 2 ^ (half - 27) in
      let q_le = whole_root_le 54 (n * 2 ^ 54) in
      let q_lt = whole_root_lt 54 (n * 2 ^ 54) (enough n hi) in
      let same = scaled v n half lo hi least greatest value in
      record {
        q = q;
        h = half - 27;
        digits = not_few q n lo q_lt;
        value = value_multiple (root_of v) false ((q + 1) / 2 * 2 ^ (half - 26)) root_has ∙ ap (λ (k : ℕ). (q + 1) / 2 * 2 ^ k) (sym (next_half half least));
        under = scale_le q (n * 2 ^ 54) (v * 2 ^ 1074) p same q_le;
        over = scale_above (q + 1) (n * 2 ^ 54) (v * 2 ^ 1074) p (pow_pos (half - 27)) same q_lt;
        no_tie = λ o. scale_below q (n * 2 ^ 54) (v * 2 ^ 1074) p (pow_pos (half - 27)) same (odd_square q n o q_le);
      }

  root_found : Found v
  root_found =
      let a = (whole_root 54 (n * 2 ^ 54) + 1) / 2 * 2 ^ (half - 26) in
      record { rounded = root_rounded; number = value_finite (root_of v) false a (2 ^ 1074) root_has; sign = value_sign (root_of v) false a (2 ^ 1074) root_has }

-- ---- every field and fraction that are not both zero have a normal form
normal_form : (field fraction : ℕ) → field < 2047 → fraction < 2 ^ 52 → 0 < field + fraction → (s : ℕ) × (e : ℕ) × Normalised field fraction s e
normal_form zero t a b p = let z = count_leading_zeros 64 t in (t * 2 ^ (z - 11) % 2 ^ 64, 1074 - (z - 11), subnormal t z (top_of t (omega arith) b))
normal_form (suc e) t a b p = (2 ^ 52 + t, 1073 + suc e, normal e t (omega arith) b)

found_normal : (v field fraction s e : ℕ) → Normalised field fraction s e → v ≡ fields_multiple field fraction → Found v
found_normal v field fraction s e d is =
    root_found v (s * (1 + e % 2)) (e / 2) (not_halved s e d.lower) (doubled s e d.upper) (let x = d.least in omega arith)
    (let x = d.greatest in omega arith)
    (normalised_value v field fraction s e d is)

found : (x : Float) → T (fits binary64 x) → T (positive x) → Found (multiple x)
found x f p =
    let b = to_bits binary64 x in
    let z = above_zero x f p in
    let n = normal_form (b / 2 ^ 52) (b % 2 ^ 52) z.field (omega arith) z.some in
    found_normal (multiple x) (b / 2 ^ 52) (b % 2 ^ 52) n.0 n.1 n.2 z.value

-- ---- the theorem: for every f64 above zero, subnormal ones too
root_fits : (v : ℕ) → T (fits binary64 (root_of v))
unfolding root_of
root_fits v = round-fits binary64 false (2 * whole_root 1586 (v * 2 ^ 1074) + 1) (2 * 2 ^ 1074)

root_nearest : (x : Float) → Found (multiple x) → NearestRoot x (root_of (multiple x))
root_nearest x d =
    let W = multiple x * 2 ^ 1074 in
    let R = multiple (root_of (multiple x)) in
    record {
      format = root_fits (multiple x);
      number = d.number;
      sign = d.sign;
      below =
          λ y f h s l. let c = point y f h in subst (λ (Y : ℕ). (Y + R) * (Y + R) < 4 * W) (sym c.3)
          (lies_above W R d.rounded c.0 c.1 c.2 (subst (λ (Y : ℕ). Y < R) c.3 l));
      above =
          λ y f h s l. let c = point y f h in subst (λ (Y : ℕ). 4 * W < (Y + R) * (Y + R)) (sym c.3)
          (lies_below W R d.rounded c.0 c.1 c.2 (subst (λ (Y : ℕ). R < Y) c.3 l));
    }

pub sqrt_nearest : (x : Float) → T (fits binary64 x) → T (positive x) → NearestRoot x (sqrt_of x)
sqrt_nearest x f p = subst (λ (r : Float). NearestRoot x r) (root_of_positive x p) (root_nearest x (found x f p))

-- ---- the other roots
no_root_below : (x : Float) → T (lt x (fin false 0 (pos 0))) → sqrt_of x ≡ nan
unfolding sqrt_of lt
no_root_below nan h = refl
no_root_below (inf true) h = refl
no_root_below (inf false) h = absurd h
no_root_below (fin true zero e) h =
    let l = ltb→lt 0 (0 * up e * 1 + 0 * 1 * down e) h in
    let a = zero-mul (up e) in
    let b = zero-mul (down e) in
    absurd (omega arith)
no_root_below (fin true (suc m) e) h = refl
no_root_below (fin false m e) h = let l = ltb→lt (m * up e * 1) (0 * 1 * down e) h in let b = zero-mul (down e) in absurd (omega arith)

pub other_roots : OtherRoots sqrt_of
unfolding sqrt_of
other_roots = record { positive_zero = refl; negative_zero = refl; infinity = refl; not_a_number = refl; below_zero = no_root_below }
