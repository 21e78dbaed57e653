-- A finite value that fits its format is a whole multiple of the format's smallest value, 2 ^ -low: m * 2 ^ j of them, with m below 2 ^ prec.
use Rattle.std.proofs.Common.{◌≡◌, ℕ, zero, suc, ◌+◌, ◌-◌, ◌*◌, ◌/◌, ◌%◌, ◌^◌, ◌<◌, ◌≤◌, Bool, ◌&&◌, T, eqb, ltb, leb, ℤ, pos, negsuc, sym, ap, ◌∙◌, subst, lt_of_lt_of_le, le_of_suc-le-suc, lt_irrefl, mul_assoc, mul_comm, lt_of_mul-lt-mul_right, mul-lt-mul_of_pos_right, mul-pos, one-mul, lt_of_not-le, zero-mul, mul-one, sub-add_cancel, mul_right_comm, mul-div_cancel, ltb→lt, leb→le, pow_pos, pow-add}
use lib.Pow.{pow-lt}
use lib.Ieee.{fin, Format, binary64, prec, emax, low, up, down, fits}
use lib.Ieee.Fits.{down_pos, and_l, and_r}
use Rattle.ieee.specs.Values.{multiple}
use Rattle.ieee.proofs.Zero.{zero_exponent}

-- ---- what `fits` says of a finite value, a zero too

-- the digits are few, the exponent is not too low, and the magnitude is below 2 ^ (emax + 1)
pub record Held (f : Format) (m : ℕ) (e : ℤ) : Type 0 where
  pub digits : m < 2 ^ prec f
  pub exponent : down e ≤ 2 ^ low f
  pub magnitude : m * up e < 2 ^ suc (emax f) * down e

pub held : (s : Bool) (m : ℕ) (e : ℤ) → T (fits binary64 (fin s m e)) → Held binary64 m e
unfolding fits
held s zero e h =
    let z : e ≡ pos 0 = zero_exponent s e h in
    record {
      digits = pow_pos (53);
      exponent = subst (λ (x : ℤ). down x ≤ 2 ^ 1074) (sym z) (pow_pos (1074));
      magnitude = subst (λ (x : ℕ). x < 2 ^ 1024 * down e) (sym (zero-mul (up e))) (mul-pos (pow_pos (1024)) (down_pos e));
    }
held s (suc m) e h =
    let A = eqb (suc m % 2) 1 in
    let B = ltb (suc m) (2 ^ 53) in
    let C = leb (down e) (2 ^ 1074) in
    let D = ltb (suc m * up e) (2 ^ 1024 * down e) in
    record {
      digits = ltb→lt (suc m) (2 ^ 53) (and_r A B (and_l (A && B) C (and_l (A && B && C) D h)));
      exponent = leb→le (down e) (2 ^ 1074) (and_r (A && B) C (and_l (A && B && C) D h));
      magnitude = ltb→lt (suc m * up e) (2 ^ 1024 * down e) (and_r (A && B && C) D h);
    }

-- ---- 2 ^ e in units of 2 ^ -l, for an e that is not below -l

pow_le_back : (a l : ℕ) → 2 ^ a ≤ 2 ^ l → a ≤ l
pow_le_back a l h = le_of_suc-le-suc (lt_of_not-le (λ (g : suc l ≤ a). lt_irrefl (2 ^ l) (lt_of_lt_of_le (pow-lt g) h)))

pub place : (l : ℕ) (e : ℤ) → down e ≤ 2 ^ l → (j : ℕ) × (2 ^ j * down e ≡ up e * 2 ^ l)
place l (pos a) h = (a + l, mul-one (2 ^ (a + l)) ∙ pow-add 2 a l)
place l (negsuc a) h =
    let b = suc a in
    (l - b, sym (pow-add 2 (l - b) b) ∙ ap (λ (x : ℕ). 2 ^ x) (sub-add_cancel (pow_le_back b l h)) ∙ sym (one-mul (2 ^ l)))

pub place_exact : (l m : ℕ) (e : ℤ) (j : ℕ) → 2 ^ j * down e ≡ up e * 2 ^ l → m * up e * 2 ^ l ≡ m * 2 ^ j * down e
place_exact l m e j h = mul_assoc m (up e) (2 ^ l) ∙ ap (λ (x : ℕ). m * x) (sym h) ∙ sym (mul_assoc m (2 ^ j) (down e))

-- ---- the magnitude in those units

-- m * 2 ^ e is m * 2 ^ j units, and what `/` cuts off is nothing
pub record OnGrid (f : Format) (m : ℕ) (e : ℤ) (j : ℕ) : Type 0 where
  pub is : m * up e * 2 ^ low f / down e ≡ m * 2 ^ j
  pub exact : m * up e * 2 ^ low f / down e * down e ≡ m * up e * 2 ^ low f
  pub under : m * 2 ^ j < 2 ^ (low f + suc (emax f))

pub on_grid : (f : Format) (m : ℕ) (e : ℤ) → Held f m e → (j : ℕ) × OnGrid f m e j
on_grid f m e h =
    let l = low f in
    let p = place l e h.exponent in
    let j = p.0 in
    let x : m * up e * 2 ^ l ≡ m * 2 ^ j * down e = place_exact l m e j p.1 in
    let q : m * up e * 2 ^ l / down e ≡ m * 2 ^ j = ap (λ (z : ℕ). z / down e) x ∙ mul-div_cancel (m * 2 ^ j) (down_pos e) in (
      j,
      record {
        is = q;
        exact = ap (λ (z : ℕ). z * down e) q ∙ sym x;
        under = lt_of_mul-lt-mul_right (down e) (subst (λ (z : ℕ). z < 2 ^ (l + suc (emax f)) * down e) x
            (subst (λ (z : ℕ). m * up e * 2 ^ l < z) (mul_right_comm (2 ^ suc (emax f)) (down e) (2 ^ l)
            ∙ ap (λ (z : ℕ). z * down e) (mul_comm (2 ^ suc (emax f)) (2 ^ l) ∙ sym (pow-add 2 l (suc (emax f)))))
            (mul-lt-mul_of_pos_right h.magnitude (pow_pos l))));
      },
    )

-- ---- an f64's magnitude is a whole multiple of 2 ^ -1074

pub multiple_exact : (s : Bool) (m : ℕ) (e : ℤ) → T (fits binary64 (fin s m e)) → multiple (fin s m e) * down e ≡ m * up e * 2 ^ 1074
multiple_exact s m e h = (on_grid binary64 m e (held s m e h)).1.exact
