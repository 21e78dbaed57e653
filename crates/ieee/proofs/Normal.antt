-- A significand brought up to 53 bits by the count of its leading zeros.
use Rattle.std.proofs.Common.{◌≡◌, ℕ, suc, ◌+◌, ◌-◌, ◌*◌, ◌%◌, ◌^◌, ◌<◌, ◌≤◌, sym, ap, ◌∙◌, subst, le_trans, lt_of_lt_of_le, lt_irrefl, mul-le-mul_right, mod-eq_of_lt, mul_assoc, mul-lt-mul_of_pos_right, lt_of_not-le, arith, lit≤, pow_pos, pow_mono, pow-add}
use lib.Count.{count_leading_zeros, leading_top}
use Rattle.ieee.specs.Root.{Normalised}

-- the place j of the leading one of a number from 1 to 2^52 - 1, and how far it is from bit 52
pub record Top (a z : ℕ) : Type 0 where
  pub j : ℕ
  pub place : z + suc j ≡ 64
  pub low : j < 52
  pub lower : 2 ^ j ≤ a
  pub upper : a < 2 ^ suc j

pub top_of : (a : ℕ) → 0 < a → a < 2 ^ 52 → Top a (count_leading_zeros 64 a)
top_of a p h =
    let t = leading_top 64 a p (lt_of_lt_of_le h (lit≤ tt)) in
    let low : t.0 < 52 = lt_of_not-le (λ (g : 52 ≤ t.0). lt_irrefl a (lt_of_lt_of_le h (le_trans (pow_mono g) t.2))) in
    record { j = t.0; place = t.1; low = low; lower = t.2; upper = t.3 }

module _ (a z : ℕ) (t : Top a z) where
  shift_is : z - 11 ≡ 52 - t.j
  shift_is = let p = t.place in let l = t.low in omega arith

  power : 2 ^ t.j * 2 ^ (z - 11) ≡ 2 ^ 52
  power = sym (pow-add 2 t.j (z - 11)) ∙ ap (λ (k : ℕ). 2 ^ k) (let p = t.place in let l = t.low in let e : t.j + (z - 11) ≡ 52 = omega arith in e)

  power_next : 2 ^ suc t.j * 2 ^ (z - 11) ≡ 2 ^ 53
  power_next =
      sym (pow-add 2 (suc t.j) (z - 11))
      ∙ ap (λ (k : ℕ). 2 ^ k) (let p = t.place in let l = t.low in let e : suc t.j + (z - 11) ≡ 53 = omega arith in e)

  at_least : 2 ^ 52 ≤ a * 2 ^ (z - 11)
  at_least = subst (λ (n : ℕ). n ≤ a * 2 ^ (z - 11)) power (mul-le-mul_right (2 ^ (z - 11)) t.lower)

  less : a * 2 ^ (z - 11) < 2 ^ 53
  less = subst (λ (n : ℕ). a * 2 ^ (z - 11) < n) power_next (mul-lt-mul_of_pos_right t.upper (pow_pos (z - 11)))

  pub subnormal : Normalised 0 a (a * 2 ^ (z - 11) % 2 ^ 64) (1074 - (z - 11))
  subnormal =
      let whole : a * 2 ^ (z - 11) % 2 ^ 64 ≡ a * 2 ^ (z - 11) = mod-eq_of_lt (lt_of_lt_of_le less (lit≤ tt)) in
      let p = t.place in
      let l = t.low in
      record {
        lower = subst (λ (n : ℕ). 2 ^ 52 ≤ n) (sym whole) at_least;
        upper = subst (λ (n : ℕ). n < 2 ^ 53) (sym whole) less;
        least = omega arith;
        greatest = omega arith;
        value =
            ap (λ (n : ℕ). n * 2 ^ (1074 - (z - 11))) whole
            ∙ mul_assoc a (2 ^ (z - 11)) (2 ^ (1074 - (z - 11)))
            ∙ ap (λ (n : ℕ). a * n) (sym (pow-add 2 (z - 11) (1074 - (z - 11)))
            ∙ ap (λ (k : ℕ). 2 ^ k) (let e : z - 11 + (1074 - (z - 11)) ≡ 1074 = omega arith in e));
      }

pub normal : (e t : ℕ) → e < 2046 → t < 2 ^ 52 → Normalised (suc e) t (2 ^ 52 + t) (1073 + suc e)
normal e t small h =
    record {
      lower = omega arith;
      upper = omega arith;
      least = omega arith;
      greatest = omega arith;
      value =
          ap (λ (k : ℕ). (2 ^ 52 + t) * 2 ^ k) (let x : 1073 + suc e ≡ e + 1074 = omega arith in x)
          ∙ ap (λ (n : ℕ). (2 ^ 52 + t) * n) (pow-add 2 e 1074)
          ∙ sym (mul_assoc (2 ^ 52 + t) (2 ^ e) (2 ^ 1074));
    }
