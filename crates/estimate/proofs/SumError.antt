-- A rounded sum of n products is no further from the exact one than n times 2^-52 of the rounded sum of the terms' magnitudes, and n of the smallest f64.
use Prim.Native.Nat.{ℕ, zero, suc, ◌+◌, ◌*◌, ◌^◌, ◌≤◌}
use native.Mathlib.Nat.{le_trans, le_of_eq, le_refl, le-add_right, le-add_left, mul-le-mul_left, mul-le-mul_right}
use native.Mathlib.Omega.{arith}
use mathlib.Core.Path.{◌≡◌, refl, sym, ap, ap₂, ◌∙◌, subst}
use mathlib.Core.Bool.{false}
use lib.Dec.{T}
use lib.IntN.{ℤ, pos, nat_abs, ◌+ℤ◌, ◌*ℤ◌, pos-+ℤ-pos}
use lib.Ieee.{Float, nan, inf, fin, binary64, fits, of_bits, add}
use lib.Ieee.Fits.{add-fits, mul-fits}
use lib.Ieee.Scale.{finite}
use Rattle.ieee.specs.Values.{multiple, sign_of, value_of, Signed, infinite, number}
use Rattle.ieee.specs.Floats.{zero_float, abs_of}
use Rattle.ieee.specs.Sums.{add_each}
use Rattle.ieee.proofs.RoundingSigned.{signed_abs}
use Rattle.ieee.proofs.Signs.{add_clear}
use Rattle.words.proofs.Whole.{+ℤ-*ℤ, nat_abs_+ℤ}
use Rattle.exact.specs.Whole.{sumℤ}
use Rattle.estimate.specs.Estimate.{term, rounded_sum, rounded_size}
use Rattle.estimate.proofs.Rounded.{rounded_above, rounded_order}
use Rattle.estimate.proofs.Operations.{add_left, add_right, added, multiplied}
use Rattle.estimate.specs.Rounding.{far, rounded_to, Bounded}
use Rattle.estimate.proofs.Distance.{far_through, far_sum, far_scale}

-- ---- magnitudes
pub abs_multiple : (x : Float) → multiple (abs_of x) ≡ multiple x
abs_multiple nan = refl
abs_multiple (inf s) = refl
abs_multiple (fin s m e) = refl

abs_clear : (x : Float) → T (finite x) → Signed false (abs_of x)
abs_clear nan h = absurd h
abs_clear (inf s) h = absurd h
abs_clear (fin s m e) h = number m e

pub abs_fits : (x : Float) → T (fits binary64 x) → T (fits binary64 (abs_of x))
unfolding fits
abs_fits nan h = h
abs_fits (inf s) h = h
abs_fits (fin s zero e) h = h
abs_fits (fin s (suc m) e) h = h

clear_value : (x : Float) → Signed false x → value_of x ≡ pos (multiple x)
clear_value x infinite = refl
clear_value x (number m e) = refl

value_abs : (x : Float) → nat_abs (value_of x) ≡ multiple x
value_abs x = signed_abs (sign_of x) (multiple x)

-- ---- one term more, in numbers: U stands for 2^1074
more : (k a b s t e f g U : ℕ) → a ≤ b → s ≤ b → t ≤ b → 2 ^ 53 * g ≤ s + 2 ^ 52 → 2 ^ 53 * f ≤ t * U + 2 ^ 52 * U
    → 2 ^ 53 * e ≤ k * (2 * (a * U) + 2 ^ 53 * U) → 2 ^ 53 * (g * U + (e + f)) ≤ suc k * (2 * (b * U) + 2 ^ 53 * U)
more k a b s t e f g U ha hs ht hg hf he =
    let sums : 2 ^ 53 * g * U ≤ (s + 2 ^ 52) * U = mul-le-mul_right U hg in
    let first : s * U ≤ b * U = mul-le-mul_right U hs in
    let second : t * U ≤ b * U = mul-le-mul_right U ht in
    let third : a * U ≤ b * U = mul-le-mul_right U ha in
    let before : k * (2 * (a * U) + 2 ^ 53 * U) ≤ k * (2 * (b * U) + 2 ^ 53 * U) = mul-le-mul_left k (omega arith) in
    omega arith

join : (d p q g e f U : ℕ) → d ≤ p + q → p ≡ g * U → q ≤ e + f → d ≤ g * U + (e + f)
join d p q g e f U h hp hq = omega arith

under : (n s t a b c : ℕ) → n ≤ s + t → s ≡ a → t ≡ b → a ≤ c → n ≤ c + b
under n s t a b c h hs ht ha = omega arith

zero_fits : T (fits binary64 zero_float)
unfolding of_bits fits
zero_fits = tt

zero_clear : Signed false zero_float
unfolding of_bits
zero_clear = number 0 (pos 0)

-- the terms z i · x i, with numbers that are f64
module _ (z x : ℕ → Float) (fz : (i : ℕ) → T (fits binary64 (z i))) (fx : (i : ℕ) → T (fits binary64 (x i))) where
  pub sum_fits : (k : ℕ) → T (fits binary64 (rounded_sum k z x))
  unfolding rounded_sum add_each
  sum_fits zero = zero_fits
  sum_fits (suc k) = add-fits binary64 _ _

  pub size_fits : (k : ℕ) → T (fits binary64 (rounded_size k z x))
  unfolding rounded_size add_each
  size_fits zero = zero_fits
  size_fits (suc k) = add-fits binary64 _ _

  -- the term k is added to both sums
  step : (k : ℕ) (A s : Float) (S : ℤ) → T (fits binary64 A) → T (fits binary64 s) → Signed false A → multiple s ≤ multiple A
      → 2 ^ 53 * far (value_of s *ℤ pos (2 ^ 1074)) S ≤ k * (2 * (multiple A * 2 ^ 1074) + 2 ^ 53 * 2 ^ 1074)
      → let t = term z x k in
      T (finite (add binary64 A (abs_of t))) → T (finite (add binary64 s t))
      → (multiple (add binary64 s t) ≤ multiple (add binary64 A (abs_of t)))
      × (2 ^ 53 * far (value_of (add binary64 s t) *ℤ pos (2 ^ 1074)) (S +ℤ value_of (z k) *ℤ value_of (x k))
      ≤ suc k * (2 * (multiple (add binary64 A (abs_of t)) * 2 ^ 1074) + 2 ^ 53 * 2 ^ 1074))
  step k A s S f_a fs clear below error hA hs =
      let t = term z x k in
      let U = 2 ^ 1074 in
      let ft = mul-fits binary64 (z k) (x k) in
      let ht = add_right s t hs in
      let A' = add binary64 A (abs_of t) in
      let s' = add binary64 s t in
      let v = value_of s +ℤ value_of t in
      let a = added A (abs_of t) f_a (abs_fits t ft) hA in
      let c = added s t fs ft hs in
      let m = multiplied (z k) (x k) (fz k) (fx k) ht in
      let whole : nat_abs (value_of A +ℤ value_of (abs_of t)) ≡ multiple A + multiple t =
      ap₂ (λ (p q : ℤ). nat_abs (p +ℤ q)) (clear_value A clear) (clear_value (abs_of t) (abs_clear t ht))
      ∙ ap nat_abs (pos-+ℤ-pos (multiple A) (multiple (abs_of t)))
      ∙ ap (λ (q : ℕ). multiple A + q) (abs_multiple t) in
      let is : multiple A' ≡ rounded_to (multiple A + multiple t) = a.is ∙ ap rounded_to whole in
      let above_size : multiple A ≤ multiple A' =
      subst (λ (r : ℕ). multiple A ≤ r) (sym is) (rounded_above (multiple A + multiple t) A f_a (add_left A (abs_of t) hA) (le-add_right (multiple A)
      (multiple t))) in
      let above_term : multiple t ≤ multiple A' =
      subst (λ (r : ℕ). multiple t ≤ r) (sym is) (rounded_above (multiple A + multiple t) t ft ht (le-add_left (multiple t) (multiple A))) in
      let order : nat_abs v ≤ multiple A + multiple t =
      under (nat_abs v) _ _ (multiple s) (multiple t) (multiple A) (nat_abs_+ℤ (value_of s) (value_of t)) (value_abs s) (value_abs t) below in
      let less : multiple s' ≤ multiple A' =
      rounded_order (nat_abs v) (multiple A + multiple t) s' A' (add-fits binary64 s t) hs (add-fits binary64 A (abs_of t)) hA c.is is order in
      let path = far_through (value_of s' *ℤ pos U) (v *ℤ pos U) (S +ℤ value_of (z k) *ℤ value_of (x k)) in
      let first = far_scale (value_of s') v U in
      let product = value_of (z k) *ℤ value_of (x k) in
      let second : far (v *ℤ pos U) (S +ℤ product) ≤ far (value_of s *ℤ pos U) S + far (value_of t *ℤ pos U) product =
      subst (λ (w : ℤ). far w (S +ℤ product) ≤ far (value_of s *ℤ pos U) S + far (value_of t *ℤ pos U) product)
      (sym (+ℤ-*ℤ (value_of s) (value_of t) (pos U))) (far_sum (value_of s *ℤ pos U) (value_of t *ℤ pos U) S product) in (
        less,
        le_trans (mul-le-mul_left (2 ^ 53) (join _ _ _ (far (value_of s') v) (far (value_of s *ℤ pos U) S) _ U path first second))
            (more k (multiple A) (multiple A') (multiple s') (multiple t) (far (value_of s *ℤ pos U) S) (far (value_of t *ℤ pos U) product)
            (far (value_of s') v) U above_size less above_term c.half m.half error),
      )

  pub bounded : (k : ℕ) → T (finite (rounded_size k z x)) → T (finite (rounded_sum k z x)) → Bounded z x k
  unfolding rounded_sum rounded_size add_each of_bits
  bounded zero hA hs = record { clear = zero_clear; below = le_refl _; error = le_of_eq refl }
  bounded (suc k) hA hs =
      let A = rounded_size k z x in
      let s = rounded_sum k z x in
      let t = term z x k in
      let b = bounded k (add_left A (abs_of t) hA) (add_left s t hs) in
      let next = step k A s (sumℤ k (λ i. value_of (z i) *ℤ value_of (x i))) (size_fits k) (sum_fits k) b.clear b.below b.error hA hs in
      record {
        clear = add_clear A (abs_of t) b.clear (abs_clear t (add_right s t hs));
        below = next.0;
        error = next.1;
      }
