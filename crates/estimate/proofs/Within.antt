-- Where sums with rounding leave no doubt, the exact sum is within t·(1 + |target|) of the target.
use Prim.Native.Nat.{ℕ, ◌+◌, ◌*◌, ◌^◌, ◌≤◌}
use native.Mathlib.Nat.{le_trans, le_of_eq, mul-le-mul_left, mul-le-mul_right}
use mathlib.Core.Path.{◌≡◌, sym, ap, ap₂, ◌∙◌, subst}
use mathlib.Core.Bool.{Bool, false}
use lib.Dec.{T}
use lib.IntN.{ℤ, pos, nat_abs, ◌+ℤ◌, ◌-ℤ◌, ◌*ℤ◌}
use lib.Ieee.{Float, binary64, fits, add, sub, mul, neg, le, unlike}
use lib.Ieee.Fits.{mul-fits, neg-fits, sub-fits}
use lib.Ieee.Scale.{finite}
use Rattle.ieee.specs.Values.{multiple, sign_of, signed, value_of}
use Rattle.ieee.specs.Floats.{one_float, abs_of, max_of}
use Rattle.ieee.proofs.RoundingWhole.{gap}
use Rattle.ieee.proofs.RoundingSum.{neg_value}
use Rattle.ieee.proofs.RoundingProduct.{mul_obeys}
use Rattle.exact.specs.Whole.{sumℤ}
use Rattle.estimate.specs.Estimate.{rounded_sum, rounded_size, sixteen, share, least_margin, margin, clearly}
use Rattle.estimate.proofs.Operations.{add_left, mul_left, mul_right, abs_finite, added_half, multiplied_size}
use Rattle.estimate.specs.Rounding.{far}
use Rattle.estimate.proofs.Distance.{far_back, far_through, far_scale}
use Rattle.estimate.proofs.SumError.{abs_multiple, abs_fits, bounded, sum_fits, size_fits}
use Rattle.estimate.proofs.Order.{le_multiple, above_least}
use Rattle.estimate.proofs.Clear.{upper, lower, small_error, small_miss, together, finite_below, times_clear, share_clear, fixed_fits, greater}
use Rattle.estimate.proofs.Clear.{like_sign}
use Rattle.estimate.proofs.Clear.{sixteen_multiple, share_multiple, least_large, least_clear, sixteenfold, asked}

-- the difference from the target, as the sum that it is
missed_is : (s target : Float) → T (fits binary64 s) → T (fits binary64 target) → T (finite (sub binary64 s target))
    → (T (finite s)) × (far (value_of s) (value_of target) ≤ 2 * multiple (sub binary64 s target) + 1)
unfolding sub
missed_is s target fs ft h =
    let r = add binary64 s (neg target) in
    let w = nat_abs (value_of s +ℤ value_of (neg target)) in
    let b : 2 ^ 53 * gap (multiple r) w ≤ multiple r + 2 ^ 52 * 1 = added_half s (neg target) fs (neg-fits binary64 target ft) h in (
      add_left s (neg target) h,
      subst (λ (v : ℤ). nat_abs (value_of s +ℤ v) ≤ 2 * multiple r + 1) (neg_value target) (upper (multiple r) w 1 b),
    )

-- t has no sign, and its product with the greater of |target| and 1 is at least the margin, but for its rounding
pub record Allowed (t target : Float) : Type 0 where
  pub value : value_of t ≡ pos (multiple t)
  pub large : 8192 ≤ multiple (margin t target)
  pub margin_under : multiple (margin t target) * 2 ^ 1074 ≤ 2 * (multiple t * multiple (max_of (abs_of target) one_float)) + 2 ^ 1074
  pub under : multiple t * multiple (max_of (abs_of target) one_float) ≤ multiple t * (2 ^ 1074 + multiple target)

allowed : (t target : Float) → T (fits binary64 t) → T (fits binary64 target) → T (finite (margin t target)) → T (le least_margin (margin t target))
    → Allowed t target
unfolding margin
allowed t target ft fg h l =
    let m = max_of (abs_of target) one_float in
    let g = greater target fg in
    let r = mul binary64 t m in
    let p = multiplied_size t m ft g.fit h in
    let sign : sign_of r ≡ unlike (sign_of t) (sign_of m) = ((mul_obeys t m ft g.fit).rounded (mul_left t m h) (mul_right t m h)).sign in
    let clear : sign_of t ≡ false = like_sign (sign_of t) (sign_of m) (sym sign ∙ above_least r h l) g.clear in
    record {
      value = ap (λ (s : Bool). signed s (multiple t)) clear;
      large = le_trans least_large (le_multiple least_margin r fixed_fits.2 (mul-fits binary64 t m) least_clear.0 least_clear.1 h l);
      margin_under = lower (multiple r * 2 ^ 1074) (multiple t * multiple m) (2 ^ 1074) p.half;
      under = mul-le-mul_left (multiple t) g.under;
    }

margin_fits : (t target : Float) → T (fits binary64 (margin t target))
unfolding margin
margin_fits t target = mul-fits binary64 t (max_of (abs_of target) one_float)

module _ (n : ℕ) (z x : ℕ → Float) (fz : (i : ℕ) → T (fits binary64 (z i))) (fx : (i : ℕ) → T (fits binary64 (x i)))
    (target t : Float) (fg : T (fits binary64 target)) (ft : T (fits binary64 t)) where
  pub within_clearly : T (clearly n (rounded_sum n z x) (rounded_size n z x) target t)
      → (value_of t ≡ pos (multiple t))
      × (nat_abs (sumℤ n (λ i. value_of (z i) *ℤ value_of (x i)) -ℤ value_of target *ℤ pos (2 ^ 1074)) ≤ multiple t * (2 ^ 1074 + multiple target))
  within_clearly h =
      let s = rounded_sum n z x in
      let A = rounded_size n z x in
      let U = 2 ^ 1074 in
      let S = sumℤ n (λ i. value_of (z i) *ℤ value_of (x i)) in
      let m = margin t target in
      let k = asked n s A target t h in
      let a = allowed t target ft fg k.finite_margin k.least in
      let r = sub binary64 s target in
      let q = mul binary64 sixteen (abs_of r) in
      let c = mul binary64 A share in
      let fr = sub-fits binary64 s target in
      let hq : T (finite q) = finite_below q m (times_clear r) k.missed k.finite_margin in
      let hr : T (finite r) = abs_finite r (mul_right sixteen (abs_of r) hq) in
      let w = missed_is s target (sum_fits z x fz fx n) fg hr in
      let b = bounded z x fz fx n k.finite_size w.0 in
      let hc : T (finite c) = finite_below c m (share_clear A b.clear) k.shared k.finite_margin in
      let fm : T (fits binary64 m) = margin_fits t target in
      let pq = multiplied_size sixteen (abs_of r) fixed_fits.0 (abs_fits r fr) hq in
      let pc = multiplied_size A share (size_fits z x fz fx n) fixed_fits.1 hc in
      let q_under : multiple q * U ≤ multiple m * U =
      mul-le-mul_right U (le_multiple q m (mul-fits binary64 sixteen (abs_of r)) fm (times_clear r) hq k.finite_margin k.missed) in
      let c_under : multiple c * U ≤ multiple m * U =
      mul-le-mul_right U (le_multiple c m (mul-fits binary64 A share) fm (share_clear A b.clear) hc k.finite_margin k.shared) in
      let e = far (value_of s *ℤ pos U) S in
      let small = small_error n e (multiple A) (multiple c) (multiple m) U (multiple share) k.few b.error (sym share_multiple)
      (upper (multiple c * U) (multiple A * multiple share) U pc.half) c_under in
      let near = small_miss (far (value_of s) (value_of target)) (multiple r) (multiple q) (multiple m) U w.1
      (sixteenfold (multiple sixteen) (multiple r) (multiple q) U sixteen_multiple
      (subst (λ (d : ℕ). multiple sixteen * d ≤ 2 * (multiple q * U) + U) (abs_multiple r) (upper (multiple q * U) (multiple sixteen * multiple
      (abs_of r)) U pq.half))) q_under in
      let all = together e (far (value_of s) (value_of target)) (multiple m) (multiple t * multiple (max_of (abs_of target) one_float)) U small near
      a.margin_under a.large in
      let path = far_through S (value_of s *ℤ pos U) (value_of target *ℤ pos U) in
      let parts : far S (value_of s *ℤ pos U) + far (value_of s *ℤ pos U) (value_of target *ℤ pos U) ≡ e + far (value_of s) (value_of target) * U =
      ap₂ (λ (p q : ℕ). p + q) (far_back S (value_of s *ℤ pos U)) (far_scale (value_of s) (value_of target) U) in
      (a.value, le_trans path (le_trans (le_of_eq parts) (le_trans all a.under)))
