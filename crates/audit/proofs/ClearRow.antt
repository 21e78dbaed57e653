-- A row that sums with rounding show to be met is met by the exact ones.
use Prim.Native.Nat.{ℕ, ◌+◌, ◌*◌, ◌^◌}
use mathlib.Core.Path.{◌≡◌, ap, ap₂, ◌∙◌}
use mathlib.Core.Bool.{true}
use mathlib.Core.List.{List}
use lib.Dec.{T}
use lib.IntN.{ℤ, pos, nat_abs, ◌+ℤ◌, ◌-ℤ◌, ◌*ℤ◌, pos-+ℤ-pos, pos-*ℤ-pos}
use lib.Signed.{le_z}
use lib.ListN.{length}
use lib.Ieee.{Float, binary64, fits}
use lib.Ieee.Bits.{is_true}
use Rattle.ieee.specs.Values.{multiple, sign_of, value_of}
use Rattle.ieee.proofs.RoundingSigned.{signed_abs}
use Rattle.words.proofs.Whole.{pos_≤ℤ}
use Rattle.exact.specs.Units.{units}
use Rattle.exact.specs.Whole.{sumℤ}
use Rattle.exact.specs.Products.{dotted}
use Rattle.exact.proofs.Sums.{sumℤ_same}
use Rattle.exact.proofs.Units.{units_value}
use Rattle.estimate.specs.Estimate.{rounded_sum, rounded_size, clearly}
use Rattle.estimate.proofs.Within.{within_clearly}
use Rattle.audit.specs.Audit.{within, unit}
use Rattle.audit.specs.Lists.{number_in}

module _ (z f : List Float) (fz : (i : ℕ) → T (fits binary64 (number_in z i))) (ff : (i : ℕ) → T (fits binary64 (number_in f i))) (column width : ℕ) where
  -- column by column, in the code's order
  at : ℕ → Float
  at i = number_in f (column + i * width)

  dotted_value : dotted z f column width ≡ sumℤ (length z) (λ i. value_of (number_in z i) *ℤ value_of (number_in f (column + i * width)))
  unfolding dotted
  dotted_value = sumℤ_same (length z) _ _ (λ i h. ap₂ (λ (a b : ℤ). a *ℤ b) (units_value (number_in z i) (fz i)) (units_value (number_in f
      (column + i * width)) (ff (column + i * width))))

  -- t·(1 + |target|), as the whole number that it is
  allowed_value : (target t : Float) → T (fits binary64 target) → T (fits binary64 t) → value_of t ≡ pos (multiple t)
      → units t *ℤ (unit +ℤ pos (nat_abs (units target))) ≡ pos (multiple t * (2 ^ 1074 + multiple target))
  allowed_value target t fg ft e =
      ap₂ (λ (a : ℤ) (b : ℕ). a *ℤ (unit +ℤ pos b)) (units_value t ft ∙ e) (ap nat_abs (units_value target fg) ∙ signed_abs (sign_of target) (multiple target))
      ∙ ap (λ (a : ℤ). pos (multiple t) *ℤ a) (pos-+ℤ-pos (2 ^ 1074) (multiple target))
      ∙ pos-*ℤ-pos (multiple t) (2 ^ 1074 + multiple target)

  pub clear_row : (target t : Float) → T (fits binary64 target) → T (fits binary64 t)
      → T (clearly (length z) (rounded_sum (length z) (number_in z) (λ i. number_in f (column + i * width))) (rounded_size (length z) (number_in z)
      (λ i. number_in f (column + i * width))) target t)
      → within t (dotted z f column width) target ≡ true
  unfolding within
  clear_row target t fg ft h =
      let w = within_clearly (length z) (number_in z) (λ i. number_in f (column + i * width)) fz (λ i. ff (column + i * width)) target t fg ft h in
      let left : pos (nat_abs (dotted z f column width -ℤ units target *ℤ unit))
      ≡ pos (nat_abs (sumℤ (length z) (λ i. value_of (number_in z i) *ℤ value_of (number_in f (column + i * width))) -ℤ value_of target *ℤ pos (2 ^ 1074))) =
      ap₂ (λ (a b : ℤ). pos (nat_abs (a -ℤ b *ℤ unit))) dotted_value (units_value target fg) in
      ap₂ le_z left (allowed_value target t fg ft w.0) ∙ is_true _ (pos_≤ℤ w.1).le
