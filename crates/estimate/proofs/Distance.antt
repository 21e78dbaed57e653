-- How far apart two whole numbers are, by way of a third, term by term, and in other units.
use Prim.Native.Nat.{ℕ, ◌+◌, ◌*◌, ◌≤◌}
use native.Mathlib.Nat.{le_trans, le_of_eq}
use mathlib.Core.Path.{◌≡◌, sym, ap, ◌∙◌}
use lib.IntN.{ℤ, pos, neg_ℤ, nat_abs, ◌+ℤ◌, ◌-ℤ◌, ◌*ℤ◌, +ℤ_assoc, +ℤ_idl, +ℤ_invl, +ℤ_comm, neg_ℤ-+ℤ, neg_ℤ-neg_ℤ}
use Rattle.words.proofs.Whole.{+ℤ-middle, +ℤ-*ℤ, negℤ_*ℤ, nat_abs_+ℤ, nat_abs_*ℤ, nat_abs_negℤ}
use Rattle.estimate.specs.Rounding.{far}

-- a - c by way of b
through : (a b c : ℤ) → a -ℤ c ≡ (a -ℤ b) +ℤ (b -ℤ c)
through a b c = sym (+ℤ_assoc a (neg_ℤ b) (b -ℤ c) ∙ ap (λ (d : ℤ). a +ℤ d) (sym (+ℤ_assoc (neg_ℤ b) b (neg_ℤ c)) ∙ ap (λ (d : ℤ). d +ℤ neg_ℤ c) (+ℤ_invl b)
    ∙ +ℤ_idl (neg_ℤ c)))

pub far_through : (a b c : ℤ) → far a c ≤ far a b + far b c
far_through a b c = le_trans (le_of_eq (ap nat_abs (through a b c))) (nat_abs_+ℤ (a -ℤ b) (b -ℤ c))

pub far_sum : (a b c d : ℤ) → far (a +ℤ b) (c +ℤ d) ≤ far a c + far b d
far_sum a b c d =
    le_trans (le_of_eq (ap nat_abs (ap (λ (e : ℤ). (a +ℤ b) +ℤ e) (neg_ℤ-+ℤ c d) ∙ +ℤ-middle a b (neg_ℤ c) (neg_ℤ d))))
    (nat_abs_+ℤ (a -ℤ c) (b -ℤ d))

pub far_scale : (a b : ℤ) (k : ℕ) → far (a *ℤ pos k) (b *ℤ pos k) ≡ far a b * k
far_scale a b k =
    ap nat_abs (ap (λ (d : ℤ). (a *ℤ pos k) +ℤ d) (sym (negℤ_*ℤ b (pos k))) ∙ sym (+ℤ-*ℤ a (neg_ℤ b) (pos k)))
    ∙ nat_abs_*ℤ (a -ℤ b) (pos k)

pub far_back : (a b : ℤ) → far a b ≡ far b a
far_back a b =
    sym (nat_abs_negℤ (a -ℤ b))
    ∙ ap nat_abs (neg_ℤ-+ℤ a (neg_ℤ b) ∙ ap (λ (d : ℤ). neg_ℤ a +ℤ d) (neg_ℤ-neg_ℤ b) ∙ +ℤ_comm (neg_ℤ a) b)
