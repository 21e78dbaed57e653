-- The two parts of a sum, added and taken, are those of the alternating series with its signs.
use Prim.Native.Nat.{ℕ, zero, suc, ◌+◌, ◌*◌, ◌^◌}
use native.Mathlib.Nat.{add-zero, mul_comm, pow-suc, pow-zero}
use mathlib.Core.Path.{◌≡◌, refl, ap, ap₂, sym, ◌∙◌}
use mathlib.Core.Bool.{Bool, true, false, not, cond}
use lib.IntN.{ℤ, pos, neg_ℤ, one, pow, pow-succ', ◌+ℤ◌, ◌-ℤ◌, ◌*ℤ◌, neg_ℤ-neg_ℤ, neg_ℤ-+ℤ, pos-+ℤ-pos, pos-*ℤ-pos, +ℤ_assoc}
use Rattle.words.proofs.Whole.{+ℤ-swap, +ℤ-*ℤ, negℤ_*ℤ, *ℤ-negℤ}
use Rattle.series.specs.Series.{even, over, added, taken, alternating}

-- (−a)^n
abbrev signed : Bool → ℕ → ℤ
signed b v = cond b (pos v) (neg_ℤ (pos v))

turned : (b : Bool) (a v : ℕ) → neg_ℤ (pos a) *ℤ signed b v ≡ signed (not b) (v * a)
turned true a v = negℤ_*ℤ (pos a) (pos v) ∙ ap neg_ℤ (pos-*ℤ-pos a v ∙ ap pos (mul_comm a v))
turned false a v =
    *ℤ-negℤ (neg_ℤ (pos a)) (pos v) ∙ ap neg_ℤ (negℤ_*ℤ (pos a) (pos v)) ∙ neg_ℤ-neg_ℤ (pos a *ℤ pos v) ∙ pos-*ℤ-pos a v ∙ ap pos (mul_comm a v)

powers : (a n : ℕ) → pow (neg_ℤ (pos a)) n ≡ signed (even n) (a ^ n)
unfolding pow one
powers a zero = ap pos (sym (pow-zero a))
powers a (suc n) =
    pow-succ' (neg_ℤ (pos a)) n
    ∙ ap (λ (z : ℤ). neg_ℤ (pos a) *ℤ z) (powers a n)
    ∙ turned (even n) a (a ^ n)
    ∙ ap (λ (v : ℕ). signed (even (suc n)) v) (sym (pow-suc a n))

-- one more term
widened : (p m g : ℕ) → (pos p -ℤ pos m) *ℤ pos g ≡ pos (p * g) -ℤ pos (m * g)
widened p m g = +ℤ-*ℤ (pos p) (neg_ℤ (pos m)) (pos g) ∙ ap₂ (λ (x y : ℤ). x +ℤ y) (pos-*ℤ-pos p g) (negℤ_*ℤ (pos m) (pos g) ∙ ap neg_ℤ (pos-*ℤ-pos m g))

more : (b : Bool) (p m v : ℕ) → pos p -ℤ pos m +ℤ signed b v ≡ pos (p + cond b v 0) -ℤ pos (m + cond b 0 v)
more true p m v =
    +ℤ-swap (pos p) (neg_ℤ (pos m)) (pos v) ∙ ap₂ (λ (x y : ℤ). x +ℤ y) (pos-+ℤ-pos p v) (ap (λ (k : ℕ). neg_ℤ (pos k)) (sym (add-zero m)))
more false p m v =
    +ℤ_assoc (pos p) (neg_ℤ (pos m)) (neg_ℤ (pos v))
    ∙ ap₂ (λ (x y : ℤ). x +ℤ y) (ap pos (sym (add-zero p))) (sym (neg_ℤ-+ℤ (pos m) (pos v)) ∙ ap neg_ℤ (pos-+ℤ-pos m v))

pub signs : (a d n : ℕ) → alternating a d n ≡ pos (added a d n) -ℤ pos (taken a d n)
unfolding alternating added taken
signs a d zero = refl
signs a d (suc n) =
    ap₂ (λ (x y : ℤ). x *ℤ pos (d * suc n) +ℤ y) (signs a d n) (powers a (suc n))
    ∙ ap (λ (x : ℤ). x +ℤ signed (even (suc n)) (a ^ suc n)) (widened (added a d n) (taken a d n) (d * suc n))
    ∙ more (even (suc n)) (added a d n * (d * suc n)) (taken a d n * (d * suc n)) (a ^ suc n)

-- sums worked out by hand: 1 − 1 + 1/2 − 1/6 = 2/6; 1 − 1/2 + 1/8 = 5/8; 1 − 2 + 2 − 8/6 + 16/24 = 8/24; 1 − 3 + 9/2 − 27/6 = −12/6
pub by_hand : ((alternating 1 1 3 ≡ pos 2) × (over 1 3 ≡ 6)) × ((alternating 1 2 2 ≡ pos 5) × (over 2 2 ≡ 8))
    × ((alternating 2 1 4 ≡ pos 8) × (over 1 4 ≡ 24)) × (alternating 3 1 3 ≡ neg_ℤ (pos 12))
unfolding alternating over pow one
by_hand = ((refl, refl), (refl, refl), (refl, refl), refl)
