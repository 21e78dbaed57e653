-- The bounds of the bins: what makes a squared distance one, and what they tell of a pair's.
use Rattle.std.proofs.Common.{◌≡◌, ℕ, ◌+◌, ◌-◌, ◌<◌, ◌≤◌, Bool, true, false, T, List, length, get_or, set, sym, refl, subst, true≢false, arith, get_or-set_other, get_or-set_same}
use native.Mathlib.Decide.{dec_lt}
use Rattle.std.proofs.Math.Logic.{∥∥₁_elim}
use Rattle.std.proofs.Math.Bool.{beq}
use Rattle.std.proofs.Math.Dec.{leb}
use Rattle.std.proofs.lemmas.Bool.{leb-true, leb-false}
use Rattle.std.specs.Coded.{le_prop}
use lib.Ieee.{Float, nan, inf, fin, binary64, fits, of_bits, lt, eq, le}
use Rattle.ieee.specs.Floats.{zero_float}
use Rattle.ieee.specs.Root.{sqrt_of}
use Rattle.ieee.specs.Values.{Signed, infinite, number}
use Rattle.ieee.proofs.RootOrder.{not_below}
use Rattle.ieee.proofs.CastOrder.{part_rises}
use Rattle.semivariogram.specs.Parts.{bin_at, IsLow, IsHigh, Beside, Bounds}

-- what is above zero has a clear sign
pub above_clear : (x : Float) → lt zero_float x ≡ true → Signed false x
unfolding lt of_bits
above_clear nan h = absurd (true≢false (sym h))
above_clear (inf true) h = absurd (true≢false (sym h))
above_clear (inf false) h = infinite
above_clear (fin true m e) h = absurd (true≢false (sym h))
above_clear (fin false m e) h = number m e

module _ (w : Float) (n : ℕ) where
  -- a bin rises with the squared distance
  bin_rises : (x y : Float) → Signed false x → Signed false y → ∥ Signed false w ∥₁ → T (fits binary64 y) → T (le x y)
      → bin_at w n (sqrt_of x) ≤ bin_at w n (sqrt_of y)
  bin_rises x y cx cy cw f h = ∥∥₁_elim cw le_prop (λ (k : Signed false w). omega (arith, part_rises x y w cx cy k f (not_below x y cx cy h)))

  -- so a squared distance bounds the bins by its own
  pub low_by_bin : (v : Float) (b : ℕ) → ∥ Signed false w ∥₁ → Signed false v → b ≤ bin_at w n (sqrt_of v) → IsLow w n b v
  low_by_bin v b cw cv l s cs f t = omega (arith, bin_rises v s cv cs cw f t)

  pub high_by_bin : (v : Float) (b : ℕ) → ∥ Signed false w ∥₁ → Signed false v → T (fits binary64 v) → bin_at w n (sqrt_of v) ≤ b → IsHigh w n b v
  high_by_bin v b cw cv g l s cs f t = omega (arith, bin_rises s v cs cv cw g t)

  -- a NaN bounds nothing
  pub low_nan : (b : ℕ) → IsLow w n b nan
  unfolding le lt eq
  low_nan b s cs f t = absurd t

  nothing_below_nan : (s : Float) → Signed false s → T (le s nan) → ⊥
  unfolding le lt eq
  nothing_below_nan s infinite t = t
  nothing_below_nan s (number m e) t = t

  pub high_nan : (b : ℕ) → IsHigh w n b nan
  high_nan b s cs f t = absurd (nothing_below_nan s cs t)

  -- beside an edge a squared distance bounds the bin on the other side, where its own bin, k, is on its own
  pub beside_told : (above : Bool) (b k : ℕ) (v : Float) → ∥ Signed false w ∥₁ → lt zero_float v ≡ true → T (fits binary64 v) → k ≡ bin_at w n (sqrt_of v)
      → beq (leb b k) above ≡ true → Beside above w n b v
  beside_told above b k v cw l f is h = go above (leb b k) refl h
    where
      go : (above told : Bool) → leb b k ≡ told → beq told above ≡ true → Beside above w n b v
      go true true e h = low_by_bin v b cw (above_clear v l) (omega (arith, leb-true b k e, is))
      go false false e h = high_by_bin v (b - 1) cw (above_clear v l) f (omega (arith, leb-false b k e, is))
      go true false e h = absurd (true≢false (sym h))
      go false true e h = absurd (true≢false (sym h))

  pub beside_nan : (above : Bool) (b : ℕ) → Beside above w n b nan
  beside_nan true b = low_nan b
  beside_nan false b = high_nan (b - 1)

  -- and no bin is before the first or after the last
  pub low_first : (v : Float) → IsLow w n 0 v
  low_first v s cs f t = omega arith

  pub high_last : (v : Float) → IsHigh w n (n - 1) v
  high_last v s cs f t = omega arith

  -- ---- a squared distance inside the bounds of a bin is in it
  pub inside : (m : ℕ) (lows highs : List Float) → Bounds w n m lows highs → (s : Float) → Signed false s → T (fits binary64 s) → (b : ℕ) → b < m
      → T (le (get_or lows b nan) s) → T (le s (get_or highs b nan)) → b ≡ bin_at w n (sqrt_of s)
  inside m lows highs h s cs f b l t u = omega (arith, h.low b l s cs f t, h.high b l s cs f u)

-- ---- one more of them is set
pub next_set : (P : ℕ → Float → Type 0) (b : ℕ) (xs : List Float) (v : Float) → b < length xs → P b v → ((k : ℕ) → k < b → P k (get_or xs k nan))
    → (k : ℕ) → k < b + 1 → P k (get_or (set xs b v) k nan)
next_set P b xs v l h g k m =
    elim (dec_lt k b) [
      | yes p ↦ subst (P k) (sym (get_or-set_other xs b k v nan (λ i. omega arith))) (g k p)
      | no p ↦
          let i : b ≡ k = omega arith in
          subst (λ (j : ℕ). P j (get_or (set xs b v) j nan)) i (subst (P b) (sym (get_or-set_same xs b v nan l)) h)
    ]
