-- A work area with a matrix beside the identity: its entries, and what lies past them.
use Prim.Native.Nat.{ℕ, ◌+◌, ◌*◌, ◌/◌, ◌%◌, ◌≤◌, ◌<◌}
use native.Mathlib.Nat.{zero-add}
use native.Mathlib.Decide.{dec_lt}
use native.Mathlib.Omega.{arith}
use mathlib.Core.Path.{◌≡◌, refl, ap, sym, ◌∙◌}
use mathlib.Core.Logic.{◌≢◌}
use mathlib.Core.Bool.{Bool, cond}
use mathlib.Core.List.{List}
use lib.Dec.{eqb}
use lib.ListN.{length, get_or}
use lib.Ieee.{Float}
use borrow.Author.Tests.{lt-ltb, le-ltb, eq-eqb, ne_eqb}
use Rattle.area.specs.Area.{written, Kept}
use Rattle.area.proofs.Places.{at_place}
use Rattle.area.proofs.Filled.{entry as filled-entry, same_entries, one_fill, kept_filled}
use Rattle.ieee.specs.Floats.{zero_float, one_float}
use Rattle.elimination.specs.Inverse.{beside_identity, laid}

-- matrices with the same entries are laid alike
pub same_laid : (s : ℕ) (e f : ℕ → ℕ → Float) (work : List Float) → ((i j : ℕ) → i < s → j < s → e i j ≡ f i j) → laid s e work ≡ laid s f work
unfolding laid beside_identity
same_laid s e f work h =
    same_entries (2 * s) s _ _ work (λ i c hi hc.
    elim (dec_lt c s) [
      | yes l ↦ rw (lt-ltb c s l) (h i c hi l)
      | no n ↦ rw (le-ltb c s (omega arith))
    ])

module _ (s : ℕ) (entry : ℕ → ℕ → Float) (work : List Float) where
  -- what lies past the matrix is as it was
  pub kept_laid : Kept (2 * s * s) work (laid s entry work)
  unfolding laid
  kept_laid =
      let e : s * (2 * s) ≡ 2 * s * s = omega arith in
      rw e at (kept_filled (2 * s) s s (beside_identity s entry) work (omega arith))

  module _ (d : Float) (long : 2 * s * s ≤ length work) where
    laid_at : (i c : ℕ) → i < s → c < 2 * s → get_or (laid s entry work) (i * (2 * s) + c) d ≡ beside_identity s entry i c
    unfolding laid
    laid_at i c hi hc = filled-entry (2 * s) s (beside_identity s entry) work i c d (omega arith) hi hc

    -- the left half is the matrix
    pub laid_left : (i j : ℕ) → i < s → j < s → get_or (laid s entry work) (i * (2 * s) + j) d ≡ entry i j
    unfolding beside_identity
    laid_left i j hi hj = laid_at i j hi (omega arith) ∙ rw (lt-ltb j s hj)

    -- the right half is the identity
    right : (i j : ℕ) → i < s → j < s → get_or (laid s entry work) (i * (2 * s) + (s + j)) d ≡ cond (eqb (s + j) (s + i)) one_float zero_float
    unfolding beside_identity
    right i j hi hj = laid_at i (s + j) hi (omega arith) ∙ rw (le-ltb (s + j) s (omega arith))

    pub laid_one : (i : ℕ) → i < s → get_or (laid s entry work) (i * (2 * s) + (s + i)) d ≡ one_float
    laid_one i h = right i i h h ∙ ap (λ (b : Bool). cond b one_float zero_float) (eq-eqb (s + i) (s + i) refl)

    pub laid_zero : (i j : ℕ) → i < s → j < s → i ≢ j → get_or (laid s entry work) (i * (2 * s) + (s + j)) d ≡ zero_float
    laid_zero i j hi hj n = right i j hi hj ∙ ap (λ (b : Bool). cond b one_float zero_float) (ne_eqb (s + j) (s + i) (λ e. n (omega arith)))

    -- by its place in the area
    pub laid_place : (p : ℕ) → p < s * (2 * s) → get_or (laid s entry work) p d ≡ beside_identity s entry (p / (2 * s)) (p % (2 * s))
    unfolding laid
    laid_place p h =
        let f : ℕ → Float = λ p. beside_identity s entry (p / (2 * s)) (p % (2 * s)) in
        ap (λ (xs : List Float). get_or xs p d) (one_fill (2 * s) s (beside_identity s entry) work)
        ∙ ap (λ (i : ℕ). get_or (written 0 (s * (2 * s)) f work) i d) (sym (zero-add p))
        ∙ at_place 0 (s * (2 * s)) f work p d (let e = zero-add (s * (2 * s)) in omega arith) h
