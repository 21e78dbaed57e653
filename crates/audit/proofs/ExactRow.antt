-- One row of an audit in words: what the exact sums hold on both sides is the row itself, since nothing wraps.
use Prim.Native.Nat.{ℕ, ◌+◌, ◌^◌, ◌<◌}
use native.Mathlib.Omega.{arith}
use mathlib.Core.Path.{◌≡◌, sym, ap, ap₂, ◌∙◌}
use mathlib.Core.List.{List}
use lib.Dec.{T}
use lib.IntN.{ℤ, pos, nat_abs, ◌+ℤ◌, ◌-ℤ◌, ◌*ℤ◌, +ℤ_idl}
use lib.Signed.{le_z}
use lib.ListN.{length, replicate}
use lib.Ieee.{Float, binary64, fits}
use Rattle.ieee.specs.Floats.{one_float, abs_of}
use Rattle.exact.specs.Units.{units}
use Rattle.words.specs.Words.{reading, held}
use Rattle.exact.specs.Products.{dotted}
use Rattle.words.proofs.Whole.{*ℤ-+ℤ}
use Rattle.exact.proofs.Units.{units_one, units_abs}
use Rattle.words.proofs.Held.{held_zero, held_add}
use Rattle.exact.proofs.Exact.{term, terms_add, terms_sub, terms_dotted, exact, exact_dotted, exact_magnitude}
use Rattle.audit.specs.Audit.{within, unit}

module _ (t target : Float) where
  -- what a row may be off: t·1 + t·|target|
  abbrev allowance : ℤ
  allowance = units t *ℤ units one_float +ℤ units t *ℤ units (abs_of target)

  allowance_is : T (fits binary64 target) → allowance ≡ units t *ℤ (unit +ℤ pos (nat_abs (units target)))
  allowance_is f =
      ap₂ (λ (x y : ℤ). units t *ℤ x +ℤ units t *ℤ y) units_one (units_abs target f)
      ∙ sym (*ℤ-+ℤ (units t) unit (pos (nat_abs (units target))))

  -- its words, added to 0 one after another
  allowance_held : (one allowed : List ℕ)
      → one ≡ held (reading (replicate 67 0) +ℤ units t *ℤ units one_float)
      → allowed ≡ held (reading one +ℤ units t *ℤ units (abs_of target))
      → reading allowed ≡ allowance
  allowance_held one allowed e g =
      ap reading
      (g
      ∙ ap (λ (ws : List ℕ). held (reading ws +ℤ units t *ℤ units (abs_of target))) first
      ∙ held_add (units t *ℤ units one_float) (units t *ℤ units (abs_of target)))
      ∙ exact {k = 1 + 1} (omega arith) (terms_add (term t one_float) (term t (abs_of target)))
    where
      first : one ≡ held (units t *ℤ units one_float)
      first =
          e ∙ ap (λ (ws : List ℕ). held (reading ws +ℤ units t *ℤ units one_float)) held_zero
          ∙ held_add (pos 0) (units t *ℤ units one_float)
          ∙ ap held (+ℤ_idl (units t *ℤ units one_float))

module _ (z x : List Float) (column width : ℕ) (target : Float) (short : length z < 2 ^ 80) where
  -- what the sum leaves of the target
  abbrev rest : ℤ
  rest = dotted z x column width -ℤ units target *ℤ units one_float

  rest_held : (sum missing size : List ℕ)
      → sum ≡ held (dotted z x column width)
      → missing ≡ held (reading sum -ℤ units target *ℤ units one_float)
      → size ≡ held (pos (nat_abs (reading missing)))
      → reading size ≡ pos (nat_abs rest)
  rest_held sum missing size e g h =
      ap reading (h ∙ ap (λ (ws : List ℕ). held (pos (nat_abs (reading ws)))) left)
      ∙ exact_magnitude {k = length z + 1} (omega arith) (terms_sub (terms_dotted z x column width) (term target one_float))
    where
      whole : reading sum ≡ dotted z x column width
      whole = ap reading e ∙ exact_dotted z x column width (omega arith)

      left : missing ≡ held rest
      left = g ∙ ap (λ (s : ℤ). held (s -ℤ units target *ℤ units one_float)) whole

  -- the row, by what both sides are read as
  pub row_is : (t : Float) → T (fits binary64 target) → (sum missing size one allowed : List ℕ)
      → sum ≡ held (dotted z x column width)
      → missing ≡ held (reading sum -ℤ units target *ℤ units one_float)
      → size ≡ held (pos (nat_abs (reading missing)))
      → one ≡ held (reading (replicate 67 0) +ℤ units t *ℤ units one_float)
      → allowed ≡ held (reading one +ℤ units t *ℤ units (abs_of target))
      → le_z (reading size) (reading allowed) ≡ within t (dotted z x column width) target
  unfolding within
  row_is t f sum missing size one allowed e₁ e₂ e₃ e₄ e₅ =
      ap₂ le_z
      (rest_held sum missing size e₁ e₂ e₃ ∙ ap (λ (u : ℤ). pos (nat_abs (dotted z x column width -ℤ units target *ℤ u))) units_one)
      (allowance_held t target one allowed e₄ e₅ ∙ allowance_is t target f)
