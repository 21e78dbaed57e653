-- The trend's estimate in exact arithmetic: it solves the system with the values on the right, it is the generalised-least-squares one, and where the
-- values are a trend it is that trend.
use Prim.Native.Nat.{ℕ, zero, suc, ◌<◌}
use native.Mathlib.Omega.{arith}
use mathlib.Core.Path.{◌≡◌, refl, ap, ap₂, sym, ◌∙◌}
use mathlib.Core.Logic.{⊎_elim}
use mathlib.Core.Bool.{Bool, cond}
use borrow.Author.Tests.{eq-eqb, ne_eqb}
use lib.Dec.{eqb}
use lib.Ieee.{Float, of_bits, to_bits}
use lib.IntN.{ℤ, pos, ◌+ℤ◌, ◌-ℤ◌, ◌*ℤ◌, +ℤ_idl, +ℤ_idr, +ℤ-neg_ℤ_cancel, zero-*ℤ, *ℤ-zero, *ℤ_comm}
use Rattle.ieee.specs.Floats.{zero_float}
use Rattle.words.proofs.Whole.{either_lt, +ℤ-*ℤ, *ℤ-assoc}
use Rattle.exact.specs.Units.{units}
use Rattle.exact.specs.Whole.{sumℤ}
use Rattle.exact.proofs.Sums.{sumℤ_same, sumℤ_zero, sumℤ_+ℤ, *ℤ-sumℤ, sumℤ_*ℤ, sumℤ_exchange}
use Rattle.system_theory.specs.System.{System, columns, Index, Well, Drift, Within, coefficient_of}
use Rattle.survey.specs.Survey.{Survey}
use Rattle.kriging_theory.specs.System.{system_of}
use Rattle.kriging_theory.specs.LeastSquares.{exact_of, exact_sum, scaled, InverseOf, exact_slope, trend_at, residual, WellsInverse, Estimated}
use Rattle.kriging_theory.proofs.System.{system_symmetric}

-- ---- sums
-- a sum of zeros
none : (n : ℕ) (f : ℕ → ℤ) → ((i : ℕ) → i < n → f i ≡ pos 0) → sumℤ n f ≡ pos 0
none n f h = sumℤ_same n f (λ i. pos 0) h ∙ sumℤ_zero n

-- a row of D times the identity
one : (n i : ℕ) (D : ℤ) (f : ℕ → ℤ) → i < n → sumℤ n (λ k. cond (eqb i k) D (pos 0) *ℤ f k) ≡ D *ℤ f i
one zero i D f l = elim l [ ]
one (suc n) i D f l =
    ⊎_elim
    (λ h.
    ap₂ (λ (x y : ℤ). x +ℤ y) (one n i D f h) (ap (λ (b : Bool). cond b D (pos 0) *ℤ f n) (ne_eqb i n (λ e. omega arith)) ∙ zero-*ℤ (f n))
    ∙ +ℤ_idr (D *ℤ f i))
    (λ h.
    let e : i ≡ n = omega arith in
    ap₂ (λ (x y : ℤ). x +ℤ y)
    (none n _ (λ k m. ap (λ (b : Bool). cond b D (pos 0) *ℤ f k) (ne_eqb i k (λ d. omega arith)) ∙ zero-*ℤ (f k)))
    (ap (λ (b : Bool). cond b D (pos 0) *ℤ f n) (eq-eqb i n e))
    ∙ +ℤ_idl (D *ℤ f n)
    ∙ ap (λ (k : ℕ). D *ℤ f k) (sym e))
    (either_lt i n)

-- a sum inside a sum, taken the other way round
inner : (m n : ℕ) (f : ℕ → ℤ) (g : ℕ → ℕ → ℤ) (v : ℕ → ℤ)
    → sumℤ m (λ w. f w *ℤ sumℤ n (λ k. g w k *ℤ v k)) ≡ sumℤ n (λ k. sumℤ m (λ w. f w *ℤ g w k) *ℤ v k)
inner m n f g v =
    sumℤ_same m _ _ (λ w l. sym (*ℤ-sumℤ n (f w) (λ k. g w k *ℤ v k)))
    ∙ sumℤ_exchange m n (λ w k. f w *ℤ (g w k *ℤ v k))
    ∙ sumℤ_same n _ _ (λ k l. sumℤ_same m _ _ (λ w h. sym (*ℤ-assoc (f w) (g w k) (v k))) ∙ sumℤ_*ℤ m (λ w. f w *ℤ g w k) (v k))

nothing : units zero_float ≡ pos 0
unfolding units of_bits to_bits
nothing = refl

module _ (s : System) where
  -- the lower right of the matrix is zeros, exact ones too
  drift_drift : (l k : ℕ) → exact_of s (Drift l) (Drift k) ≡ pos 0
  unfolding coefficient_of
  drift_drift l k = nothing

  -- and beside it stands F, below it F once more
  drift_well : (l j : ℕ) → exact_of s (Drift l) (Well j) ≡ exact_of s (Well j) (Drift l)
  unfolding coefficient_of
  drift_well l j = refl

  -- over wells and drift functions at once
  both : (f : Index → ℤ) (g : Index → ℕ → ℤ) (n : ℕ) (v : ℕ → ℤ)
      → exact_sum s (λ w. f w *ℤ sumℤ n (λ k. g w k *ℤ v k)) ≡ sumℤ n (λ k. exact_sum s (λ w. f w *ℤ g w k) *ℤ v k)
  both f g n v =
      ap₂ (λ (x y : ℤ). x +ℤ y) (inner s.wells n (λ i. f (Well i)) (λ i. g (Well i)) v) (inner (columns s) n (λ i. f (Drift i)) (λ i. g (Drift i)) v)
      ∙ sym (sumℤ_+ℤ n _ _)
      ∙ sumℤ_same n _ _ (λ k l. sym (+ℤ-*ℤ (sumℤ s.wells (λ i. f (Well i) *ℤ g (Well i) k)) (sumℤ (columns s) (λ i. f (Drift i) *ℤ g (Drift i) k)) (v k)))

  module _
      (symmetric : (u v : Index) → coefficient_of s u v ≡ coefficient_of s v u)
      (N : Index → Index → ℤ) (D : ℤ) (inverse : InverseOf s N D) (v : ℕ → ℤ) where
    -- the matrix times the estimate
    times : (u : Index) → Within s u
        → exact_sum s (λ w. exact_of s u w *ℤ exact_slope s N v w) ≡ sumℤ s.wells (λ k. scaled D u (Well k) *ℤ v k)
    times u h =
        both (exact_of s u) (λ w k. N w (Well k)) s.wells v
        ∙ sumℤ_same s.wells _ _ (λ k l. ap (λ (x : ℤ). x *ℤ v k) (inverse.right u (Well k) h l))

    at_well : (i : ℕ) → i < s.wells → exact_sum s (λ w. exact_of s (Well i) w *ℤ exact_slope s N v w) ≡ D *ℤ v i
    at_well i h = times (Well i) h ∙ one s.wells i D v h

    at_drift : (l : ℕ) → l < columns s → exact_sum s (λ w. exact_of s (Drift l) w *ℤ exact_slope s N v w) ≡ pos 0
    at_drift l h = times (Drift l) h ∙ none s.wells _ (λ k m. zero-*ℤ (v k))

    -- the matrix is its own transpose
    transposed : (u : Index) → exact_sum s (λ w. exact_of s w u *ℤ exact_slope s N v w) ≡ exact_sum s (λ w. exact_of s u w *ℤ exact_slope s N v w)
    transposed u =
        ap₂ (λ (x y : ℤ). x +ℤ y)
        (sumℤ_same s.wells _ _ (λ i l. ap (λ (x : Float). units x *ℤ exact_slope s N v (Well i)) (symmetric (Well i) u)))
        (sumℤ_same (columns s) _ _ (λ i l. ap (λ (x : Float). units x *ℤ exact_slope s N v (Drift i)) (symmetric (Drift i) u)))

    -- the weights of the rest have no part along a drift function
    weightless : (l : ℕ) → l < columns s → sumℤ s.wells (λ j. exact_of s (Well j) (Drift l) *ℤ exact_slope s N v (Well j)) ≡ pos 0
    weightless l h =
        sumℤ_same s.wells _ _ (λ j m. ap (λ (x : ℤ). x *ℤ exact_slope s N v (Well j)) (sym (drift_well l j)))
        ∙ sym (+ℤ_idr _)
        ∙ ap (λ (x : ℤ). sumℤ s.wells (λ j. exact_of s (Drift l) (Well j) *ℤ exact_slope s N v (Well j)) +ℤ x) (sym zeros)
        ∙ at_drift l h
      where
        zeros : sumℤ (columns s) (λ k. exact_of s (Drift l) (Drift k) *ℤ exact_slope s N v (Drift k)) ≡ pos 0
        zeros = none (columns s) _ (λ k m. ap (λ (x : ℤ). x *ℤ exact_slope s N v (Drift k)) (drift_drift l k) ∙ zero-*ℤ (exact_slope s N v (Drift k)))

    -- what it leaves over is Γ times those weights
    left_over : (i : ℕ) → i < s.wells → residual s N D v i ≡ sumℤ s.wells (λ j. exact_of s (Well i) (Well j) *ℤ exact_slope s N v (Well j))
    left_over i h =
        ap (λ (x : ℤ). x -ℤ trend_at s (λ l. exact_slope s N v (Drift l)) i) (sym (at_well i h))
        ∙ +ℤ-neg_ℤ_cancel (sumℤ s.wells (λ j. exact_of s (Well i) (Well j) *ℤ exact_slope s N v (Well j))) (trend_at s (λ l. exact_slope s N v (Drift l)) i)

    normal_equations : (W : ℕ → ℕ → ℤ) (E : ℤ) → WellsInverse s W E → (l : ℕ) → l < columns s
        → sumℤ s.wells (λ i. exact_of s (Well i) (Drift l) *ℤ sumℤ s.wells (λ j. W i j *ℤ residual s N D v j)) ≡ pos 0
    normal_equations W E h l m =
        sumℤ_same s.wells _ _ (λ i b. ap (λ (x : ℤ). exact_of s (Well i) (Drift l) *ℤ x) (weighed i b) ∙ out i)
        ∙ *ℤ-sumℤ s.wells E (λ i. exact_of s (Well i) (Drift l) *ℤ exact_slope s N v (Well i))
        ∙ ap (λ (x : ℤ). E *ℤ x) (weightless l m)
        ∙ *ℤ-zero E
      where
        weighed : (i : ℕ) → i < s.wells → sumℤ s.wells (λ j. W i j *ℤ residual s N D v j) ≡ E *ℤ exact_slope s N v (Well i)
        weighed i b =
            sumℤ_same s.wells _ _ (λ j c. ap (λ (x : ℤ). W i j *ℤ x) (left_over j c))
            ∙ inner s.wells s.wells (W i) (λ j k. exact_of s (Well j) (Well k)) (λ k. exact_slope s N v (Well k))
            ∙ sumℤ_same s.wells _ _ (λ k c. ap (λ (x : ℤ). x *ℤ exact_slope s N v (Well k)) (h i k b c))
            ∙ one s.wells i E (λ k. exact_slope s N v (Well k)) b

        out : (i : ℕ) → exact_of s (Well i) (Drift l) *ℤ (E *ℤ exact_slope s N v (Well i)) ≡ E *ℤ (exact_of s (Well i) (Drift l) *ℤ exact_slope s N v (Well i))
        out i =
            let f = exact_of s (Well i) (Drift l) in
            let c = exact_slope s N v (Well i) in
            sym (*ℤ-assoc f E c) ∙ ap (λ (x : ℤ). x *ℤ c) (*ℤ_comm f E) ∙ *ℤ-assoc E f c

    -- a row of the inverse times F
    row_by_drift : (l k : ℕ) → l < columns s → k < columns s
        → sumℤ s.wells (λ i. N (Drift l) (Well i) *ℤ exact_of s (Well i) (Drift k)) ≡ cond (eqb l k) D (pos 0)
    row_by_drift l k hl hk =
        sym (+ℤ_idr _)
        ∙ ap (λ (x : ℤ). sumℤ s.wells (λ i. N (Drift l) (Well i) *ℤ exact_of s (Well i) (Drift k)) +ℤ x) (sym zeros)
        ∙ inverse.left (Drift l) (Drift k) hl hk
      where
        zeros : sumℤ (columns s) (λ j. N (Drift l) (Drift j) *ℤ exact_of s (Drift j) (Drift k)) ≡ pos 0
        zeros = none (columns s) _ (λ j m. ap (λ (x : ℤ). N (Drift l) (Drift j) *ℤ x) (drift_drift j k) ∙ *ℤ-zero (N (Drift l) (Drift j)))

    finds_slopes : (A : ℕ → ℤ) → ((i : ℕ) → i < s.wells → v i ≡ trend_at s A i) → (l : ℕ) → l < columns s → exact_slope s N v (Drift l) ≡ D *ℤ A l
    finds_slopes A h l m =
        sumℤ_same s.wells _ _ (λ i b. ap (λ (x : ℤ). N (Drift l) (Well i) *ℤ x) (h i b))
        ∙ inner s.wells (columns s) (λ i. N (Drift l) (Well i)) (λ i k. exact_of s (Well i) (Drift k)) A
        ∙ sumℤ_same (columns s) _ _ (λ k b. ap (λ (x : ℤ). x *ℤ A k) (row_by_drift l k m b))
        ∙ one (columns s) l D A m

    solves : Estimated s N D v
    solves = record {
      well = at_well;
      drift = at_drift;
      well_transposed = λ i h. transposed (Well i) ∙ at_well i h;
      drift_transposed = λ l h. transposed (Drift l) ∙ at_drift l h;
      normal = normal_equations;
      slopes = finds_slopes;
    }

-- THE TREND'S ESTIMATE is the generalised-least-squares one
pub estimated : (s : Survey) (N : Index → Index → ℤ) (D : ℤ) → InverseOf (system_of s) N D → (v : ℕ → ℤ) → Estimated (system_of s) N D v
estimated s = solves (system_of s) (system_symmetric s)
