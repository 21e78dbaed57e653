-- Why the trend's numbers are slopes, in exact arithmetic: generalised least squares, in the source's own system. Chilès and Delfiner, Geostatistics,
-- chapter 3, the optimal estimate of the drift: with Γ between the wells, F of the drift functions at the wells and the values v, it is the a of
--     Σ_j γ(x_i, x_j) c_j + Σ_l a_l f_l(x_i) = v_i for each well i,
--     Σ_j c_j f_l(x_j) = 0 for each l,
-- the kriging system with the values on the right in place of a node. A number is its whole multiple of 2^-1074 (`units`); N over D is the inverse of the
-- system's matrix, exact, where it has one. Nothing here is rounded, and nothing is said of how near a rounded inverse comes. The system is any; the theorem
-- is of every survey's.
use Rattle.std.specs.Prelude.{ℕ, ◌<◌, ◌≡◌, Bool, false, cond, eqb, ℤ, pos, ◌+ℤ◌, ◌-ℤ◌, ◌*ℤ◌}
use Rattle.exact.specs.Units.{units}
use Rattle.exact.specs.Whole.{sumℤ}
use Rattle.system_theory.specs.System.{System, columns, Index, Well, Drift, Within, coefficient_of}

-- what equation u multiplies the unknown v by, exact
abbrev pub exact_of : System → Index → Index → ℤ
exact_of s u v = units (coefficient_of s u v)

-- over the wells, then over the drift functions
abbrev pub exact_sum : System → (Index → ℤ) → ℤ
exact_sum s f = sumℤ s.wells (λ i. f (Well i)) +ℤ sumℤ (columns s) (λ l. f (Drift l))

-- one equation or unknown twice
abbrev pub same : Index → Index → Bool
same (Well i) (Well j) = eqb i j
same (Drift l) (Drift k) = eqb l k
same (Well i) (Drift l) = false
same (Drift l) (Well i) = false

-- D times the identity
abbrev pub scaled : ℤ → Index → Index → ℤ
scaled D u v = cond (same u v) D (pos 0)

-- N over D is the inverse of the matrix, on both sides
pub record InverseOf (s : System) (N : Index → Index → ℤ) (D : ℤ) : Type 0 where
  pub left : (u v : Index) → Within s u → Within s v → exact_sum s (λ w. N u w *ℤ exact_of s w v) ≡ scaled D u v
  pub right : (u v : Index) → Within s u → Within s v → exact_sum s (λ w. exact_of s u w *ℤ N w v) ≡ scaled D u v

-- `slope_of`, unrounded and D times: a_l of drift function l, and beside it c_j of well j
abbrev pub exact_slope : System → (Index → Index → ℤ) → (ℕ → ℤ) → Index → ℤ
exact_slope s N v u = sumℤ s.wells (λ i. N u (Well i) *ℤ v i)

-- the trend with coefficients A at well i
abbrev pub trend_at : System → (ℕ → ℤ) → ℕ → ℤ
trend_at s A i = sumℤ (columns s) (λ l. exact_of s (Well i) (Drift l) *ℤ A l)

-- what the estimate leaves over at well i, D times
abbrev pub residual : System → (Index → Index → ℤ) → ℤ → (ℕ → ℤ) → ℕ → ℤ
residual s N D v i = D *ℤ v i -ℤ trend_at s (λ l. exact_slope s N v (Drift l)) i

-- W over E is the inverse of Γ, the wells' part of the matrix
abbrev pub WellsInverse : System → (ℕ → ℕ → ℤ) → ℤ → Type 0
WellsInverse s W E = (i j : ℕ) → i < s.wells → j < s.wells → sumℤ s.wells (λ k. W i k *ℤ exact_of s (Well k) (Well j)) ≡ cond (eqb i j) E (pos 0)

-- the estimate of the drift from the values v
pub record Estimated (s : System) (N : Index → Index → ℤ) (D : ℤ) (v : ℕ → ℤ) : Type 0 where
  -- it solves the system with the values on the right, each side D times
  pub well : (i : ℕ) → i < s.wells → exact_sum s (λ w. exact_of s (Well i) w *ℤ exact_slope s N v w) ≡ D *ℤ v i
  pub drift : (l : ℕ) → l < columns s → exact_sum s (λ w. exact_of s (Drift l) w *ℤ exact_slope s N v w) ≡ pos 0
  -- and so the transposed one
  pub well_transposed : (i : ℕ) → i < s.wells → exact_sum s (λ w. exact_of s w (Well i) *ℤ exact_slope s N v w) ≡ D *ℤ v i
  pub drift_transposed : (l : ℕ) → l < columns s → exact_sum s (λ w. exact_of s w (Drift l) *ℤ exact_slope s N v w) ≡ pos 0
  -- the normal equations: weighed by Γ's inverse, what it leaves over has no part along any drift function
  pub normal : (W : ℕ → ℕ → ℤ) (E : ℤ) → WellsInverse s W E → (l : ℕ) → l < columns s
      → sumℤ s.wells (λ i. exact_of s (Well i) (Drift l) *ℤ sumℤ s.wells (λ j. W i j *ℤ residual s N D v j)) ≡ pos 0
  -- where the values are a trend, it is that trend: on a tilted plain, the tilt
  pub slopes : (A : ℕ → ℤ) → ((i : ℕ) → i < s.wells → v i ≡ trend_at s A i) → (l : ℕ) → l < columns s → exact_slope s N v (Drift l) ≡ D *ℤ A l
