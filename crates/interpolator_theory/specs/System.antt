-- Ordinary and universal kriging in terms of the covariance, block by block: Chilès and Delfiner, Geostatistics, chapter 3.
-- With C(h) = sill − γ(h), points x_i with values z_i, a target x_0 and drift functions f_l,
--     Σ_j C(x_i, x_j) λ_j + Σ_l μ_l f_l(x_i) = C(x_i, x_0) for each point i,
--     Σ_j λ_j f_l(x_j) = f_l(x_0) for each l,
--     the estimate is Σ_i λ_i z_i, and the variance C(0) − Σ_i λ_i C(x_i, x_0) − Σ_l μ_l f_l(x_0), where C(0) is the sill.
-- Each operation is rounded once, in the source's order. The equations, their unknowns and where they stand in the matrix are said in
-- system_theory/specs/System, for this system and a fit's: the points are its wells, a target its node.
use Rattle.std.specs.Prelude.{ℕ, ◌+◌, ◌*◌, List, [], ◌∷◌, get_or, Float}
use Rattle.std.specs.Float.{nan, binary64}
use Rattle.std.specs.Float.Ieee.{sub, mul}
use Rattle.ieee.specs.Root.{sqrt_of}
use Rattle.ieee.specs.Sums.{add_each, less_each}
use Rattle.variogram.specs.Model.{semivariance}
use Rattle.variogram.specs.Distance.{squares}
use Rattle.system_theory.specs.Drift.{Place, Monomial, One, X, Y, XY}
use Rattle.system_theory.specs.System.{System, columns, Index, Well, Drift, right_of, unknown_of}
use Rattle.interpolator_theory.specs.declared.KrigingType.{KrigingType}
use Rattle.interpolator_theory.specs.declared.KrigingType.TheVariants.{Ordinary, Universal}
use Rattle.interpolator_theory.specs.Call.{Query, wells}

-- ---- places: x_i of a point and x_0 of a target

-- of a list of points of d numbers each, row after row, the i-th; there are no external columns
abbrev pub place_of : List Float → ℕ → ℕ → Place
place_of xs d i = record { axis = λ k. get_or xs (i * d + k) nan; external = λ c. nan }

-- x_i
abbrev pub point_place : Query → ℕ → Place
point_place q i = place_of q.points q.dimension i

-- x_0, of the target t
abbrev pub target_place : Query → ℕ → Place
target_place q t = place_of q.targets q.dimension t

-- C(a, b) = sill − γ(|a − b|): "distance sums squares by rising axis"
unfoldable pub covariance_of : Query → Place → Place → Float
unfolding semivariance sqrt_of add_each
covariance_of q a b = sub binary64 q.variogram.sill (semivariance q.variogram (sqrt_of (squares a.axis b.axis q.dimension)))

-- ---- drift functions f_l: "Ordinary adds a one ..; Universal 1, x, y, xy .. from the first two axes"
abbrev pub monomials : KrigingType → List Monomial
monomials Ordinary = One ∷ []
monomials Universal = One ∷ X ∷ Y ∷ XY ∷ []

-- ---- the system: "Entries are sill − variogram, the diagonal too"
abbrev pub system_of : Query → System
system_of q = record {
  wells = wells q;
  place = point_place q;
  functions = monomials q.kriging_type;
  between = λ i j. covariance_of q (point_place q i) (point_place q j);
  measure = covariance_of q;
}

-- C(0) − Σ_i λ_i C(x_i, x_0) − Σ_l μ_l f_l(x_0), from the unknowns: "sill minus each z·b in turn"
unfoldable pub variance_of : Query → Place → (Index → Float) → Float
unfolding less_each covariance_of right_of
variance_of q target unknown =
    less_each
    (less_each q.variogram.sill (wells q) (λ i. mul binary64 (unknown (Well i)) (right_of (system_of q) target (Well i))))
    (columns (system_of q))
    (λ l. mul binary64 (unknown (Drift l)) (right_of (system_of q) target (Drift l)))

-- an unknown of the target t, from the work area of a finished elimination: "z = inverse times b, summed from 0 by rising column"
abbrev pub unknown_at : Query → List Float → ℕ → Index → Float
unknown_at q work t u = unknown_of (system_of q) work (target_place q t) u
