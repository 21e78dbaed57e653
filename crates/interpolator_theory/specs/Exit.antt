-- What holds of a call of the interpolator once it ended: its number, and what it left in each of its areas.
use Rattle.std.specs.Prelude.{ℕ, ◌*◌, ◌<◌, ◌≡◌, false, List, length, get_or, Float}
use Rattle.std.specs.Float.{nan}
use Rattle.error.specs.Outcome.{Outcome, outcome}
use Rattle.error.specs.Rules.{NoneApplies}
use Rattle.area.specs.Area.{Kept}
use Rattle.ieee.specs.Floats.{not_below_zero}
use Rattle.elimination.specs.Elimination.{at}
use Rattle.elimination.specs.Inverse.{laid}
use Rattle.elimination.specs.Call.{Ends}
use Rattle.system_theory.specs.System.{size as equations, Index, Within, coefficient_of, estimate_of, row_of}
use Rattle.survey.specs.declared.Limits.{Limits}
use Rattle.interpolator_theory.specs.Call.{Query, Areas, with_work, wells, node_count, size}
use Rattle.interpolator_theory.specs.Rules.{rules}
use Rattle.interpolator_theory.specs.Assembly.{entry}
use Rattle.interpolator_theory.specs.Interpolation.{answered}
use Rattle.interpolator_theory.specs.System.{target_place, system_of, variance_of, unknown_at}

-- "The matrix beside the identity, s rows of 2s", in the work area that was lent
abbrev pub assembled : Query → Areas → List Float
assembled q a = laid (size q) (entry q) a.work

-- the target t is kriged: the areas hold what its own unknowns give, λ_i of each point and μ_l of each drift function
pub record Kriged (q : Query) (exit : Areas) (t : ℕ) : Type 0 where
  -- "Figure: Σ z_i·value_i"
  pub figure : get_or exit.figures t nan ≡ estimate_of (system_of q) (λ i. get_or q.values i nan) (unknown_at q exit.work t)
  -- "Variance: sill minus each z·b in turn, then as above": "minus zero, anything below zero and NaN become +0"
  pub variance : get_or exit.variances t nan ≡ not_below_zero (variance_of q (target_place q t) (unknown_at q exit.work t))

-- "all past the named lengths is untouched"
pub record Untouched (q : Query) (a exit : Areas) : Type 0 where
  pub work : Kept (2 * size q * size q) a.work exit.work
  pub figures : Kept (node_count q) a.figures exit.figures
  pub variances : Kept (node_count q) a.variances exit.variances

-- all of it, of a call on the areas a that ended as o
pub record Promise (limits : Limits) (q : Query) (a : Areas) (o : Outcome Areas) : Type 0 where
  -- each number exactly where its condition holds, and the areas then: "Its elimination does not skip a zero factor"
  pub ends : Ends (rules limits q a) false (size q) (assembled q a) a (with_work a) (answered q a) o
  -- m targets of d numbers each, since 2 does not apply: "node list .. not a multiple of d"
  pub targets : NoneApplies (rules limits q a) → length q.targets ≡ node_count q * q.dimension
  -- a call that is not refused eliminates the kriging system's matrix, which has a row for each equation
  pub rows : size q ≡ equations (system_of q)
  pub matrix : NoneApplies (rules limits q a) → (u v : Index) → Within (system_of q) u → Within (system_of q) v
      → at (2 * size q) (assembled q a) (row_of (system_of q) u) (row_of (system_of q) v) ≡ coefficient_of (system_of q) u v
  -- "n = 0 gives 19"
  pub no_wells : NoneApplies (rules limits q a) → wells q ≡ 0 → o ≡ outcome 19 (with_work a (assembled q a))
  -- every target has its own figure and variance
  pub kriged : o.number ≡ 0 → (t : ℕ) → t < node_count q → Kriged q o.areas t
  -- however it ended
  pub untouched : Untouched q a o.areas
