-- A call by its parameters: an interpolator, what is asked of it, and what it is lent.
use Rattle.std.specs.Prelude.{ℕ, ◌+◌, ◌≡◌}
use Rattle.variogram.specs.declared.Variogram.{Variogram}
use Rattle.survey.specs.Limits.{library}
use Rattle.interpolator_theory.specs.declared.KrigingType.{KrigingType}
use Rattle.interpolator_theory.specs.declared.KrigingType.TheVariants.{Universal}
use Rattle.interpolator_theory.specs.Call.{Query, Areas, areas_of, added}
use Rattle.interpolator.specs.declared.KrigingInterpolator.{KrigingInterpolator}
use Rattle.interpolator.specs.declared.Query as Asked
use Rattle.interpolator.specs.declared.Areas as Lent

-- an interpolator of a kriging type and a variogram: the one way in which one is made
abbrev pub interpolator : KrigingType → Variogram → KrigingInterpolator
interpolator t v = record { kriging_type = t; variogram = v }

-- the query of an interpolator's call
abbrev pub query_lent : KrigingInterpolator → Asked.Query → Query
query_lent interpolator asked = record {
  kriging_type = interpolator.kriging_type;
  variogram = interpolator.variogram;
  dimension = asked.d;
  values = asked.values.now;
  points = asked.points.now;
  targets = asked.targets.now;
}

-- what the lent areas hold
abbrev pub areas_lent : Lent.Areas → Areas
areas_lent a = areas_of a.work.now a.figures.now a.variances.now

-- the areas are the caller's own still
pub record StillLent (a b : Lent.Areas) : Type 0 where
  pub work : b.work.ghost_name ≡ a.work.ghost_name
  pub figures : b.figures.ghost_name ≡ a.figures.ghost_name
  pub variances : b.variances.ghost_name ≡ a.variances.ghost_name

-- the size of the greatest system: "n > 96" is refused, and "Universal 1, x, y, xy (s = n + 4)"
abbrev pub most_size : ℕ
most_size = library.wells + added Universal
