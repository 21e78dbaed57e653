-- The trend's estimate from a finished elimination: "Trend slopes on the report", for whatever lists are lent.
use Rattle.std.specs.Prelude.{ℕ, ◌-◌, ◌*◌, Bool, cond, ◌||◌, List, ltb, length, Float}
use Rattle.area.specs.Area.{written}
use Rattle.system_theory.specs.Slopes.{slope}

-- whether there is no trend: the work area is under 2·s·s numbers, or the trend has no room for s - n
abbrev pub no_trend : ℕ → List Float → List Float → List Float → Bool
no_trend size work values trend = ltb (length work) (2 * size * size) || ltb (length trend) (size - length values)

-- "A new area of p numbers gets the trend's estimate": in its first p = s - n places
unfoldable pub estimated : ℕ → List Float → List Float → List Float → List Float
unfolding slope
estimated size work values trend = cond (no_trend size work values trend) trend (written 0 (size - length values) (slope size work values) trend)
