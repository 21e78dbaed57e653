-- Numbers that are not finite, alone and in a list: as a test, and as the papers say it.
use Rattle.std.specs.Prelude.{ℕ, ◌<◌, Bool, true, ◌&&◌, List, [], ◌∷◌, length, slice_index_or, Float}
use Rattle.std.specs.Float.{nan, inf}
use Rattle.std.specs.Float.Ieee.Scale.{finite}

-- every number of a list is finite
unfoldable pub all_finite : List Float → Bool
all_finite [] = true
all_finite (x ∷ xs) = finite x && all_finite xs

-- "not finite": a NaN or an infinity
pub data NotFinite : Float → Type 0 where
  not_a_number : NotFinite nan
  infinite : (s : Bool) → NotFinite (inf s)

-- some number of a list is not finite
pub record SomeNotFinite (xs : List Float) : Type 0 where
  pub place : ℕ
  pub inside : place < length xs
  pub is : NotFinite (slice_index_or xs place nan)
