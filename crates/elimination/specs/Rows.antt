-- A matrix that is its own transpose, of which an area holds each row from the diagonal on: "beside and below: F and its transpose", and the variogram of two
-- wells either way.
use Rattle.std.specs.Prelude.{ℕ, ◌*◌, cond, List, ltb, length, Float}
use Rattle.elimination.specs.Elimination.{at}
use Rattle.elimination.specs.Inverse.{laid}

-- its entry in row i and column j: before the diagonal, what stands across
abbrev pub across : ℕ → List Float → ℕ → ℕ → Float
across s work i j = cond (ltb j i) (at (2 * s) work j i) (at (2 * s) work i j)

-- all of it, "beside the identity, s rows of 2s"; an area of fewer than 2·s·s numbers is left as it is
unfoldable pub completed : ℕ → List Float → List Float
unfolding laid
completed s work = cond (ltb (length work) (2 * s * s)) work (laid s (across s work) work)
