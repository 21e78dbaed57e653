-- What a copy to the first places of an answer area, or to a row of the weights, leaves there.
use Rattle.std.proofs.Common.{ℕ, ◌+◌, ◌-◌, ◌*◌, ◌≤◌, ◌<◌, ◌≡◌, ap, ◌∙◌, List, length, length-drop, take, drop, get_or, replicate, arith}
use lib.ListN.{get_or-replicate, length-replicate}
use lib.Seq.{get_or-take, get_or-drop, length-take-le}
use lib.Ieee.{Float, nan}
use borrow.Rule.Slice.PartMut.{mid_of, put_mid}
use Rattle.area.specs.Area.{written}
use Rattle.area.proofs.Turns.{length-written}
use Rattle.area.proofs.Places.{same_values}
use Rattle.area.proofs.Start.{from_start}
use Rattle.ieee.specs.Floats.{zero_float}
use Rattle.elimination.proofs.Sections.{part_long, part_filled}
use Rattle.solution.specs.Slopes.{estimated}
use Rattle.solution.proofs.Room.{estimated_is}
use Rattle.system_theory.specs.Slopes.{slope}
use Rattle.survey.specs.Survey.{Survey, wells, columns, size}

module _ (s : Survey) (p : ℕ) (is : columns s ≡ p) (area part : List Float) (room : p ≤ length area) where
  -- zeros
  pub zeros_stored : part ≡ replicate (length (mid_of 0 (p - 0) area)) zero_float → put_mid 0 (p - 0) area part ≡ written 0 (columns s) (λ j. zero_float) area
  zeros_stored e =
      let long = part_long 0 (p - 0) area (omega arith) in
      let width = length (mid_of 0 (p - 0) area) in
      part_filled 0 (p - 0) (columns s) (λ j. zero_float) area part nan (omega arith) (omega arith) (ap length e ∙ length-replicate width zero_float ∙ long)
      (λ j b. rw e (get_or-replicate width j zero_float nan (omega arith)))

  -- the trend, from an area of its own
  pub trend_stored : (work own found : List Float) → 2 * size s * size s ≤ length work → p ≤ length own → found ≡ estimated (size s) work s.values own
      → part ≡ take p found → put_mid 0 (p - 0) area part ≡ written 0 (columns s) (slope (size s) work s.values) area
  trend_stored work own found whole long e f =
      let left : size s - wells s ≡ columns s = omega arith in
      let rows : found ≡ written 0 (columns s) (slope (size s) work s.values) own =
      e ∙ estimated_is (size s) work s.values own whole (omega arith) ∙ ap (λ (k : ℕ). written 0 k (slope (size s) work s.values) own) left in
      let same : length found ≡ length own = ap length rows ∙ length-written 0 (columns s) (slope (size s) work s.values) own in
      let all : p ≡ p - 0 = omega arith in
      part_filled 0 (p - 0) (columns s) (slope (size s) work s.values) area part nan (omega arith) (omega arith)
      (ap length f ∙ length-take-le p found (omega arith) ∙ all)
      (λ j b. ap (λ (xs : List Float). get_or xs j nan) f ∙ get_or-take p found j nan (omega arith) ∙ ap (λ (xs : List Float). get_or xs j nan) rows
      ∙ from_start (columns s) (slope (size s) work s.values) own j nan (omega arith) b)

  -- the multipliers, from z past the weights
  pub multipliers_stored : (z of : List Float) → wells s + p ≤ length z → ((j : ℕ) → j < size s → get_or z j nan ≡ get_or of j nan)
      → (n : ℕ) → n ≡ wells s → part ≡ take (n + p - n) (drop n z)
      → put_mid 0 (p - 0) area part ≡ written 0 (columns s) (λ j. get_or of (wells s + j) nan) area
  multipliers_stored z of long same n m e =
      let rest = length-drop n z in
      let all : n + p - n ≡ p - 0 = omega arith in
      part_filled 0 (p - 0) (columns s) (λ j. get_or of (wells s + j) nan) area part nan (omega arith) (omega arith)
      (ap length e ∙ length-take-le (n + p - n) (drop n z) (omega arith) ∙ all)
      (λ j b. ap (λ (xs : List Float). get_or xs j nan) e ∙ get_or-take (n + p - n) (drop n z) j nan (omega arith) ∙ get_or-drop n z j nan
      ∙ ap (λ (k : ℕ). get_or z (k + j) nan) m ∙ same (wells s + j) (omega arith))

-- row q of the weights, from the first places of z
pub weights_stored : (s : Survey) (area z of : List Float) → wells s ≤ length z → ((j : ℕ) → j < wells s → get_or z j nan ≡ get_or of j nan)
    → (q n : ℕ) → n ≡ wells s
    → written (q * n) (length (take n z)) (λ j. get_or (take n z) j nan) area ≡ written (q * wells s) (wells s) (λ j. get_or of j nan) area
weights_stored s area z of long same q n m =
    let l : length (take n z) ≡ n = length-take-le n z (omega arith) in
    ap (λ (k : ℕ). written (q * n) k (λ j. get_or (take n z) j nan) area) l
    ∙ same_values (q * n) n (λ j. get_or (take n z) j nan) (λ j. get_or of j nan) area
    (λ j b. get_or-take n z j nan b ∙ same j (omega arith))
    ∙ ap (λ (k : ℕ). written (q * k) k (λ j. get_or of j nan) area) m
