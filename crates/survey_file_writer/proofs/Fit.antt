-- Every number that the language hands over is an f64: those of a slice, as the check tells them, and so those of a survey.
use Prim.Native.Nat.{ℕ, suc}
use mathlib.Core.Path.{◌≡◌}
use mathlib.Core.Bool.{Bool, true, false, not}
use mathlib.Core.List.{List, [], ◌∷◌, ◌++◌}
use lib.Dec.{T}
use lib.ListN.{get_or}
use lib.Ieee.{Float, nan, binary64, fits, eq}
use lib.Ieee.Fits.{and_i, and_l, and_r}
use Rattle.ieee.specs.Bytes.{all_fit}
use Rattle.ieee.specs.Floats.{epsilon}
use Rattle.variogram.proofs.Spot.{is_epsilon}
use Rattle.survey.specs.Survey.{Survey}
use Rattle.survey_file_theory.specs.Contents.{numbers, node_externals}
use Rattle.survey_file_writer.proofs.Body.{five, from_values, from_coords, from_external, from_nodes}

pub each_fits : (xs : List Float) → ((i : ℕ) → T (fits binary64 (get_or xs i nan))) → T (all_fit xs)
each_fits [] h = tt
each_fits (x ∷ xs) h = and_i (fits binary64 x) (all_fit xs) (h 0) (each_fits xs (λ i. h (suc i)))

both_fit : (xs ys : List Float) → T (all_fit xs) → T (all_fit ys) → T (all_fit (xs ++ ys))
both_fit [] ys p q = q
both_fit (x ∷ xs) ys p q =
    and_i (fits binary64 x) (all_fit (xs ++ ys)) (and_l (fits binary64 x) (all_fit xs) p) (both_fit xs ys (and_r (fits binary64 x) (all_fit xs) p) q)

pub numbers_fit : (s : Survey) → T (all_fit (five s)) → T (all_fit s.values) → T (all_fit s.coords) → T (all_fit s.external)
    → T (all_fit s.nodes) → T (all_fit (node_externals s)) → T (all_fit (numbers s))
unfolding numbers
numbers_fit s p values coords external nodes taken =
    both_fit (five s) (from_values s) p
    (both_fit s.values (from_coords s) values
    (both_fit s.coords (from_external s) coords
    (both_fit s.external (from_nodes s) external (both_fit s.nodes (node_externals s) nodes taken))))

-- an f64 that is not found to differ from 2^-52 is that
pub only_epsilon : (x : Float) → fits binary64 x ≡ true → not (eq x epsilon) ≡ false → x ≡ epsilon
only_epsilon x fit h = is_epsilon x (rw fit tt) (go (eq x epsilon) h)
  where
    go : (b : Bool) → not b ≡ false → T b
    go true g = tt
    go false g = absurd cc
