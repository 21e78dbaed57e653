-- The definitions at work, each computed: the edges that paper 01 names, and the matrix of its sounding B.
use mathlib.Core.Path.{◌≡◌, refl}
use mathlib.Core.Bool.{true, false}
use mathlib.Core.List.{[], ◌∷◌}
use lib.IntN.{pos, negsuc}
use lib.Ieee.{Float, nan, fin, of_bits, lt, eq, sub, mul, div}
use Rattle.std.specs.Prelude.{Ok, Err}
use Rattle.elimination.specs.declared.Stop.TheVariants.{Pivot}
use Rattle.elimination.specs.Elimination.{hold, outcome_of, eliminated}

-- plus and minus zero, one and a half; 2^-52 and 2^-53
abbrev o : Float
o = fin false 0 (pos 0)

abbrev -o : Float
-o = fin true 0 (pos 0)

abbrev I : Float
I = fin false 1 (pos 0)

abbrev -I : Float
-I = fin true 1 (pos 0)

abbrev half : Float
half = fin false 1 (negsuc 0)

abbrev -half : Float
-half = fin true 1 (negsuc 0)

-- "refusing where the pivot equals 2^-52" is a mistake: the elimination goes on
at_the_edge : eliminated true 1 (fin false 1 (negsuc 51) ∷ I ∷ []) ≡ outcome_of (Ok tt) (I ∷ fin false 1 (pos 52) ∷ [])
unfolding eliminated lt eq sub mul div of_bits
at_the_edge = refl

below_the_edge : eliminated true 1 (fin false 1 (negsuc 52) ∷ I ∷ []) ≡ outcome_of (Err (Pivot 0)) (fin false 1 (negsuc 52) ∷ I ∷ [])
unfolding eliminated lt eq sub mul div of_bits
below_the_edge = refl

-- "a NaN in row i stays, and one below is never taken"; of equal magnitudes the upper row stays, and a greater one is taken whatever its sign
nan_stays : hold 2 0 (nan ∷ o ∷ I ∷ o ∷ I ∷ I ∷ o ∷ I ∷ []) ≡ 0
unfolding hold lt
nan_stays = refl

nan_below : hold 2 0 (half ∷ o ∷ I ∷ o ∷ nan ∷ I ∷ o ∷ I ∷ []) ≡ 0
unfolding hold lt
nan_below = refl

tie_stays : hold 2 0 (I ∷ o ∷ I ∷ o ∷ -I ∷ I ∷ o ∷ I ∷ []) ≡ 0
unfolding hold lt
tie_stays = refl

greater_taken : hold 2 0 (half ∷ o ∷ I ∷ o ∷ -I ∷ I ∷ o ∷ I ∷ []) ≡ 1
unfolding hold lt
greater_taken = refl

-- "one elimination for both calls" is a mistake: the zero below the first pivot keeps its sign where its row is skipped, and loses it where it is not
zero_skipped : eliminated true 2 (I ∷ o ∷ I ∷ o ∷ -o ∷ I ∷ o ∷ I ∷ []) ≡ outcome_of (Ok tt) (I ∷ o ∷ I ∷ o ∷ -o ∷ I ∷ o ∷ I ∷ [])
unfolding eliminated lt eq sub mul div of_bits
zero_skipped = refl

zero_cleared : eliminated false 2 (I ∷ o ∷ I ∷ o ∷ -o ∷ I ∷ o ∷ I ∷ []) ≡ outcome_of (Ok tt) (I ∷ o ∷ I ∷ o ∷ o ∷ I ∷ o ∷ I ∷ [])
unfolding eliminated lt eq sub mul div of_bits
zero_cleared = refl

-- sounding B's matrix beside the identity
three : eliminated true 3
    (o ∷ I ∷ I ∷ I ∷ o ∷ o
    ∷ I ∷ o ∷ I ∷ o ∷ I ∷ o
    ∷ I ∷ I ∷ o ∷ o ∷ o ∷ I ∷ [])
    ≡ outcome_of (Ok tt)
    (I ∷ o ∷ o ∷ -half ∷ half ∷ half
    ∷ o ∷ I ∷ o ∷ half ∷ -half ∷ half
    ∷ -o ∷ -o ∷ I ∷ half ∷ half ∷ -half ∷ [])
unfolding eliminated lt eq sub mul div of_bits
three = refl
