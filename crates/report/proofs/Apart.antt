-- What is printed tells one ending from another: no two refusals have one line, and no listing is a refusal's line.
use Prim.Native.Nat.{ℕ, ◌+◌, ◌*◌}
use native.Mathlib.Omega.{arith}
use mathlib.Core.Path.{◌≡◌, refl, ap}
use mathlib.Core.Logic.{◌≢◌}
use mathlib.Core.List.{List, [], ◌∷◌, ◌++◌}
use lib.ListN.{get_or, drop}
use lib.Ieee.{Float}
use Rattle.report.specs.Numerals.{decimal_text}
use Rattle.report.specs.Reading.{meant, read_after}
use Rattle.report.specs.Listing.{listing, refused_text}
use Rattle.report.proofs.Reading.{decimal_reads}

-- the line past its word and the space: the number's digits, and a line feed read on
read_on : (n : ℕ) (xs ys : List ℕ) → read_after 10 n (xs ++ ys) ≡ read_after 10 (read_after 10 n xs) ys
read_on n [] ys = refl
read_on n (x ∷ xs) ys = read_on (n * 10 + meant x) xs ys

line_reads : (k : ℕ) → read_after 10 0 (drop 8 (refused_text k)) ≡ k * 10 + meant 10
unfolding refused_text
line_reads k = let e = read_on 0 (decimal_text k) (10 ∷ []) in let r = (decimal_reads k).reads in omega arith

pub refusals_apart : (j k : ℕ) → refused_text j ≡ refused_text k → j ≡ k
refusals_apart j k e = omega (arith, line_reads j, line_reads k, ap (λ (t : List ℕ). read_after 10 0 (drop 8 t)) e)

-- one begins with `n`, the other with `r`
pub listing_apart : (figures variances : List Float) (verdicts : List ℕ) (multipliers trend : List Float) (k : ℕ)
    → listing figures variances verdicts multipliers trend ≢ refused_text k
unfolding listing refused_text
listing_apart figures variances verdicts multipliers trend k e = let f : ◌≡◌ {A = ℕ} 110 114 = ap (λ (t : List ℕ). get_or t 0 0) e in omega arith
