-- Numbers in bytes one by one and in parts: each is the word at its place, and so many of them from one on are those from its place on.
use Prim.Native.Nat.{ℕ, zero, suc, ◌+◌, ◌-◌, ◌*◌, ◌≤◌, ◌<◌}
use native.Mathlib.Nat.{not-suc-le-zero}
use native.Mathlib.Omega.{arith}
use mathlib.Core.Path.{◌≡◌, refl, ap, ◌∙◌}
use mathlib.Core.List.{List, ◌∷◌}
use lib.ListN.{get_or, take, drop}
use lib.Seq.{drop-drop}
use lib.Ieee.{Float, nan, binary64, of_bits}
use Rattle.area.specs.Area.{part}
use Rattle.ieee.specs.Bytes.{number_in, f64s_in}
use Rattle.patterns.specs.Words.{word_at}

-- past one number more
past_one : (bytes : List ℕ) (j : ℕ) → drop (8 * j) (drop 8 bytes) ≡ drop (8 * suc j) bytes
past_one bytes j = let e : 8 + 8 * j ≡ 8 * suc j = omega arith in drop-drop (8 * j) 8 bytes ∙ ap (λ (k : ℕ). drop k bytes) e

pub number_first : (count : ℕ) (bytes : List ℕ) (j : ℕ) → j < count → get_or (f64s_in count bytes) j nan ≡ of_bits binary64 (number_in (take 8 (drop (8 * j) bytes)))
unfolding f64s_in
number_first zero bytes j h = absurd (not-suc-le-zero h)
number_first (suc count) bytes zero h = refl
number_first (suc count) bytes (suc j) h =
    number_first count (drop 8 bytes) j (omega arith) ∙ ap (λ (l : List ℕ). of_bits binary64 (number_in (take 8 l))) (past_one bytes j)

-- the j-th number from a place on
pub number_at : (count : ℕ) (bytes : List ℕ) (at j : ℕ) → j < count → get_or (f64s_in count (drop at bytes)) j nan ≡ of_bits binary64 (word_at bytes (at + 8 * j))
number_at count bytes at j h =
    number_first count (drop at bytes) j h ∙ ap (λ (l : List ℕ). of_bits binary64 (number_in (take 8 l))) (drop-drop (8 * j) at bytes)

-- so many of them, and from one of them on
first_numbers : (count total : ℕ) (bytes : List ℕ) → count ≤ total → take count (f64s_in total bytes) ≡ f64s_in count bytes
unfolding f64s_in
first_numbers zero total bytes h = refl
first_numbers (suc count) zero bytes h = absurd (not-suc-le-zero h)
first_numbers (suc count) (suc total) bytes h =
    ap (λ (l : List Float). of_bits binary64 (number_in (take 8 bytes)) ∷ l) (first_numbers count total (drop 8 bytes) (omega arith))

later_numbers : (from total rest : ℕ) (bytes : List ℕ) → total ≡ from + rest → drop from (f64s_in total bytes) ≡ f64s_in rest (drop (8 * from) bytes)
unfolding f64s_in
later_numbers zero total rest bytes e = let same : total ≡ rest = omega arith in ap (λ (k : ℕ). f64s_in k bytes) same
later_numbers (suc from) zero rest bytes e = absurd (omega arith)
later_numbers (suc from) (suc total) rest bytes e =
    later_numbers from total rest (drop 8 bytes) (omega arith) ∙ ap (λ (l : List ℕ). f64s_in rest l) (past_one bytes from)

-- so many of them from one on are those from its place on
pub part_numbers : (bytes : List ℕ) (at from count total : ℕ) → from + count ≤ total
    → part from count (f64s_in total (drop at bytes)) ≡ f64s_in count (drop (at + 8 * from) bytes)
part_numbers bytes at from count total h =
    let rest : ℕ = total - from in
    ap (λ (l : List Float). take count l) (later_numbers from total rest (drop at bytes) (omega arith))
    ∙ first_numbers count rest (drop (8 * from) (drop at bytes)) (omega arith)
    ∙ ap (λ (l : List ℕ). f64s_in count l) (drop-drop (8 * from) at bytes)
