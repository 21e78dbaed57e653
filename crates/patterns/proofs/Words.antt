-- Laws of a word's bytes.
use Prim.Native.Nat.{ℕ, zero, suc, ◌+◌, ◌-◌, ◌*◌, ◌^◌, ◌<◌, ◌≤◌}
use native.Mathlib.Omega.{arith}
use mathlib.Core.Path.{◌≡◌, refl, ap, sym, ◌∙◌}
use mathlib.Core.List.{List, [], ◌∷◌, ◌++◌}
use mathlib.Core.Logic.{inl, inr, ◌⊎◌}
use denote.Ref.{Bor}
use Rattle.std.proofs.Common.{Option, Some, None}
use Rattle.std.specs.Option.{MatchOption, unwrap_or}
use Rattle.std.specs.List.{slice_range}
use Rattle.std.proofs.lemmas.Slice.{between_to_end}
use Rattle.std.specs.Int.{from_le_bytes}
use Rattle.std.proofs.Common.{w64}
use Rattle.ieee.specs.Bytes.{number_in}
use lib.Dec.{lit<}
use lib.ListN.{length, get_or, take, drop, replicate, length-append, length-replicate}
use Rattle.std.proofs.lemmas.List.{drop-replicate, drop_all}
use lib.Seq.{take-length}
use Rattle.std.proofs.Common.{pow-suc}
use Rattle.ieee.proofs.Bytes.{number_more}
use Rattle.patterns.specs.Words.{number_at}

-- one byte more, below those that a number has already
pub room_more : (k w b : ℕ) → w < 256 ^ k → b < 256 → w * 256 + b < 256 ^ suc k
room_more k w b h g = let p = 256 ^ k in rw (pow-suc 256 k) (omega arith)

pub number_below : (xs : List ℕ) (at k : ℕ) → ((i : ℕ) → get_or xs i 0 < 256) → number_at xs at k < 256 ^ k
unfolding number_in
number_below xs at zero h = lit< tt
number_below xs at (suc k) h =
    let e = number_more xs at k in
    let m = room_more k (number_at xs (suc at) k) (get_or xs at 0) (number_below xs (suc at) k h) (h at) in
    omega arith

-- a byte past the end counts as 0
pub zeros_after : (xs : List ℕ) (j : ℕ) → number_in (xs ++ replicate j 0) ≡ number_in xs
unfolding number_in
zeros_after [] zero = refl
zeros_after [] (suc j) = let e = zeros_after [] j in omega arith
zeros_after (x ∷ xs) j = ap (λ (n : ℕ). x + 256 * n) (zeros_after xs j)

-- the word of eight bytes is what the library reads
pub word_of_eight : (xs : List ℕ) → length xs ≡ 8 → from_le_bytes w64 xs ≡ number_in xs
unfolding number_in
word_of_eight xs h =
    let whole : take 8 xs ≡ xs = ap (λ (n : ℕ). take n xs) (sym h) ∙ take-length xs in
    let all : from_le_bytes w64 xs ≡ number_at xs 0 8 =
    omega (
      arith,
      number_more xs 0 7,
      number_more xs 1 6,
      number_more xs 2 5,
      number_more xs 3 4,
      number_more xs 4 3,
      number_more xs 5 2,
      number_more xs 6 1,
      number_more xs 7 0,
    ) in
    all ∙ ap number_in whole

-- fewer bytes in front of zeros
pub word_of_few : (xs : List ℕ) (k : ℕ) → k ≤ 8 → length xs ≡ k → from_le_bytes w64 (xs ++ drop k (replicate 8 0)) ≡ number_in xs
word_of_few xs k few h =
    let zeros : List ℕ = drop k (replicate 8 0) in
    let past : zeros ≡ replicate (8 - k) 0 = drop-replicate k 8 0 in
    let many : length zeros ≡ 8 - k = ap length past ∙ length-replicate {A = ℕ} (8 - k) 0 in
    let eight : length (xs ++ zeros) ≡ 8 = omega (arith, length-append xs zeros, many) in
    word_of_eight (xs ++ zeros) eight ∙ ap (λ (ys : List ℕ). number_in (xs ++ ys)) past ∙ zeros_after xs (8 - k)

-- what `get` finds from a place on, and no byte where that is past the end
pub from_place : (r : Option (Bor (List ℕ))) (none : Bor (List ℕ)) (bytes : List ℕ) (at : ℕ) → none.now ≡ []
    → MatchOption r ((length bytes < at) ⊎ (length bytes < length bytes)) (λ x. (at ≤ length bytes) × (length bytes ≤ length bytes)
    × (x.now ≡ slice_range bytes at (length bytes)) × (length x.now + at ≡ length bytes))
    → (unwrap_or r none).now ≡ drop at bytes
from_place None none bytes at e (inl h) = e ∙ sym (drop_all at bytes (omega arith))
from_place None none bytes at e (inr h) = absurd (omega arith)
from_place (Some x) none bytes at e h = h.2 ∙ between_to_end bytes at (length bytes) (omega arith)
