-- The right-hand side as two fills leave it, the variogram and then f0: the list of b.
use Rattle.std.proofs.Common.{ℕ, ◌+◌, ◌-◌, ◌≤◌, ◌≡◌, ap, ap₂, sym, ◌∙◌, List, ◌++◌, append_assoc, length, length-append, get_or, take, drop, arith}
use lib.Seq.{take-append_seam}
use lib.Ieee.{Float, nan}
use borrow.Rule.Slice.PartMut.{mid_of, post_of, put_mid}
use Rattle.area.specs.Area.{written, table}
use Rattle.area.proofs.Start.{copied_is}
use Rattle.area.proofs.Tables.{table_length, take_start}
use Rattle.elimination.proofs.Sections.{part_long}
use Rattle.kriging_theory.specs.Node.{right_hand_of}

-- f0 goes to the places from the n-th on
pub filled_right : (n p : ℕ) (gamma : ℕ → Float) (f0 b ys row : List Float) → length f0 ≡ p → n + p ≤ length b → length ys ≡ length b
    → ys ≡ written 0 n gamma b → row ≡ written 0 p (λ j. get_or f0 j nan) (mid_of n (length ys - n) ys)
    → take (n + p) (put_mid n (length ys - n) ys row) ≡ right_hand_of n gamma f0
unfolding right_hand_of
filled_right n p gamma f0 b ys row width long same e f =
    let sub : List Float = mid_of n (length ys - n) ys in
    let past : List Float = drop (length f0) sub ++ post_of n (length ys - n) ys in
    let room = part_long n (length ys - n) ys (omega arith) in
    let first : take n ys ≡ table n gamma = ap (λ (xs : List Float). take n xs) e ∙ take_start n gamma b nan (omega arith) in
    let rest : row ≡ f0 ++ drop (length f0) sub =
    f ∙ ap (λ (k : ℕ). written 0 k (λ j. get_or f0 j nan) sub) (sym width) ∙ copied_is nan f0 sub (omega arith) in
    let all : length (table n gamma ++ f0) ≡ n + p = length-append (table n gamma) f0 ∙ ap₂ (λ (i j : ℕ). i + j) (table_length n gamma) width in
    ap₂ (λ (xs zs : List Float). take (n + p) (xs ++ (zs ++ post_of n (length ys - n) ys))) first rest
    ∙ ap (λ (xs : List Float). take (n + p) xs)
    (ap (λ (xs : List Float). table n gamma ++ xs) (append_assoc f0 _ _) ∙ sym (append_assoc (table n gamma) f0 past))
    ∙ ap (λ (k : ℕ). take k ((table n gamma ++ f0) ++ past)) (sym all)
    ∙ take-append_seam (table n gamma ++ f0) past
