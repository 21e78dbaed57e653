-- `solution::summed_products` meets its contract: acc is the sum of as many products as pairs were yielded.
use Prim.Native.Nat.{ℕ, ◌+◌}
use Rattle.std.proofs.Common.{rules}
use native.Mathlib.Omega.{arith}
use mathlib.Core.List.{◌∷◌, [], ◌++◌}
use mathlib.Core.Path.{◌≡◌, ap, ap₂, ◌∙◌, sym}
use lib.ListN.{length, get_or, length-append}
use lib.Ieee.{nan, binary64, mul}
use Rattle.std.proofs.lemmas.Slice.Zip.{zip_turn, zip_end}
use Rattle.ieee.specs.Sums.{running_sum}
use Rattle.ieee.proofs.Sums.{no_terms, sum_turn, all_terms}
use Rattle.solution.proofs.summed_products.Goals as goal

pub loop-x-init : goal.loop-x-init
loop-x-init c = no_terms _

pub loop-x-preserved : goal.loop-x-preserved
loop-x-preserved c =
    let l = c.loop-x in
    let xs = c.args.xs.now in
    let ys = c.args.ys.now in
    let turn = zip_turn xs ys l.yielded c.into_iter-x-iterator.result l.x-iterator c.next.new.self c.next.result (search rules) (search rules) l.yielded_by (c.in-Some.x, c.in-Some.y) c.in-Some.is c.next.ensures.steps in
    let more : length (l.yielded ++ (c.in-Some.x, c.in-Some.y) ∷ []) ≡ length l.yielded + 1 = length-append _ _ in
    sum_turn (length l.yielded) _ l.acc _ (ap₂ (mul binary64) (turn.2 nan) (turn.3 nan)) l.invariant
    ∙ ap (λ (n : ℕ). running_sum n (λ k. mul binary64 (get_or xs k nan) (get_or ys k nan))) (sym more)

pub returns : goal.returns
returns c =
    let l = c.loop-x in
    let end = zip_end c.args.xs.now c.args.ys.now l.yielded c.into_iter-x-iterator.result l.x-iterator c.next.new.self c.next.result (search rules) (search rules) l.yielded_by c.in-None.is c.next.ensures.steps in
    let all : length l.yielded ≡ length c.args.xs.now = omega (arith, end, c.requires) in
    all_terms _ all l.invariant
