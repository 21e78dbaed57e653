-- `patterns::number` meets its contract: the bytes from a place on, and of those so many.
use native.Mathlib.Omega.{arith}
use mathlib.Core.Path.{◌≡◌, refl, ap, ◌∙◌}
use mathlib.Core.List.{List, ◌++◌}
use Prim.Native.Nat.{ℕ, ◌≤◌, min}
use lib.ListN.{length, drop, take, replicate}
use denote.Ref.{Bor}
use Rattle.std.proofs.lemmas.List.{take_min, length-take-le}
use Rattle.std.specs.Int.{from_le_bytes}
use Rattle.std.proofs.Common.{w64}
use Rattle.patterns.specs.Words.{number_at}
use Rattle.patterns.proofs.Words.{number_below, word_of_few, from_place}
use Rattle.ieee.specs.Bytes.{number_in}
use Rattle.patterns.proofs.number.Goals as goal

pub returns : goal.returns
returns c =
    let bytes = c.args.bytes.now in
    let width = min c.args.width 8 in
    let rest = c.unwrap_or-rest.result.now in
    let count = c.min-count.result in
    let rest_is : rest ≡ drop c.args.at bytes =
    ap (λ (r : Bor (List ℕ)). r.now) c.unwrap_or-rest.ensures ∙ from_place c.get.result _ bytes c.args.at refl c.get.ensures.lookup.0 in
    let taken_is : take count rest ≡ take width (drop c.args.at bytes) =
    ap (λ (n : ℕ). take n rest) (c.min-count.ensures ∙ ap (λ (n : ℕ). min n (length rest)) c.min.ensures)
    ∙ take_min width rest
    ∙ ap (λ (xs : List ℕ). take width xs) rest_is in
    let read : c.from_le_bytes.result ≡ from_le_bytes w64 (take count rest ++ drop count (replicate 8 0)) =
    rw c.copy_from_slice.ensures.after at c.from_le_bytes.ensures in
    let few : count ≤ 8 = omega (arith, c.min-count.ensures, c.min.ensures) in
    let there : count ≤ length rest = omega (arith, c.min-count.ensures) in
    let answer : c.from_le_bytes.result ≡ number_at bytes c.args.at width =
    read ∙ word_of_few (take count rest) count few (length-take-le count rest there) ∙ ap number_in taken_is in
    (answer, rw answer (number_below bytes c.args.at width (λ i. (c.type_inv.bytes i).fits)))
