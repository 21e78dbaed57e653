-- `patterns::word` meets its contract: where eight bytes are there, they are the word.
use mathlib.Core.Path.{◌≡◌, refl, ap, ◌∙◌}
use mathlib.Core.List.{List}
use Prim.Native.Nat.{ℕ}
use lib.ListN.{length, drop, take}
use denote.Ref.{Bor}
use Rattle.std.proofs.lemmas.List.{length-take-le}
use Rattle.ieee.specs.Bytes.{number_in}
use Rattle.patterns.proofs.Words.{word_of_eight, from_place}
use Rattle.patterns.proofs.word.Goals as goal

pub returns-in-Some : goal.returns-in-Some
returns-in-Some c =
    let bytes = c.args.bytes.now in
    let rest = c.unwrap_or.result.now in
    let rest_is : rest ≡ drop c.args.at bytes =
    ap (λ (r : Bor (List ℕ)). r.now) c.unwrap_or.ensures ∙ from_place c.get.result _ bytes c.args.at refl c.get.ensures.lookup.0 in
    let eight = c.in-Some.eight.now in
    let many : length eight ≡ 8 = ap length c.in-Some.ensures.cases.same ∙ length-take-le 8 rest c.in-Some.ensures.cases.enough in
    let taken : eight ≡ take 8 (drop c.args.at bytes) = c.in-Some.ensures.cases.same ∙ ap (λ (xs : List ℕ). take 8 xs) rest_is in
    c.from_le_bytes.ensures ∙ word_of_eight eight many ∙ ap number_in taken
