-- `wellmap::main` is safe and ends: whatever was read, its text is no longer than the area for it, and all of it is written.
use Prim.Native.Nat.{ℕ, ◌≤◌}
use native.Mathlib.Omega.{arith}
use mathlib.Core.Path.{◌≡◌, ap, sym, ◌∙◌}
use mathlib.Core.List.{List}
use lib.ListN.{length, take, replicate, length-replicate}
use lib.Seq.{length-take-le}
use Rattle.std.specs.Prelude.{Result, Ok}
use Rattle.report.specs.Listing.{longest}
use Rattle.report.specs.Printed.{Outcome, outcome_of, printed}
use Rattle.report.specs.declared.Unprinted.{Unprinted}
use Rattle.report.proofs.Longest.{in_text_area}
use Rattle.survey_map.specs.Text.{file_text}
use Rattle.wellmap.proofs.main.Goals as goal

-- what is printed into the area that `text_area` gives ends inside it
inside : (text area exit : List ℕ) {r : Result ℕ Unprinted} {count : ℕ} → area ≡ replicate longest 0 → length exit ≡ length area → length text ≤ longest
    → outcome_of r exit ≡ printed text area → r ≡ Ok count → count ≤ length exit
inside text area exit {r} {count} zeros same no_longer told is =
    let answer : r ≡ Ok (length text) = ap (λ (o : Outcome). o.answer) (told ∙ ap (printed text) zeros ∙ in_text_area text no_longer) in
    let counted : count ≡ length text = cc in
    let room : length area ≡ longest = ap length zeros ∙ length-replicate {A = ℕ} longest 0 in
    omega arith

-- io::write_all(STDOUT_FILENO, &text[..count]);
pub slice_bounds-text-end : goal.slice_bounds-text-end
slice_bounds-text-end c =
    let print = c.print_survey in
    inside (file_text (take c.read_full-got.result c.read_full-got.new.buf)) _ _ c.text_area-text.ensures print.auto.text print.ensures.longest
    print.ensures.equation c.in-Ok.is

pub slice_bounds-write_all-end : goal.slice_bounds-write_all-end
slice_bounds-write_all-end c =
    let print = c.print_survey in
    sym (length-take-le _ _
    (inside (file_text (take c.read_full-got.result c.read_full-got.new.buf)) _ _ c.text_area-text.ensures print.auto.text print.ensures.longest
    print.ensures.equation c.in-Ok.is))
