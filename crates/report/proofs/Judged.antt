-- What `?` hands on, the error that a call answered; and the lengths of a lent answer's listing.
use Prim.Native.Nat.{ℕ, ◌+◌, ◌*◌, ◌≤◌, ◌<◌}
use mathlib.Core.Path.{◌≡◌, ap, sym, ◌∙◌, subst}
use Rattle.std.specs.Prelude.{Result, Err}
use Rattle.std.specs.Result.{IsErrAnd}
use Rattle.std.proofs.lemmas.Result.{err_from_is_err_and}
use lib.ListN.{length, get_or}
use Rattle.report.specs.Numerals.{decimal_text}
use Rattle.report.specs.Listing.{lines, node_at, listing, longest}
use mathlib.Core.List.{List}
use Rattle.report.specs.Judged.{of_answer}
use Rattle.report.specs.Printed.{outcome_of, printed, listed, Even}
use Rattle.report.specs.declared.Unprinted.TheVariants.{Uneven}
use Rattle.report.proofs.Answers.{uneven_listed, even_listed}
use Rattle.report.specs.declared.Answer.{Answer}
use Rattle.report.proofs.Lengths.{listing_length}
use Rattle.report.proofs.Longest.{longest_listing}

pub handed_on : {T E : Type 0} (P : Result T E → Type 0) {r : Result T E} {e : E} → IsErrAnd r (λ y. y ≡ e) → P (Err e) → P r
handed_on P {r} {e} h p = let y = err_from_is_err_and r h in subst P (sym (y.1 ∙ ap Err y.2)) p

-- ---- of an answer's lists
pub answer_length : (a : Answer) → length (of_answer listing a)
    ≡ length (decimal_text (length a.verdicts.now)) + 7
    + length (lines (length a.verdicts.now) (node_at a.predicted.now a.variance.now a.verdicts.now))
    + 22 * length a.multipliers.now
    + 23 * length a.trend.now
answer_length a = listing_length a.predicted.now a.variance.now a.verdicts.now a.multipliers.now a.trend.now

pub answer_longest : (a : Answer) → ((i : ℕ) → get_or a.verdicts.now i 0 < 256) → length a.verdicts.now ≤ 100 → length a.multipliers.now ≤ 12
    → length a.trend.now ≤ 12 → length (of_answer listing a) ≤ longest
answer_longest a = longest_listing a.predicted.now a.variance.now a.verdicts.now a.multipliers.now a.trend.now

pub answer_uneven : (a : Answer) (area : List ℕ) → ¬ of_answer Even a → outcome_of (Err Uneven) area ≡ of_answer listed a area
answer_uneven a area h = uneven_listed _ _ _ _ _ area h

pub answer_even : (a : Answer) (area : List ℕ) → of_answer Even a → printed (of_answer listing a) area ≡ of_answer listed a area
answer_even a area h = even_listed _ _ _ _ _ area h
