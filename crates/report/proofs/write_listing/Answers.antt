-- `report::write_listing` meets its contract: even lists, then room, and then the text.
use native.Mathlib.Omega.{arith}
use mathlib.Core.Path.{◌≡◌, refl, ap, ◌∙◌, subst}
use Rattle.std.proofs.Common.{rules, Ok}
use Rattle.report.specs.Listing.{listing}
use Rattle.report.specs.Printed.{outcome_of, printed, listed, Even}
use Rattle.report.specs.declared.Answer.{Answer}
use Rattle.report.specs.Judged.{of_answer}
use Rattle.report.proofs.Answers.{without_room, puts_whole}
use Rattle.report.proofs.Judged.{handed_on, answer_uneven, answer_even, answer_longest}
use Rattle.report.proofs.write_listing.Goals as goal

pub returns-in_err-lists-clause-equation : goal.returns-in_err-lists-clause-equation
returns-in_err-lists-clause-equation c =
    let area = c.args.text.now in
    let told = c.in_err-lists.ensures.made in
    handed_on (λ r. outcome_of r area ≡ of_answer listed c.args.answer.now area) c.from_residual.ensures.1
    (rw told.0 (answer_uneven c.args.answer.now area told.1))

pub returns-in_err-lists-clause-longest : goal.returns-in_err-lists-clause-longest
returns-in_err-lists-clause-longest c = answer_longest c.args.answer.now c.new.ensures.bytes

pub returns-in_err-for_listing-clause-equation : goal.returns-in_err-for_listing-clause-equation
returns-in_err-for_listing-clause-equation c =
    let a = c.args.answer.now in
    let area = c.args.text.now in
    let lists = c.in_ok-lists.lists in
    let same : lists.answer.now ≡ a = c.in_ok-lists.ensures.made in
    let told = c.in_err-for_listing.ensures in
    let long = rw same at told.1 in
    let short = without_room (of_answer listing a) area (omega arith) in
    handed_on (λ r. outcome_of r area ≡ of_answer listed a area) c.from_residual-in_err-for_listing.ensures.1
    (rw told.0 (short ∙ answer_even a area (subst (of_answer Even) same lists.even)))

pub returns-clause-equation : goal.returns-clause-equation
returns-clause-equation c =
    let a = c.args.answer.now in
    let area = c.args.text.now in
    let lists = c.in_ok-lists.lists in
    let same : lists.answer.now ≡ a = c.in_ok-lists.ensures.made in
    let text_of = λ (b : Answer). of_answer listing b in
    let whole = puts_whole (text_of lists.answer.now) area refl refl c.in_ok-for_listing.ensures c.put_listing.ensures in
    let put : outcome_of (Ok c.put_listing.new.out.at) c.put_listing.new.out.area.now ≡ of_answer listed a area =
    whole ∙ ap (λ (b : Answer). printed (text_of b) area) same ∙ answer_even a area (subst (of_answer Even) same lists.even) in
    search rules

pub returns-in_err-for_listing-clause-longest : goal.returns-in_err-for_listing-clause-longest
returns-in_err-for_listing-clause-longest c = answer_longest c.args.answer.now c.new.ensures.bytes

pub returns-clause-longest : goal.returns-clause-longest
returns-clause-longest c = answer_longest c.args.answer.now c.new.ensures.bytes
