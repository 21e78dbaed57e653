-- `report::write_refusal` meets its contract: the line is put only where it has room.
use native.Mathlib.Omega.{arith}
use mathlib.Core.Path.{◌≡◌, refl}
use Rattle.std.proofs.Common.{rules, Ok}
use Rattle.error.specs.Numbers.{number_of}
use Rattle.report.specs.Listing.{refused_text}
use Rattle.report.specs.Printed.{outcome_of, printed}
use Rattle.report.proofs.Answers.{without_room, puts_whole}
use Rattle.report.proofs.Judged.{handed_on}
use Rattle.report.proofs.Longest.{longest_refusal}
use Rattle.report.proofs.write_refusal.Goals as goal

pub returns-in_err-for_refusal-clause-equation : goal.returns-in_err-for_refusal-clause-equation
returns-in_err-for_refusal-clause-equation c =
    let told = c.in_err-for_refusal.ensures in
    let number = c.from-number.ensures in
    handed_on (λ r. outcome_of r c.args.text.now ≡ printed (refused_text (number_of c.args.refusal)) c.args.text.now) c.from_residual.ensures.1
    (rw (told.0, ← number) (without_room (refused_text c.from-number.result) c.args.text.now (let h = told.1 in omega arith)))

pub returns-in_err-for_refusal-clause-longest : goal.returns-in_err-for_refusal-clause-longest
returns-in_err-for_refusal-clause-longest c = rw (← c.from-number.ensures) (longest_refusal c.from-number.result c.from-number.type_inv)

pub returns-clause-equation : goal.returns-clause-equation
returns-clause-equation c =
    let text = refused_text c.from-number.result in
    let put : outcome_of (Ok c.put_refusal.new.out.at) c.put_refusal.new.out.area.now ≡ printed text c.args.text.now =
    puts_whole text c.args.text.now refl refl c.in_ok-for_refusal.ensures c.put_refusal.ensures in
    let number = c.from-number.ensures in
    rw (← number) (search rules)

pub returns-clause-longest : goal.returns-clause-longest
returns-clause-longest c = rw (← c.from-number.ensures) (longest_refusal c.from-number.result c.from-number.type_inv)
