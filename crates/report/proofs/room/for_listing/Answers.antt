-- `report::room::for_listing` meets its contract: line by line, what is left of the room tells whether the listing is longer.
use Prim.Native.Nat.{◌≤◌}
use native.Mathlib.Omega.{arith}
use mathlib.Core.Path.{refl}
use lib.ListN.{length}
use Rattle.report.specs.Judged.{of_answer, Judges}
use Rattle.report.specs.Listing.{listing}
use Rattle.report.specs.declared.Unprinted.TheVariants.{TooShort}
use Rattle.report.proofs.Judged.{handed_on, answer_length}
use Rattle.report.proofs.room.for_listing.Goals as goal

pub returns-in_err-room : goal.returns-in_err-room
returns-in_err-room c =
    let a = c.args.lists.now.answer.now in
    let long = answer_length a in
    let even = c.args.lists.now.even in
    let digits = c.decimal_length.ensures.0 in
    let told = c.in_err-room.ensures in
    handed_on (Judges (length (of_answer listing a) ≤ c.args.size) TooShort) c.from_residual.ensures.1 (told.0, omega arith)

pub returns-in_err-rest : goal.returns-in_err-rest
returns-in_err-rest c =
    let a = c.args.lists.now.answer.now in
    let long = answer_length a in
    let even = c.args.lists.now.even in
    let digits = c.decimal_length.ensures.0 in
    let first = c.in_ok-room.ensures in
    let told = c.in_err-rest.ensures a.predicted.now a.variance.now in
    handed_on (Judges (length (of_answer listing a) ≤ c.args.size) TooShort) c.from_residual-in_err-rest.ensures.1 (told.0, omega arith)

pub returns-then-answer-rest : goal.returns-then-answer-rest
returns-then-answer-rest c =
    let a = c.args.lists.now.answer.now in
    let long = answer_length a in
    let even = c.args.lists.now.even in
    let digits = c.decimal_length.ensures.0 in
    let first = c.in_ok-room.ensures in
    let second = c.in_ok-rest.ensures a.predicted.now a.variance.now in
    (refl, omega arith)

pub returns : goal.returns
returns c =
    let a = c.args.lists.now.answer.now in
    let long = answer_length a in
    let even = c.args.lists.now.even in
    let digits = c.decimal_length.ensures.0 in
    let first = c.in_ok-room.ensures in
    let second = c.in_ok-rest.ensures a.predicted.now a.variance.now in
    omega arith
