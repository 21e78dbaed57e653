-- `survey_file_writer::layout::put_all_numbers` meets its contract: each list is put where the one before it ended.
use mathlib.Core.Path.{ap, sym, subst}
use mathlib.Core.List.{List}
use lib.Dec.{T}
use lib.Ieee.{Float}
use Rattle.ieee.specs.Bytes.{all_fit, f64_bytes}
use Rattle.area.specs.Cursor.{HasRoom}
use Rattle.area.proofs.Placed.{puts_as}
use Rattle.survey.specs.Lent.{survey_lent}
use Rattle.survey_file_theory.specs.Contents.{node_externals}
use Rattle.survey_file_writer.proofs.Body.{from_coords, from_external, from_nodes, room_five, room_lists, all_put}
use Rattle.survey_file_writer.proofs.Fit.{numbers_fit}
use Rattle.survey_file_writer.proofs.Placed.{list_first, list_then}
use Rattle.survey_file_writer.proofs.layout.put_all_numbers.Goals as goal

pub put_numbers-requires : goal.put_numbers-requires
put_numbers-requires c = room_five (survey_lent c.args.survey.now) c.args.place.now c.requires

-- put_numbers(survey.values, place);
pub put_numbers-requires-2 : goal.put_numbers-requires-2
put_numbers-requires-2 c =
    let s = survey_lent c.args.survey.now in
    list_first s.values (from_coords s) c.put_numbers.new.place (room_lists s c.requires c.put_numbers.ensures.put)

-- put_numbers(survey.coords, place);
pub put_numbers-requires-3 : goal.put_numbers-requires-3
put_numbers-requires-3 c =
    let s = survey_lent c.args.survey.now in
    let values = room_lists s c.requires c.put_numbers.ensures.put in
    list_first s.coords (from_external s) c.put_numbers-2.new.place (list_then s.values (from_coords s) values c.put_numbers-2.ensures.put)

-- put_numbers(survey.external, place);
pub put_numbers-requires-4 : goal.put_numbers-requires-4
put_numbers-requires-4 c =
    let s = survey_lent c.args.survey.now in
    let values = room_lists s c.requires c.put_numbers.ensures.put in
    let coords = list_then s.values (from_coords s) values c.put_numbers-2.ensures.put in
    list_first s.external (from_nodes s) c.put_numbers-3.new.place (list_then s.coords (from_external s) coords c.put_numbers-3.ensures.put)

-- put_numbers(survey.nodes, place);
pub put_numbers-requires-5 : goal.put_numbers-requires-5
put_numbers-requires-5 c =
    let s = survey_lent c.args.survey.now in
    let values = room_lists s c.requires c.put_numbers.ensures.put in
    let coords = list_then s.values (from_coords s) values c.put_numbers-2.ensures.put in
    let external = list_then s.coords (from_external s) coords c.put_numbers-3.ensures.put in
    list_first s.nodes (node_externals s) c.put_numbers-4.new.place (list_then s.external (from_nodes s) external c.put_numbers-4.ensures.put)

-- put_numbers(taken_externals(survey), place);
pub put_numbers-requires-6 : goal.put_numbers-requires-6
put_numbers-requires-6 c =
    let s = survey_lent c.args.survey.now in
    let values = room_lists s c.requires c.put_numbers.ensures.put in
    let coords = list_then s.values (from_coords s) values c.put_numbers-2.ensures.put in
    let external = list_then s.coords (from_external s) coords c.put_numbers-3.ensures.put in
    let nodes = list_then s.external (from_nodes s) external c.put_numbers-4.ensures.put in
    let place = c.put_numbers-5.new.place in
    subst (λ (xs : List Float). HasRoom (f64_bytes xs) place) (sym c.taken_externals.ensures)
    (list_then s.nodes (node_externals s) nodes c.put_numbers-5.ensures.put)

pub returns-clause-put : goal.returns-clause-put
returns-clause-put c =
    all_put (survey_lent c.args.survey.now) c.put_numbers.ensures.put c.put_numbers-2.ensures.put c.put_numbers-3.ensures.put c.put_numbers-4.ensures.put
    c.put_numbers-5.ensures.put (puts_as (ap f64_bytes c.taken_externals.ensures) c.put_numbers-6.ensures.put)

pub returns-clause-fit : goal.returns-clause-fit
returns-clause-fit c =
    numbers_fit (survey_lent c.args.survey.now) c.put_numbers.ensures.fit c.put_numbers-2.ensures.fit c.put_numbers-3.ensures.fit
    c.put_numbers-4.ensures.fit c.put_numbers-5.ensures.fit
    (subst (λ (xs : List Float). T (all_fit xs)) c.taken_externals.ensures c.put_numbers-6.ensures.fit)
