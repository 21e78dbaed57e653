-- `survey_file_reader::lists::read_numbers` meets its contract: after i turns the area has the first i numbers.
use native.Mathlib.Omega.{arith}
use mathlib.Core.Path.{◌≡◌, sym, ◌∙◌}
use lib.ListN.{length, length-set}
use Rattle.area.proofs.Start.{next_start}
use Rattle.area.proofs.Places.{all_turns}
use Rattle.ieee.specs.Bytes.{f64s_in}
use Rattle.ieee.proofs.Bytes.{length-f64s_in}
use Rattle.survey_file_reader.proofs.Numbers.{number_first}
use Rattle.survey_file_reader.proofs.lists.read_numbers.Invariants.{number}
use Rattle.survey_file_reader.proofs.lists.read_numbers.Goals as goal

pub loop-i-preserved : goal.loop-i-preserved
loop-i-preserved c =
    let f = c.number_at in
    let l = c.loop-i in
    let a = c.args in
    let stored : f.result ≡ number a.bytes.now a.count l.i = f.ensures ∙ sym (number_first a.count a.bytes.now l.i c.loop-i-test.true) in (
      omega arith,
      length-set l.list l.i f.result ∙ l.invariant.1,
      next_start l.i (number a.bytes.now a.count) a.list.now l.list f.result stored l.invariant.2,
    )

pub returns-clause-list : goal.returns-clause-list
returns-clause-list c =
    let l = c.loop-i in
    let a = c.args in
    let all : l.i ≡ length (f64s_in a.count a.bytes.now) = omega (arith, length-f64s_in a.count a.bytes.now) in
    all_turns 0 (number a.bytes.now a.count) a.list.now all l.invariant.2
