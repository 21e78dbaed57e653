-- `survey_file_reader::read_lists` meets its contract: list after list, each from the byte after the one before.
use Prim.Native.Nat.{◌*◌}
use native.Mathlib.Omega.{arith}
use mathlib.Core.Path.{refl}
use Rattle.survey_file_theory.specs.File.{newest_version}
use Rattle.survey_file_theory.specs.Lent.{areas_lent}
use Rattle.survey_file_reader.proofs.Taken.{meets, values_from, later, list_is, codes_is, filled_is}
use Rattle.survey_file_reader.proofs.read_lists.Goals as goal

pub returns-clause-filled : goal.returns-clause-filled
returns-clause-filled c =
    let bytes = c.args.bytes.now in
    let lent = areas_lent c.args.areas.now in
    let k = c.counts-counts.result in
    let n = k.wells in
    let m = k.nodes in
    let j = k.externals in
    let met = meets newest_version bytes lent k c.counts-counts.ensures c.requires.0 c.requires.1 in
    let values = values_from bytes k in
    let coords = later n values c.read_numbers-from_coords.ensures.rest in
    let external = later (2 * n) coords c.read_numbers-from_external.ensures.rest in
    let nodes = later (j * n) external c.read_numbers-from_nodes.ensures.rest in
    let node_external = later (2 * m) nodes c.read_numbers-from_node_external.ensures.rest in
    let codes = later (j * m) node_external c.read_numbers-from_codes.ensures.rest in
    filled_is bytes lent k c.counts-counts.ensures
    (list_is lent.values n values (omega arith) c.read_numbers-from_coords.ensures.list)
    (list_is lent.coords (2 * n) coords (omega arith) c.read_numbers-from_external.ensures.list)
    (codes_is lent.bases codes refl met.len c.read_codes.ensures)
    (list_is lent.external (j * n) external (omega arith) c.read_numbers-from_nodes.ensures.list)
    (list_is lent.nodes (2 * m) nodes (omega arith) c.read_numbers-from_node_external.ensures.list)
    (list_is lent.node_external (j * m) node_external (omega arith) c.read_numbers-from_codes.ensures.list)
