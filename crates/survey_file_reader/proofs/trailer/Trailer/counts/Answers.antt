-- `survey_file_reader::trailer::Trailer::counts` meets its contract: each count stands at its place, and k is counted among the codes before the trailer.
use mathlib.Core.Path.{◌∙◌}
use native.Mathlib.Omega.{arith}
use Rattle.survey_file_reader.proofs.Places.{number_in_lem, first_number, externals_are, externals_few}
use Rattle.survey_file_reader.proofs.trailer.Trailer.counts.Goals as goal

pub invariant_of-result : goal.invariant_of-result
invariant_of-result c =
    let xs = c.args.self.now.bytes.now in
    let b = c.bases-bases.ensures in
    record {
      few_bytes = c.number.ensures.1;
      few_wells = c.wells.ensures.1;
      few_nodes = c.number-2.ensures.1;
      few_bases = b.1;
      few_externals = omega (arith, externals_are xs c.external_columns.ensures c.place-end.ensures b.0 c.requires, b.0, b.1, externals_few xs);
    }

-- Counts { start, wells, nodes, bases, externals }
pub returns : goal.returns
returns c =
    let xs = c.args.self.now.bytes.now in
    let b = c.bases-bases.ensures in
    record {
      start = c.number.ensures.0 ∙ first_number xs 4 c.place-end.ensures;
      wells = c.wells.ensures.0;
      nodes = c.number-2.ensures.0 ∙ number_in_lem xs 6 2 c.place-end.ensures;
      bases = b.0;
      externals = externals_are xs c.external_columns.ensures c.place-end.ensures b.0 c.requires;
    }
