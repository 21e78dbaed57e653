-- What the parts of the reader find: the counts of a file, and its last bytes.
use Rattle.std.specs.Prelude.{ℕ, ◌*◌, ◌≡◌, Bool, not, ◌||◌, List, [], ◌∷◌, eqb, ltb}
use Rattle.error.specs.Short.{lent, too_short}
use Rattle.survey_file_theory.specs.File.{version_taken}
use Rattle.survey_file_theory.specs.Areas.{Areas}
use Rattle.survey_file_theory.specs.Trailer.{start_in, wells_in, nodes_in, bases_in, externals_in, model_in, version_in, zero_in, last_zero_in}
use Rattle.survey_file_reader.specs.declared.counts.Counts.{Counts}

-- counts are those of a file: "The 14-byte trailer at the end points back: S (4 bytes), n, m, code count (2 each)", and "k the count of code 4"
pub record CountsIn (bytes : List ℕ) (counts : Counts) : Type 0 where
  pub start : counts.start ≡ start_in bytes
  pub wells : counts.wells ≡ wells_in bytes
  pub nodes : counts.nodes ≡ nodes_in bytes
  pub bases : counts.bases ≡ bases_in bytes
  pub externals : counts.externals ≡ externals_in bytes

-- 16: "another model or version, trailer zeros not zero"; "a version 2 file must have n from 49 to 96, else 16"
abbrev pub wrong_ending : ℕ → List ℕ → Bool
wrong_ending newest bytes =
    ltb (model_in bytes) 1
    || (ltb 4 (model_in bytes)
    || (not (version_taken newest (version_in bytes) (wells_in bytes)) || (not (eqb (zero_in bytes) 0) || not (eqb (last_zero_in bytes) 0))))

-- 18: "each list's length", of a file with these counts
abbrev pub short_of : Counts → Areas → Bool
short_of counts areas =
    too_short
    (lent areas.values counts.wells
    ∷ lent areas.coords (2 * counts.wells)
    ∷ lent areas.bases counts.bases
    ∷ lent areas.external (counts.externals * counts.wells)
    ∷ lent areas.nodes (2 * counts.nodes)
    ∷ lent areas.node_external (counts.externals * counts.nodes)
    ∷ [])
