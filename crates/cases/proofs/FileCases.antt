-- The cases of survey files, each computed by the definitions.
use mathlib.Core.Path.{refl}
use lib.Ieee.{eq, of_bits}
use Rattle.survey_file_theory.specs.Refusals.{reader_refusal, writer_refusal}
use Rattle.survey_file_theory.specs.Reader.{reader}
use Rattle.survey_file_theory.specs.Writer.{writer}
use Rattle.cases.specs.FileCases.{FileCases}

pub file_cases : FileCases
unfolding reader writer reader_refusal writer_refusal eq of_bits
file_cases = record {
  written = refl;
  read = refl;
  reader_18 = refl;
  reader_16 = refl;
  reader_longest = refl;
  reader_too_long = refl;
  writer_1 = refl;
  writer_2 = refl;
  writer_6 = refl;
  writer_8 = refl;
  writer_11 = refl;
  writer_16 = refl;
  writer_18 = refl;
  longest_written = refl;
  longest_18 = refl;
  too_long = refl;
  version_1_of_97 = refl;
  old_of_97 = refl;
  version_2_of_1 = refl;
  version_2_of_48 = refl;
  version_2_of_49 = refl;
  version_2_of_96 = refl;
  version_2_of_97 = refl;
  version_2_miscounted = refl;
  old_of_49 = refl;
  written_48 = refl;
  written_49 = refl;
  written_96 = refl;
  refused_97 = refl;
  refused_97_first = refl;
  refused_97_spot = refl;
}
