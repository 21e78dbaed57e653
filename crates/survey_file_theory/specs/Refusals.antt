-- What turns the reader and the writer of a survey file away, as tests that compute.
use Rattle.std.specs.Prelude.{ℕ, Bool, not, ◌||◌, List, [], ◌∷◌, eqb, ltb, length}
use Rattle.std.specs.Float.Ieee.{eq}
use Rattle.std.specs.Float.Ieee.Scale.{finite}
use Rattle.ieee.specs.Floats.{epsilon}
use Rattle.error.specs.Tests.{Test, test, first_of}
use Rattle.error.specs.Short.{too_short}
use Rattle.survey.specs.Survey.{Survey, wells, node_count}
use Rattle.survey.specs.Refusals.{wrong_coords, odd_nodes, wrong_external, wrong_node_external, number_not_finite}
use Rattle.survey_file_theory.specs.File.{longest_file, greatest_count, trailer_length, most_wells, version_taken, writer_file}
use Rattle.survey_file_theory.specs.Areas.{Areas, list_areas}
use Rattle.survey_file_theory.specs.Trailer.{length_in, wells_in, model_in, version_in, zero_in, last_zero_in}

-- 16: "under 14 or over 65,536 bytes, lengths that do not meet exactly, another model or version, trailer zeros not zero"; "a version 2 file must have n from
-- 49 to 96, else 16"
abbrev pub malformed : ℕ → List ℕ → Bool
malformed newest bytes =
    ltb (length bytes) trailer_length
    || (ltb longest_file (length bytes)
    || (not (eqb (length bytes) (length_in bytes))
    || (ltb (model_in bytes) 1
    || (ltb 4 (model_in bytes)
    || (not (version_taken newest (version_in bytes) (wells_in bytes)) || (not (eqb (zero_in bytes) 0) || not (eqb (last_zero_in bytes) 0)))))))

-- "after 16"
abbrev pub reader_tests : ℕ → List ℕ → Areas → List Test
reader_tests newest bytes areas = test 16 (malformed newest bytes) ∷ test 18 (too_short (list_areas bytes areas)) ∷ []

-- 11: as of a survey, "r and t included"
unfoldable pub some_number_not_finite : Survey → Bool
unfolding number_not_finite
some_number_not_finite s = number_not_finite s s.node_external || (not (finite s.options.regularization) || not (finite s.tolerance))

-- 22: "Survey files don't carry it and take 2^-52; a writer handed any other refuses by 22"
abbrev pub other_spot : Survey → Bool
other_spot s = not (eq s.options.variogram.same_spot epsilon)

-- 16: "over 65,536 bytes or a count over 65,535", and "The writer refuses n > 96 by 16"
abbrev pub too_long : ℕ → Survey → Bool
too_long newest s =
    ltb longest_file (length (writer_file newest s))
    || (ltb (most_wells newest) (wells s) || (ltb greatest_count (node_count s) || ltb greatest_count (length s.bases)))

-- 18: "for the writer, the file's length"
abbrev pub short_file : ℕ → Survey → List ℕ → Bool
short_file newest s area = ltb (length area) (length (writer_file newest s))

-- "1, 2, 6, 8, 11 (r and t included), 16 (over 65,536 bytes or a count over 65,535), 18, in that order", and 22 "straight after 11"
abbrev pub writer_tests : ℕ → Survey → List ℕ → List Test
writer_tests newest s area =
    test 1 (wrong_coords s)
    ∷ test 2 (odd_nodes s)
    ∷ test 6 (wrong_external s)
    ∷ test 8 (wrong_node_external s (node_count s) s.node_external)
    ∷ test 11 (some_number_not_finite s)
    ∷ test 22 (other_spot s)
    ∷ test 16 (too_long newest s)
    ∷ test 18 (short_file newest s area)
    ∷ []

-- the number that refuses a call of the reader, and one of the writer; 0 where it is accepted
unfoldable pub reader_refusal : ℕ → List ℕ → Areas → ℕ
unfolding first_of
reader_refusal newest bytes areas = first_of (reader_tests newest bytes areas)

unfoldable pub writer_refusal : ℕ → Survey → List ℕ → ℕ
unfolding first_of some_number_not_finite writer_file
writer_refusal newest s area = first_of (writer_tests newest s area)
