-- The parts of the writer's work, in the order of its code.
use Rattle.std.specs.Prelude.{ℕ, ◌+◌, ◌*◌, List, [], ◌∷◌}
use Rattle.error.specs.Tests.{Test, test}
use Rattle.survey.specs.Survey.{Survey, node_count}
use Rattle.survey.specs.Refusals.{wrong_coords, odd_nodes, wrong_external, wrong_node_external}
use Rattle.survey_file_theory.specs.File.{trailer_length}

-- "refuses by 1, 2, 6, 8": the lengths of the lists
abbrev pub length_tests : Survey → List Test
length_tests s =
    test 1 (wrong_coords s)
    ∷ test 2 (odd_nodes s)
    ∷ test 6 (wrong_external s)
    ∷ test 8 (wrong_node_external s (node_count s) s.node_external)
    ∷ []

-- how many bytes a file without a note has for so many numbers and codes: "little-endian f64, then the codes, one byte each. The 14-byte trailer"
abbrev pub bytes_for : ℕ → ℕ → ℕ
bytes_for count codes = 8 * count + codes + trailer_length
