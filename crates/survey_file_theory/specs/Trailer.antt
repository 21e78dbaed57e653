-- What the trailer of a survey file says, and the codes before it: paper 01, "The 14-byte trailer at the end points back". Of any bytes.
use Rattle.std.specs.Prelude.{ℕ, ◌-◌, ◌≡◌, List, length, get_or, take, drop}
use Rattle.area.specs.Area.{part}
use Rattle.ieee.specs.Bytes.{number_in}
use Rattle.survey.specs.Survey.{external_count}
use Rattle.survey_file_theory.specs.File.{trailer_length, file_length}

-- "The 14-byte trailer at the end"
abbrev pub trailer_in : List ℕ → List ℕ
trailer_in bytes = drop (length bytes - trailer_length) bytes

-- "S (4 bytes)"
abbrev pub start_in : List ℕ → ℕ
start_in bytes = number_in (part 0 4 (trailer_in bytes))

-- "n, m, code count (2 each)"
abbrev pub wells_in : List ℕ → ℕ
wells_in bytes = number_in (part 4 2 (trailer_in bytes))

abbrev pub nodes_in : List ℕ → ℕ
nodes_in bytes = number_in (part 6 2 (trailer_in bytes))

abbrev pub bases_in : List ℕ → ℕ
bases_in bytes = number_in (part 8 2 (trailer_in bytes))

-- "model 1 to 4 in the enum's order and version 1 (a byte each), two zero bytes"
abbrev pub model_in : List ℕ → ℕ
model_in bytes = get_or (trailer_in bytes) 10 0

abbrev pub version_in : List ℕ → ℕ
version_in bytes = get_or (trailer_in bytes) 11 0

abbrev pub zero_in : List ℕ → ℕ
zero_in bytes = get_or (trailer_in bytes) 12 0

abbrev pub last_zero_in : List ℕ → ℕ
last_zero_in bytes = get_or (trailer_in bytes) 13 0

-- "then the codes, one byte each": just before the trailer
abbrev pub codes_in : List ℕ → List ℕ
codes_in bytes = part (length bytes - trailer_length - bases_in bytes) (bases_in bytes) bytes

-- "k the count of code 4"
abbrev pub externals_in : List ℕ → ℕ
externals_in bytes = external_count (codes_in bytes)

-- the file's length by its own account
abbrev pub length_in : List ℕ → ℕ
length_in bytes = file_length (start_in bytes) (wells_in bytes) (nodes_in bytes) (externals_in bytes) (bases_in bytes)

-- bytes that are the same up to the trailer
pub record SameBody (bytes others : List ℕ) : Type 0 where
  pub len : length others ≡ length bytes
  pub before : take (length bytes - 14) others ≡ take (length bytes - 14) bytes
