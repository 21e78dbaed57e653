-- What turns the reader and the writer of a survey file away, as the paper says it and not as tests; and when nothing does.
use Rattle.std.specs.Prelude.{ℕ, zero, suc, ◌+◌, ◌*◌, ◌%◌, ◌<◌, ◌≤◌, ◌≡◌, ◌≢◌, ◌⊎◌, List, [], ◌∷◌, T, length}
use Rattle.std.specs.Float.Ieee.{eq}
use Rattle.ieee.specs.Floats.{epsilon}
use Rattle.error.specs.Rules.{Rule, rule}
use Rattle.error.specs.Short.{TooShort}
use Rattle.ieee.specs.Finite.{NotFinite, all_finite}
use Rattle.survey.specs.Survey.{Survey, wells, node_count, externals}
use Rattle.survey.specs.Rules.{WrongCoords, OddNodes, WrongExternal, WrongNodeExternal, NumberNotFinite}
use Rattle.survey_file_theory.specs.Contents.{numbers}
use Rattle.survey_file_theory.specs.File.{writer_file}
use Rattle.survey_file_theory.specs.Areas.{Areas, list_areas}
use Rattle.survey_file_theory.specs.Trailer.{start_in, wells_in, nodes_in, bases_in, externals_in, model_in, version_in, zero_in, last_zero_in}

-- ---- the reader
-- how long a file is by its own account: the bytes before S, the numbers, the codes and the trailer
abbrev pub stated_length : List ℕ → ℕ
stated_length bytes =
    start_in bytes
    + 8 * (5 + 3 * wells_in bytes + externals_in bytes * wells_in bytes + 2 * nodes_in bytes + externals_in bytes * nodes_in bytes)
    + bases_in bytes
    + 14

-- "The new reader takes both, version 1 at any n as before; a version 2 file must have n from 49 to 96, else 16"; an old reader takes version 1 alone
abbrev pub VersionTaken : ℕ → ℕ → ℕ → Type 0
VersionTaken zero version n = version ≡ 1
VersionTaken (suc zero) version n = version ≡ 1
VersionTaken (suc (suc newer)) version n = (version ≡ 1) ⊎ ((version ≡ 2) × ((49 ≤ n) × (n ≤ 96)))

-- 16: "under 14 or over 65,536 bytes, lengths that do not meet exactly, another model or version, trailer zeros not zero"
abbrev pub Malformed : ℕ → List ℕ → Type 0
Malformed newest bytes =
    (length bytes < 14)
    ⊎ (65536 < length bytes)
    ⊎ (length bytes ≢ stated_length bytes)
    ⊎ (model_in bytes < 1)
    ⊎ (4 < model_in bytes)
    ⊎ (¬ VersionTaken newest (version_in bytes) (wells_in bytes))
    ⊎ (zero_in bytes ≢ 0)
    ⊎ (last_zero_in bytes ≢ 0)

-- when none of this is so
pub record WellFormed (newest : ℕ) (bytes : List ℕ) : Type 0 where
  pub least : 14 ≤ length bytes
  pub most : length bytes ≤ 65536
  pub meet : length bytes ≡ stated_length bytes
  pub model_least : 1 ≤ model_in bytes
  pub model_most : model_in bytes ≤ 4
  pub version_taken_lem : VersionTaken newest (version_in bytes) (wells_in bytes)
  pub zero_byte : zero_in bytes ≡ 0
  pub last_zero_byte : last_zero_in bytes ≡ 0

-- when no list's area is too short: each has room for its list
pub record ListsFit (bytes : List ℕ) (areas : Areas) : Type 0 where
  pub values : wells_in bytes ≤ length areas.values
  pub coords : 2 * wells_in bytes ≤ length areas.coords
  pub bases : bases_in bytes ≤ length areas.bases
  pub external : externals_in bytes * wells_in bytes ≤ length areas.external
  pub nodes : 2 * nodes_in bytes ≤ length areas.nodes
  pub node_external : externals_in bytes * nodes_in bytes ≤ length areas.node_external

-- "for the file's reader, each list's length, after 16"
abbrev pub reader_rules : ℕ → List ℕ → Areas → List Rule
reader_rules newest bytes areas = rule 16 (Malformed newest bytes) ∷ rule 18 (TooShort (list_areas bytes areas)) ∷ []

-- ---- the writer
-- 11: as of a survey, "r and t included"
abbrev pub SomeNumberNotFinite : Survey → Type 0
SomeNumberNotFinite s = NumberNotFinite s s.node_external ⊎ NotFinite s.options.regularization ⊎ NotFinite s.tolerance

-- 22: "Survey files don't carry it and take 2^-52; a writer handed any other refuses by 22"
abbrev pub OtherSpot : Survey → Type 0
OtherSpot s = ¬ T (eq s.options.variogram.same_spot epsilon)

-- how many wells a file has at most: not "a count over 65,535", and of the new writer: "The writer refuses n > 96 by 16"
abbrev pub most_written : ℕ → ℕ
most_written zero = 65535
most_written (suc zero) = 65535
most_written (suc (suc newer)) = 96

-- 16: "over 65,536 bytes or a count over 65,535", and "The writer refuses n > 96 by 16"
abbrev pub TooLong : ℕ → Survey → Type 0
TooLong newest s =
    (65536 < length (writer_file newest s)) ⊎ (most_written newest < wells s) ⊎ (65535 < node_count s) ⊎ (65535 < length s.bases)

-- 18: "for the writer, the file's length"
abbrev pub ShortFile : ℕ → Survey → List ℕ → Type 0
ShortFile newest s area = length area < length (writer_file newest s)

-- "refuses by 1, 2, 6, 8, 11 (r and t included), 16 (over 65,536 bytes or a count over 65,535), 18, in that order", and by 22 "straight after 11"
abbrev pub writer_rules : ℕ → Survey → List ℕ → List Rule
writer_rules newest s area =
    rule 1 (WrongCoords s)
    ∷ rule 2 (OddNodes s)
    ∷ rule 6 (WrongExternal s)
    ∷ rule 8 (WrongNodeExternal s (node_count s) s.node_external)
    ∷ rule 11 (SomeNumberNotFinite s)
    ∷ rule 22 (OtherSpot s)
    ∷ rule 16 (TooLong newest s)
    ∷ rule 18 (ShortFile newest s area)
    ∷ []

-- when none of this is so
pub record Writable (newest : ℕ) (s : Survey) (area : List ℕ) : Type 0 where
  pub coords : length s.coords ≡ 2 * wells s
  pub nodes : length s.nodes % 2 ≡ 0
  pub external : length s.external ≡ externals s * wells s
  pub node_external : 0 < externals s → length s.node_external ≡ externals s * node_count s
  pub finite : T (all_finite (numbers s))
  pub spot : T (eq s.options.variogram.same_spot epsilon)
  pub size : length (writer_file newest s) ≤ 65536
  pub few_wells : wells s ≤ most_written newest
  pub few_nodes : node_count s ≤ 65535
  pub few_bases : length s.bases ≤ 65535
  pub room : length (writer_file newest s) ≤ length area
