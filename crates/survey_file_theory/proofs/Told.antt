-- Each test of the reader and of the writer tells its rule's condition.
use Prim.Native.Nat.{ℕ, zero, suc, ◌<◌, ◌≤◌}
use native.Mathlib.Omega.{arith}
use mathlib.Core.Path.{◌≡◌, refl, ◌∙◌, sym}
use mathlib.Core.Bool.{not, ◌&&◌}
use mathlib.Core.List.{List, [], ◌∷◌}
use lib.Dec.{ltb}
use lib.ListN.{length}
use lib.Ieee.{eq}
use Rattle.ieee.specs.Floats.{epsilon}
use Rattle.error.specs.Tests.{Tells}
use Rattle.error.proofs.Tells.{told_as, opposite, passes, both, either, equal, different, below, not_below, not_finite_is}
use Rattle.error.specs.Rules.{Told, no_more, tells, numbers_of}
use Rattle.error.proofs.Short.{short_told}
use Rattle.survey.specs.Limits.{library}
use Rattle.survey.specs.Survey.{Survey, wells, node_count}
use Rattle.survey.proofs.Told.{coords_told, nodes_told, external_told, node_external_told, numbers_told}
use Rattle.survey_file_theory.specs.File.{longest_file, greatest_count, trailer_length, most_in_version1, most_wells, version_taken, writer_file}
use Rattle.survey_file_theory.specs.Areas.{Areas, list_areas}
use Rattle.survey_file_theory.specs.Trailer.{length_in, wells_in, model_in, version_in, zero_in, last_zero_in}
use Rattle.survey_file_theory.specs.Rules.{stated_length, VersionTaken, Malformed, most_written, SomeNumberNotFinite, OtherSpot}
use Rattle.survey_file_theory.specs.Rules.{reader_rules, writer_rules}
use Rattle.survey_file_theory.specs.Refusals.{malformed, some_number_not_finite, other_spot, reader_tests, writer_tests}

-- ---- the reader
same_length : (bytes : List ℕ) → length_in bytes ≡ stated_length bytes
same_length bytes = omega arith

from_49_to_96 : (n : ℕ) → Tells (ltb most_in_version1 n && not (ltb library.wells n)) ((49 ≤ n) × (n ≤ 96))
from_49_to_96 n = both (told_as (below most_in_version1 n) (λ h. omega arith) (λ h. omega arith)) (not_below library.wells n)

pub version_told : (newest version n : ℕ) → Tells (version_taken newest version n) (VersionTaken newest version n)
version_told zero version n = equal version 1
version_told (suc zero) version n = equal version 1
version_told (suc (suc newer)) version n = either (equal version 1) (both (equal version 2) (from_49_to_96 n))

pub malformed_told : (newest : ℕ) (bytes : List ℕ) → Tells (malformed newest bytes) (Malformed newest bytes)
malformed_told newest bytes =
    either (below (length bytes) trailer_length)
    (either (below longest_file (length bytes))
    (either
    (told_as (different (length bytes) (length_in bytes)) (λ n e. n (e ∙ sym (same_length bytes))) (λ n e. n (e ∙ same_length bytes)))
    (either (below (model_in bytes) 1)
    (either (below 4 (model_in bytes))
    (either (opposite (version_told newest (version_in bytes) (wells_in bytes))) (either (different (zero_in bytes) 0) (different (last_zero_in bytes) 0)))))))

pub reader_told : (newest : ℕ) (bytes : List ℕ) (areas : Areas) → Told (reader_tests newest bytes areas) (reader_rules newest bytes areas)
reader_told newest bytes areas = tells 16 (malformed_told newest bytes) (tells 18 (short_told (list_areas bytes areas)) no_more)

-- ---- the writer
all_numbers_told : (s : Survey) → Tells (some_number_not_finite s) (SomeNumberNotFinite s)
unfolding some_number_not_finite
all_numbers_told s =
    either (numbers_told s s.node_external) (either (not_finite_is s.options.regularization) (not_finite_is s.tolerance))

spot_told : (s : Survey) → Tells (other_spot s) (OtherSpot s)
spot_told s = opposite (passes (eq s.options.variogram.same_spot epsilon))

wells_told : (newest n : ℕ) → Tells (ltb (most_wells newest) n) (most_written newest < n)
wells_told zero n = below 65535 n
wells_told (suc zero) n = below 65535 n
wells_told (suc (suc newer)) n = below 96 n

pub writer_told : (newest : ℕ) (s : Survey) (area : List ℕ) → Told (writer_tests newest s area) (writer_rules newest s area)
writer_told newest s area =
    let file : ℕ = length (writer_file newest s) in
    tells 1 (coords_told s)
    (tells 2 (nodes_told s)
    (tells 6 (external_told s)
    (tells 8 (node_external_told s (node_count s) s.node_external)
    (tells 11 (all_numbers_told s)
    (tells 22 (spot_told s)
    (tells 16
    (either (below longest_file file)
    (either (wells_told newest (wells s)) (either (below greatest_count (node_count s)) (below greatest_count (length s.bases)))))
    (tells 18 (below (length area) file) no_more)))))))

-- ---- the order in which their numbers count, in full
pub reader_order : (newest : ℕ) (bytes : List ℕ) (areas : Areas) → numbers_of (reader_rules newest bytes areas) ≡ 16 ∷ 18 ∷ []
reader_order newest bytes areas = refl

pub writer_order : (newest : ℕ) (s : Survey) (area : List ℕ) → numbers_of (writer_rules newest s area) ≡ 1 ∷ 2 ∷ 6 ∷ 8 ∷ 11 ∷ 22 ∷ 16 ∷ 18 ∷ []
writer_order newest s area = refl
