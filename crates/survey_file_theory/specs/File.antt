-- The layout of a survey file: paper 01, "Survey file", and its versions: paper 02, slip 7. The newest version that a reader or a writer knows is an
-- argument: 1 before slip 7, and 2 since; none is older than 1.
use Rattle.std.specs.Prelude.{ℕ, zero, suc, ◌+◌, ◌*◌, Bool, not, cond, ◌&&◌, ◌||◌, List, [], ◌∷◌, ◌++◌, eqb, ltb, length}
use Rattle.ieee.specs.Bytes.{little_endian, f64_bytes}
use Rattle.variogram.specs.declared.VariogramModel.{VariogramModel}
use Rattle.variogram.specs.declared.VariogramModel.TheVariants.{Spherical, Exponential, Gaussian, Linear}
use Rattle.survey.specs.Limits.{library}
use Rattle.survey.specs.Survey.{Survey, wells, node_count}
use Rattle.survey_file_theory.specs.Contents.{numbers, number_count}

-- "over 65,536 bytes"
abbrev pub longest_file : ℕ
longest_file = 65536

-- "a count over 65,535"
abbrev pub greatest_count : ℕ
greatest_count = 65535

-- "The 14-byte trailer"
abbrev pub trailer_length : ℕ
trailer_length = 14

-- ---- the version
-- what the library's reader and writer know, and what those of before know
abbrev pub newest_version : ℕ
newest_version = 2

abbrev pub old_version : ℕ
old_version = 1

-- "A survey above 48 wells is written with version 2"
abbrev pub most_in_version1 : ℕ
most_in_version1 = 48

-- "The new reader takes both, version 1 at any n as before; a version 2 file must have n from 49 to 96": whether a version is taken at n wells
abbrev pub version_taken : ℕ → ℕ → ℕ → Bool
version_taken zero version n = eqb version 1
version_taken (suc zero) version n = eqb version 1
version_taken (suc (suc newer)) version n = eqb version 1 || (eqb version 2 && (ltb most_in_version1 n && not (ltb library.wells n)))

-- "A survey above 48 wells is written with version 2 in the same trailer, and others stay version 1"
abbrev pub version_for : ℕ → ℕ → ℕ
version_for zero n = 1
version_for (suc zero) n = 1
version_for (suc (suc newer)) n = cond (ltb most_in_version1 n) 2 1

-- how many wells are written at most: "a count over 65,535" is refused, and by the new writer "n > 96"
abbrev pub most_wells : ℕ → ℕ
most_wells zero = greatest_count
most_wells (suc zero) = greatest_count
most_wells (suc (suc newer)) = library.wells

-- ---- the layout
-- "model 1 to 4 in the enum's order"
abbrev pub model_number : VariogramModel → ℕ
model_number Spherical = 1
model_number Exponential = 2
model_number Gaussian = 3
model_number Linear = 4

-- "nugget, sill, range, r, t, values, coordinates, externals, nodes, node externals as little-endian f64, then the codes, one byte each"
unfoldable pub body : Survey → List ℕ
unfolding f64_bytes numbers
body s = f64_bytes (numbers s) ++ s.bases

-- "S (4 bytes), n, m, code count (2 each), model 1 to 4 in the enum's order and version 1 (a byte each), two zero bytes, little-endian": the version is that
-- of the wells
unfoldable pub trailer : ℕ → ℕ → Survey → List ℕ
unfolding little_endian
trailer newest start s =
    little_endian 4 start
    ++ little_endian 2 (wells s)
    ++ little_endian 2 (node_count s)
    ++ little_endian 2 (length s.bases)
    ++ (model_number s.options.variogram.model ∷ version_for newest (wells s) ∷ 0 ∷ 0 ∷ [])

-- "A free note, then the body from byte S", then the trailer
unfoldable pub file_of : ℕ → List ℕ → Survey → List ℕ
unfolding body trailer
file_of newest note s = note ++ body s ++ trailer newest (length note) s

-- "The writer puts S = 0": there is no note
unfoldable pub writer_file : ℕ → Survey → List ℕ
unfolding file_of
writer_file newest s = file_of newest [] s

-- where the lengths meet: how long a file is whose body begins at byte S, with n wells, m nodes, k external columns and c codes
abbrev pub file_length : ℕ → ℕ → ℕ → ℕ → ℕ → ℕ
file_length start n m k c = start + 8 * number_count n m k + c + trailer_length
