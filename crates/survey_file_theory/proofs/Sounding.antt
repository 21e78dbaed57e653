-- Computed: sounding A as a survey file of 95 bytes, which read back; and edges of the reader and the writer.
use Prim.Native.Nat.{ℕ}
use mathlib.Core.Path.{◌≡◌, refl}
use mathlib.Core.Bool.{false}
use mathlib.Core.List.{List, [], ◌∷◌, ◌++◌}
use mathlib.Core.Option.{none, some}
use lib.ListN.{length, drop, replicate}
use lib.Ieee.{Float, nan, inf, binary64, eq, of_bits}
use Rattle.ieee.specs.Floats.{zero_float, one_float}
use Rattle.variogram.specs.Model.{variogram, with_same_spot}
use Rattle.variogram.specs.declared.VariogramModel.{VariogramModel}
use Rattle.variogram.specs.declared.VariogramModel.TheVariants.{Spherical, Gaussian, Linear}
use Rattle.survey.specs.Survey.{Survey}
use Rattle.survey_file_theory.specs.File.{newest_version, writer_file}
use Rattle.survey_file_theory.specs.Reader.{read_bytes}
use Rattle.survey_file_theory.specs.Writer.{writer}

-- "A: (0,0) value 5, node (1,0)", "Constant, Spherical 0, 1, 1, r = t = 0"
abbrev pub sounding_a : Survey
sounding_a =
    record {
      values = of_bits binary64 0x4014_0000_0000_0000 ∷ [];
      coords = zero_float ∷ zero_float ∷ [];
      bases = 1 ∷ [];
      external = [];
      nodes = one_float ∷ zero_float ∷ [];
      node_external = [];
      options = record { variogram = variogram Spherical zero_float one_float one_float; regularization = zero_float };
      tolerance = zero_float;
    }

-- the file's length, its code and its trailer, what the writer answers with an area of just that many bytes and of one less, and what is read back
pub sounding_a_file :
    let file = writer_file newest_version sounding_a in
    (length file ≡ 95)
    × (drop 80 file ≡ 1 ∷ 0 ∷ 0 ∷ 0 ∷ 0 ∷ 1 ∷ 0 ∷ 1 ∷ 0 ∷ 1 ∷ 0 ∷ 1 ∷ 1 ∷ 0 ∷ 0 ∷ [])
    × (writer newest_version sounding_a (replicate 95 7) ≡ record { number = 0; count = some 95; area = file })
    × (writer newest_version sounding_a (replicate 94 7) ≡ record { number = 18; count = none; area = replicate 94 7 })
    × (read_bytes newest_version file ≡ some sounding_a)
unfolding writer_file writer read_bytes eq of_bits
sounding_a_file = (refl, refl, refl, refl, refl)

-- a survey of no wells and no nodes
abbrev bare : VariogramModel → Float → Float → List Float → List Float → List ℕ → Survey
bare model x r coords node_external bases =
    record {
      values = [];
      coords = coords;
      bases = bases;
      external = [];
      nodes = [];
      node_external = node_external;
      options = record { variogram = variogram model x x x; regularization = r };
      tolerance = x;
    }

-- a trailer of Linear and version 1, with all lengths zero and S as given
abbrev linear_trailer : ℕ → List ℕ
linear_trailer s = s ∷ s ∷ s ∷ s ∷ 0 ∷ 0 ∷ 0 ∷ 0 ∷ 0 ∷ 0 ∷ 4 ∷ 1 ∷ 0 ∷ 0 ∷ []

-- a trailer alone, a body behind a note that is shorter than S, the shortest file, the same with NaN patterns, and one with a byte too many or too few
pub reader_edges : (read_bytes newest_version (linear_trailer 0) ≡ none)
    × (read_bytes newest_version (replicate 40 0 ++ linear_trailer 255) ≡ none)
    × (read_bytes newest_version (replicate 40 0 ++ linear_trailer 0) ≡ some (bare Linear zero_float zero_float [] [] []))
    × (read_bytes newest_version (replicate 40 255 ++ linear_trailer 0) ≡ some (bare Linear nan nan [] [] []))
    × (read_bytes newest_version (replicate 41 0 ++ linear_trailer 0) ≡ none)
    × (read_bytes newest_version (replicate 39 0 ++ linear_trailer 0) ≡ none)
unfolding read_bytes of_bits
reader_edges = (refl, refl, refl, refl, refl, refl)

-- any code and an r below zero are written and read, and -0 keeps its sign; node externals are not looked at where k = 0
pub any_survey :
    let minus_zero = of_bits binary64 0x8000_0000_0000_0000 in
    let minus_one = of_bits binary64 0xbff0_0000_0000_0000 in
    read_bytes newest_version (writer_file newest_version (bare Gaussian minus_zero minus_one [] (nan ∷ []) (7 ∷ 0 ∷ 255 ∷ [])))
    ≡ some (bare Gaussian minus_zero minus_one [] [] (7 ∷ 0 ∷ 255 ∷ []))
unfolding writer_file read_bytes of_bits
any_survey = refl

-- node externals count where there is a code 4; r is included in 11; 1 comes before 11
pub writer_edges : ((writer newest_version (bare Gaussian zero_float zero_float [] (nan ∷ []) (7 ∷ [])) (replicate 55 0)).number ≡ 0)
    × ((writer newest_version (bare Gaussian zero_float zero_float [] (nan ∷ []) (4 ∷ [])) (replicate 55 0)).number ≡ 8)
    × ((writer newest_version (bare Gaussian zero_float (inf false) [] [] []) (replicate 55 0)).number ≡ 11)
    × ((writer newest_version (bare Gaussian zero_float (inf false) (nan ∷ []) [] []) (replicate 55 0)).number ≡ 1)
unfolding writer eq of_bits
writer_edges = (refl, refl, refl, refl)

-- a survey of one code alone, with a same-spot distance and an r
abbrev pub spotted_bare : Float → Float → Survey
spotted_bare spot r =
    record {
      values = [];
      coords = [];
      bases = 1 ∷ [];
      external = [];
      nodes = [];
      node_external = [];
      options = record { variogram = with_same_spot (variogram Linear zero_float one_float one_float) spot; regularization = r };
      tolerance = zero_float;
    }

-- how the writer's call ends, with so many bytes lent
abbrev pub spot_number : Float → Float → ℕ → ℕ
unfolding writer
spot_number spot r room = (writer newest_version (spotted_bare spot r) (replicate room 0)).number

-- 22, with 55 bytes lent unless said: 1.0, the f64 just above 2^-52, the one just below and a NaN are refused; with r not finite 11 comes first; with
-- no room 22 comes first; the f64 2^-52 itself, by its bits, is written
pub writer_spots :
    (spot_number one_float zero_float 55 ≡ 22)
    × (spot_number (of_bits binary64 0x3cb0_0000_0000_0001) zero_float 55 ≡ 22)
    × (spot_number (of_bits binary64 0x3caf_ffff_ffff_ffff) zero_float 55 ≡ 22)
    × (spot_number nan zero_float 55 ≡ 22)
    × (spot_number one_float (inf false) 55 ≡ 11)
    × (spot_number one_float zero_float 0 ≡ 22)
    × (spot_number (of_bits binary64 0x3cb0_0000_0000_0000) zero_float 55 ≡ 0)
    × (spot_number (of_bits binary64 0x3cb0_0000_0000_0000) zero_float 0 ≡ 18)
unfolding writer eq of_bits
writer_spots = (refl, refl, refl, refl, refl, refl, refl, refl)
