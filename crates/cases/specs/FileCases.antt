-- Survey files: the two calls on bytes that were put together outside these definitions, by tools/reading/case_files.py from the paper's sentence, with
-- Python's struct.pack; which number counts first; the longest file; and the two versions.
use Rattle.std.specs.Prelude.{ℕ, ◌≡◌, true, false, List, [], ◌∷◌, ◌++◌, replicate, Float}
use Rattle.std.proofs.Math.Option.{some}
use Rattle.std.specs.Float.{nan}
use Rattle.ieee.specs.Floats.{zero_float, one_float, epsilon}
use Rattle.variogram.specs.Model.{variogram}
use Rattle.variogram.specs.declared.VariogramModel.TheVariants.{Gaussian}
use Rattle.survey.specs.Survey.{Survey}
use Rattle.survey_file_theory.specs.File.{newest_version, old_version}
use Rattle.survey_file_theory.specs.Areas.{Areas}
use Rattle.survey_file_theory.specs.Refusals.{malformed, reader_refusal, writer_refusal}
use Rattle.survey_file_theory.specs.Reader.{reader}
use Rattle.survey_file_theory.specs.Writer.{writer}
use Rattle.survey_file_theory.specs.Cases.{zero_wells, zero_bytes}
use Rattle.cases.specs.FitCases.{f, fs}

-- ---- 1 well, 2 nodes and three codes, Constant, External, Linear: no two of these counts are equal, and no two numbers
abbrev pub three_codes : Survey
three_codes = record {
  values = fs (0x4008_0000_0000_0000 ∷ []);
  coords = fs (0x4014_0000_0000_0000 ∷ 0x401c_0000_0000_0000 ∷ []);
  bases = 1 ∷ 4 ∷ 2 ∷ [];
  external = fs (0x4022_0000_0000_0000 ∷ []);
  nodes = fs (0x4026_0000_0000_0000 ∷ 0x402a_0000_0000_0000 ∷ 0x4031_0000_0000_0000 ∷ 0x4033_0000_0000_0000 ∷ []);
  node_external = fs (0x4037_0000_0000_0000 ∷ 0x403d_0000_0000_0000 ∷ []);
  options = record {
    variogram = variogram Gaussian (f 0x3fd0_0000_0000_0000) (f 0x4000_0000_0000_0000) (f 0x4020_0000_0000_0000);
    regularization = f 0x3fc0_0000_0000_0000;
  };
  tolerance = f 0x3fb0_0000_0000_0000;
}

-- its 137 bytes, and the version
abbrev pub bytes_of : ℕ → List ℕ
bytes_of version =
    0 ∷ 0 ∷ 0 ∷ 0 ∷ 0 ∷ 0 ∷ 208 ∷ 63
    ∷ 0 ∷ 0 ∷ 0 ∷ 0 ∷ 0 ∷ 0 ∷ 0 ∷ 64
    ∷ 0 ∷ 0 ∷ 0 ∷ 0 ∷ 0 ∷ 0 ∷ 32 ∷ 64
    ∷ 0 ∷ 0 ∷ 0 ∷ 0 ∷ 0 ∷ 0 ∷ 192 ∷ 63
    ∷ 0 ∷ 0 ∷ 0 ∷ 0 ∷ 0 ∷ 0 ∷ 176 ∷ 63
    ∷ 0 ∷ 0 ∷ 0 ∷ 0 ∷ 0 ∷ 0 ∷ 8 ∷ 64
    ∷ 0 ∷ 0 ∷ 0 ∷ 0 ∷ 0 ∷ 0 ∷ 20 ∷ 64
    ∷ 0 ∷ 0 ∷ 0 ∷ 0 ∷ 0 ∷ 0 ∷ 28 ∷ 64
    ∷ 0 ∷ 0 ∷ 0 ∷ 0 ∷ 0 ∷ 0 ∷ 34 ∷ 64
    ∷ 0 ∷ 0 ∷ 0 ∷ 0 ∷ 0 ∷ 0 ∷ 38 ∷ 64
    ∷ 0 ∷ 0 ∷ 0 ∷ 0 ∷ 0 ∷ 0 ∷ 42 ∷ 64
    ∷ 0 ∷ 0 ∷ 0 ∷ 0 ∷ 0 ∷ 0 ∷ 49 ∷ 64
    ∷ 0 ∷ 0 ∷ 0 ∷ 0 ∷ 0 ∷ 0 ∷ 51 ∷ 64
    ∷ 0 ∷ 0 ∷ 0 ∷ 0 ∷ 0 ∷ 0 ∷ 55 ∷ 64
    ∷ 0 ∷ 0 ∷ 0 ∷ 0 ∷ 0 ∷ 0 ∷ 61 ∷ 64
    ∷ 1 ∷ 4 ∷ 2
    ∷ 0 ∷ 0 ∷ 0 ∷ 0 ∷ 1 ∷ 0 ∷ 2 ∷ 0 ∷ 3 ∷ 0 ∷ 3 ∷ version ∷ 0 ∷ 0 ∷ []

-- written into 138 bytes: the last is as it was
abbrev pub Written : Type 0
Written = writer newest_version three_codes (replicate 138 7) ≡ record { number = 0; count = some 137; area = bytes_of 1 ++ (7 ∷ []) }

-- areas of so many places more than the lists have
abbrev pub lent : ℕ → Areas
lent past = record {
  values = nan ∷ replicate past nan;
  coords = nan ∷ nan ∷ replicate past nan;
  bases = 7 ∷ 7 ∷ 7 ∷ replicate past 7;
  external = nan ∷ replicate past nan;
  nodes = nan ∷ nan ∷ nan ∷ nan ∷ replicate past nan;
  node_external = nan ∷ nan ∷ replicate past nan;
}

-- read into areas of a place more each: the last of each is as it was
abbrev pub Read : Type 0
Read =
    reader newest_version (bytes_of 1) (lent 1)
    ≡ record {
      number = 0;
      header = some (record { wells = 1; nodes = 2; bases = 3; options = three_codes.options; tolerance = three_codes.tolerance });
      areas = record {
        values = three_codes.values ++ (nan ∷ []);
        coords = three_codes.coords ++ (nan ∷ []);
        bases = three_codes.bases ++ (7 ∷ []);
        external = three_codes.external ++ (nan ∷ []);
        nodes = three_codes.nodes ++ (nan ∷ []);
        node_external = three_codes.node_external ++ (nan ∷ []);
      };
    }

-- ---- "16: under 14 or over 65,536 bytes": a note of zeros, a body of five zeros and the trailer, whose S is given by its first two bytes
abbrev pub noted : ℕ → ℕ → ℕ → List ℕ
noted note low high =
    replicate note 0 ++ (replicate 40 0 ++ (low ∷ high ∷ 0 ∷ 0 ∷ 0 ∷ 0 ∷ 0 ∷ 0 ∷ 0 ∷ 0 ∷ 1 ∷ 1 ∷ 0 ∷ 0 ∷ []))

abbrev pub no_areas : Areas
no_areas = record { values = []; coords = []; bases = []; external = []; nodes = []; node_external = [] }

-- ---- one well, one node, an External code and so many Constant ones, and the value; the lists' lengths may be wrong
abbrev pub faulty : List Float → List Float → List Float → List Float → Float → ℕ → Survey
faulty coords nodes external node_external value codes = record {
  values = value ∷ [];
  coords = coords;
  bases = 4 ∷ replicate codes 1;
  external = external;
  nodes = nodes;
  node_external = node_external;
  options = record { variogram = variogram Gaussian zero_float zero_float zero_float; regularization = zero_float };
  tolerance = zero_float;
}

abbrev pub one : List Float
one = zero_float ∷ []

abbrev pub two : List Float
two = zero_float ∷ zero_float ∷ []

-- no list but its value and its codes: 54 bytes, and one for each code
abbrev pub only_codes : ℕ → Survey
only_codes codes = record {
  values = [];
  coords = [];
  bases = replicate codes 1;
  external = [];
  nodes = [];
  node_external = [];
  options = record { variogram = variogram Gaussian zero_float zero_float zero_float; regularization = zero_float };
  tolerance = zero_float;
}

pub record FileCases : Type 0 where
  pub written : Written
  pub read : Read
  -- "each list's length, after 16": no room, and another version too
  pub reader_18 : reader_refusal newest_version (bytes_of 1) no_areas ≡ 18
  pub reader_16 : reader_refusal newest_version (bytes_of 3) no_areas ≡ 16
  -- 65,482 = 255·256 + 202: 65,536 bytes are accepted, and 65,537 are not
  pub reader_longest : reader_refusal newest_version (noted 65482 202 255) no_areas ≡ 0
  pub reader_too_long : reader_refusal newest_version (noted 65483 203 255) no_areas ≡ 16
  -- "by 1, 2, 6, 8, 11 (r and t included), 16 (over 65,536 bytes or a count over 65,535), 18, in that order": all of them at once, and then without the first
  pub writer_1 : writer_refusal newest_version (faulty one one [] [] nan 65535) [] ≡ 1
  pub writer_2 : writer_refusal newest_version (faulty two one [] [] nan 65535) [] ≡ 2
  pub writer_6 : writer_refusal newest_version (faulty two two [] [] nan 65535) [] ≡ 6
  pub writer_8 : writer_refusal newest_version (faulty two two one [] nan 65535) [] ≡ 8
  pub writer_11 : writer_refusal newest_version (faulty two two one one nan 65535) [] ≡ 11
  pub writer_16 : writer_refusal newest_version (faulty two two one one zero_float 65535) [] ≡ 16
  pub writer_18 : writer_refusal newest_version (faulty two two one one zero_float 0) [] ≡ 18
  -- a file of 65,536 bytes is written into so many, and into no fewer; one of 65,537 never is
  pub longest_written : writer_refusal newest_version (only_codes 65482) (replicate 65536 7) ≡ 0
  pub longest_18 : writer_refusal newest_version (only_codes 65482) (replicate 65535 7) ≡ 18
  pub too_long : writer_refusal newest_version (only_codes 65483) (replicate 65537 7) ≡ 16
  -- "version 1 at any n as before", and an old reader with it
  pub version_1_of_97 : malformed newest_version (zero_bytes 97 97 1) ≡ false
  pub old_of_97 : malformed old_version (zero_bytes 97 97 1) ≡ false
  -- "a version 2 file must have n from 49 to 96, else 16": of one well, and so without room too; a count of wells that is not the file's
  pub version_2_of_1 : reader_refusal newest_version (bytes_of 2) no_areas ≡ 16
  pub version_2_of_48 : malformed newest_version (zero_bytes 48 48 2) ≡ true
  pub version_2_of_49 : malformed newest_version (zero_bytes 49 49 2) ≡ false
  pub version_2_of_96 : malformed newest_version (zero_bytes 96 96 2) ≡ false
  pub version_2_of_97 : malformed newest_version (zero_bytes 97 97 2) ≡ true
  pub version_2_miscounted : malformed newest_version (zero_bytes 61 60 2) ≡ true
  -- "An old reader refuses version 2 by 16"
  pub old_of_49 : malformed old_version (zero_bytes 49 49 2) ≡ true
  -- "A survey above 48 wells is written with version 2 in the same trailer, and others stay version 1"
  pub written_48 : (writer newest_version (zero_wells 48 epsilon zero_float) (replicate 1206 7)).area ≡ zero_bytes 48 48 1
  pub written_49 : (writer newest_version (zero_wells 49 epsilon zero_float) (replicate 1230 7)).area ≡ zero_bytes 49 49 2
  -- "The writer refuses n > 96 by 16", before 18 and after 22
  pub written_96 : writer_refusal newest_version (zero_wells 96 epsilon zero_float) (replicate 2358 7) ≡ 0
  pub refused_97 : writer_refusal newest_version (zero_wells 97 epsilon zero_float) (replicate 2382 7) ≡ 16
  pub refused_97_first : writer_refusal newest_version (zero_wells 97 epsilon zero_float) [] ≡ 16
  pub refused_97_spot : writer_refusal newest_version (zero_wells 97 one_float zero_float) [] ≡ 22
