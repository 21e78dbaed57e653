-- The file by its bytes, computed by the definitions.
use Prim.Native.Nat.{ℕ}
use mathlib.Core.Path.{◌≡◌, refl}
use mathlib.Core.Bool.{true, false}
use mathlib.Core.List.{[], ◌∷◌, ◌++◌}
use mathlib.Core.Option.{some}
use lib.ListN.{drop, replicate}
use lib.Ieee.{Float, inf, eq, of_bits}
use Rattle.ieee.specs.Floats.{zero_float, one_float, epsilon}
use Rattle.ieee.specs.Bytes.{number_in}
use Rattle.variogram.specs.declared.VariogramModel.TheVariants.{Spherical, Exponential, Gaussian, Linear}
use Rattle.survey_file_theory.specs.File.{newest_version, old_version, writer_file}
use Rattle.survey_file_theory.specs.Refusals.{malformed, writer_refusal}
use Rattle.survey_file_theory.specs.Reader.{read_bytes, reader}
use Rattle.survey_file_theory.specs.Cases.{survey, file, noted, bare, with_model, zero_wells, zero_bytes}

pub writes_bytes : writer_file newest_version survey ≡ file
unfolding writer_file of_bits
writes_bytes = refl

pub reads_bytes : read_bytes newest_version file ≡ some survey
unfolding read_bytes of_bits
reads_bytes = refl

pub reads_noted : read_bytes newest_version noted ≡ some survey
unfolding read_bytes of_bits
reads_noted = refl

-- what the reader's call answers, in areas of just the lists' lengths
pub reads_call : (v x y e a b c d p q : Float) (g h : ℕ)
    → reader newest_version file record {
      values = v ∷ [];
      coords = x ∷ y ∷ [];
      bases = g ∷ h ∷ [];
      external = e ∷ [];
      nodes = a ∷ b ∷ c ∷ d ∷ [];
      node_external = p ∷ q ∷ [];
    }
    ≡ record {
      number = 0;
      header = some (record { wells = 1; nodes = 2; bases = 2; options = survey.options; tolerance = survey.tolerance });
      areas = record {
        values = survey.values;
        coords = survey.coords;
        bases = survey.bases;
        external = survey.external;
        nodes = survey.nodes;
        node_external = survey.node_external;
      };
    }
unfolding reader of_bits
reads_call v x y e a b c d p q g h = refl

-- ---- "model 1 to 4 in the enum's order"
pub writes_models : (drop 40 (writer_file newest_version (bare Spherical)) ≡ with_model 1)
    × (drop 40 (writer_file newest_version (bare Exponential)) ≡ with_model 2)
    × (drop 40 (writer_file newest_version (bare Gaussian)) ≡ with_model 3)
    × (drop 40 (writer_file newest_version (bare Linear)) ≡ with_model 4)
unfolding writer_file of_bits
writes_models = (refl, refl, refl, refl)

pub reads_models : (read_bytes newest_version (replicate 40 0 ++ with_model 1) ≡ some (bare Spherical))
    × (read_bytes newest_version (replicate 40 0 ++ with_model 2) ≡ some (bare Exponential))
    × (read_bytes newest_version (replicate 40 0 ++ with_model 3) ≡ some (bare Gaussian))
    × (read_bytes newest_version (replicate 40 0 ++ with_model 4) ≡ some (bare Linear))
unfolding read_bytes of_bits
reads_models = (refl, refl, refl, refl)

-- ---- versions
-- "A survey above 48 wells is written with version 2 in the same trailer, and others stay version 1"
pub writes_versions : (writer_file newest_version (zero_wells 48 epsilon zero_float) ≡ zero_bytes 48 48 1)
    × (writer_file newest_version (zero_wells 49 epsilon zero_float) ≡ zero_bytes 49 49 2)
    × (writer_file newest_version (zero_wells 96 epsilon zero_float) ≡ zero_bytes 96 96 2)
    × (writer_file old_version (zero_wells 49 epsilon zero_float) ≡ zero_bytes 49 49 1)
unfolding writer_file of_bits
writes_versions = (refl, refl, refl, refl)

-- "version 1 at any n as before": 60, 97
pub reads_version_1 : (malformed newest_version (zero_bytes 0 0 1) ≡ false)
    × (malformed newest_version (zero_bytes 60 60 1) ≡ false)
    × (malformed newest_version (zero_bytes 97 97 1) ≡ false)
unfolding number_in
reads_version_1 = (refl, refl, refl)

-- "a version 2 file must have n from 49 to 96, else 16": 0, 48, 49, 96, 97, and 60 said of 61
pub reads_version_2 : (malformed newest_version (zero_bytes 0 0 2) ≡ true)
    × (malformed newest_version (zero_bytes 48 48 2) ≡ true)
    × (malformed newest_version (zero_bytes 49 49 2) ≡ false)
    × (malformed newest_version (zero_bytes 96 96 2) ≡ false)
    × (malformed newest_version (zero_bytes 97 97 2) ≡ true)
    × (malformed newest_version (zero_bytes 61 60 2) ≡ true)
unfolding number_in
reads_version_2 = (refl, refl, refl, refl, refl, refl)

-- "another .. version", and "An old reader refuses version 2 by 16"
pub reads_no_other : (malformed newest_version (zero_bytes 49 49 0) ≡ true)
    × (malformed newest_version (zero_bytes 49 49 3) ≡ true)
    × (malformed old_version (zero_bytes 49 49 2) ≡ true)
    × (malformed old_version (zero_bytes 49 49 1) ≡ false)
unfolding number_in
reads_no_other = (refl, refl, refl, refl)

-- "The writer refuses n > 96 by 16": after 11 and 22, and before 18. An old writer takes as many as have room
pub writes_96 : (writer_refusal newest_version (zero_wells 96 epsilon zero_float) (replicate 2358 7) ≡ 0)
    × (writer_refusal newest_version (zero_wells 96 epsilon zero_float) (replicate 2357 7) ≡ 18)
    × (writer_refusal newest_version (zero_wells 97 epsilon zero_float) (replicate 2382 7) ≡ 16)
    × (writer_refusal newest_version (zero_wells 97 epsilon zero_float) [] ≡ 16)
    × (writer_refusal newest_version (zero_wells 97 one_float zero_float) [] ≡ 22)
    × (writer_refusal newest_version (zero_wells 97 one_float (inf false)) [] ≡ 11)
    × (writer_refusal old_version (zero_wells 97 epsilon zero_float) (replicate 2382 7) ≡ 0)
unfolding writer_refusal eq of_bits
writes_96 = (refl, refl, refl, refl, refl, refl, refl)
