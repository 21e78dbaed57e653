-- A file by its bytes. The bytes were worked out from the paper's sentence outside these definitions, by Python's struct.pack: little-endian doubles for the
-- numbers, then the codes, then "<IHHHBBBB" for the trailer. All numbers differ, and so do n and m.
use Rattle.std.specs.Prelude.{ℕ, ◌+◌, ◌*◌, List, [], ◌∷◌, ◌++◌, replicate, Float}
use Rattle.std.specs.Float.{binary64}
use Rattle.std.specs.Float.Ieee.{of_bits}
use Rattle.ieee.specs.Floats.{zero_float}
use Rattle.variogram.specs.Model.{variogram, with_same_spot}
use Rattle.variogram.specs.declared.VariogramModel.{VariogramModel}
use Rattle.variogram.specs.declared.VariogramModel.TheVariants.{Gaussian, Linear}
use Rattle.survey.specs.Survey.{Survey}

-- the f64 of a bit pattern
abbrev pub f : ℕ → Float
f = of_bits binary64

-- 1 well, 2 nodes, Constant and External: Gaussian 0.1, 2.7, 30.5, r = 0.0123, t = 1e-9
abbrev pub survey : Survey
survey =
    record {
      values = f 0x4059_5000_0000_0000 ∷ [];
      coords = f 0xc00a_6666_6666_6666 ∷ f 0x4012_cccc_cccc_cccd ∷ [];
      bases = 1 ∷ 4 ∷ [];
      external = f 0x3fe3_3333_3333_3333 ∷ [];
      nodes = f 0x4014_6666_6666_6666 ∷ f 0xc018_cccc_cccc_cccd ∷ f 0x401f_9999_9999_999a ∷ f 0x4020_cccc_cccc_cccd ∷ [];
      node_external = f 0x4022_051e_b851_eb85 ∷ f 0xbfe8_a3d7_0a3d_70a4 ∷ [];
      options = record {
        variogram = variogram Gaussian (f 0x3fb9_9999_9999_999a) (f 0x4005_9999_9999_999a) (f 0x403e_8000_0000_0000);
        regularization = f 0x3f89_30be_0ded_288d;
      };
      tolerance = f 0x3e11_2e0b_e826_d695;
    }

-- its body and its codes, and then the trailer
abbrev pub bytes : List ℕ → List ℕ
bytes trailer =
    154 ∷ 153 ∷ 153 ∷ 153 ∷ 153 ∷ 153 ∷ 185 ∷ 63
    ∷ 154 ∷ 153 ∷ 153 ∷ 153 ∷ 153 ∷ 153 ∷ 5 ∷ 64
    ∷ 0 ∷ 0 ∷ 0 ∷ 0 ∷ 0 ∷ 128 ∷ 62 ∷ 64
    ∷ 141 ∷ 40 ∷ 237 ∷ 13 ∷ 190 ∷ 48 ∷ 137 ∷ 63
    ∷ 149 ∷ 214 ∷ 38 ∷ 232 ∷ 11 ∷ 46 ∷ 17 ∷ 62
    ∷ 0 ∷ 0 ∷ 0 ∷ 0 ∷ 0 ∷ 80 ∷ 89 ∷ 64
    ∷ 102 ∷ 102 ∷ 102 ∷ 102 ∷ 102 ∷ 102 ∷ 10 ∷ 192
    ∷ 205 ∷ 204 ∷ 204 ∷ 204 ∷ 204 ∷ 204 ∷ 18 ∷ 64
    ∷ 51 ∷ 51 ∷ 51 ∷ 51 ∷ 51 ∷ 51 ∷ 227 ∷ 63
    ∷ 102 ∷ 102 ∷ 102 ∷ 102 ∷ 102 ∷ 102 ∷ 20 ∷ 64
    ∷ 205 ∷ 204 ∷ 204 ∷ 204 ∷ 204 ∷ 204 ∷ 24 ∷ 192
    ∷ 154 ∷ 153 ∷ 153 ∷ 153 ∷ 153 ∷ 153 ∷ 31 ∷ 64
    ∷ 205 ∷ 204 ∷ 204 ∷ 204 ∷ 204 ∷ 204 ∷ 32 ∷ 64
    ∷ 133 ∷ 235 ∷ 81 ∷ 184 ∷ 30 ∷ 5 ∷ 34 ∷ 64
    ∷ 164 ∷ 112 ∷ 61 ∷ 10 ∷ 215 ∷ 163 ∷ 232 ∷ 191
    ∷ 1 ∷ 4
    ∷ trailer

-- S = 0, 1 well, 2 nodes, 2 codes, model 3, version 1
abbrev pub file : List ℕ
file = bytes (0 ∷ 0 ∷ 0 ∷ 0 ∷ 1 ∷ 0 ∷ 2 ∷ 0 ∷ 2 ∷ 0 ∷ 3 ∷ 1 ∷ 0 ∷ 0 ∷ [])

-- the same behind a note of three bytes, S = 3
abbrev pub noted : List ℕ
noted = 72 ∷ 105 ∷ 10 ∷ bytes (3 ∷ 0 ∷ 0 ∷ 0 ∷ 1 ∷ 0 ∷ 2 ∷ 0 ∷ 2 ∷ 0 ∷ 3 ∷ 1 ∷ 0 ∷ 0 ∷ [])

-- ---- "model 1 to 4 in the enum's order"
-- a survey of no wells, no nodes and no bases, with zeros for its numbers
abbrev pub bare : VariogramModel → Survey
bare model =
    record {
      values = [];
      coords = [];
      bases = [];
      external = [];
      nodes = [];
      node_external = [];
      options = record { variogram = variogram model zero_float zero_float zero_float; regularization = zero_float };
      tolerance = zero_float;
    }

-- the trailer of its file, with the model's number
abbrev pub with_model : ℕ → List ℕ
with_model k = 0 ∷ 0 ∷ 0 ∷ 0 ∷ 0 ∷ 0 ∷ 0 ∷ 0 ∷ 0 ∷ 0 ∷ k ∷ 1 ∷ 0 ∷ 0 ∷ []

-- ---- versions
-- n wells, all zeros, with no nodes and no bases, a same-spot distance and an r
abbrev pub zero_wells : ℕ → Float → Float → Survey
zero_wells n spot r =
    record {
      values = replicate n zero_float;
      coords = replicate (2 * n) zero_float;
      bases = [];
      external = [];
      nodes = [];
      node_external = [];
      options = record { variogram = with_same_spot (variogram Linear zero_float zero_float zero_float) spot; regularization = r };
      tolerance = zero_float;
    }

-- the bytes of n such wells, 40 of the five numbers and 24 of each well, before a trailer that says so many wells, below 256, and a version
abbrev pub zero_bytes : ℕ → ℕ → ℕ → List ℕ
zero_bytes n said version =
    replicate (40 + 24 * n) 0 ++ (0 ∷ 0 ∷ 0 ∷ 0 ∷ said ∷ 0 ∷ 0 ∷ 0 ∷ 0 ∷ 0 ∷ 4 ∷ version ∷ 0 ∷ 0 ∷ [])
