-- `survey_file_reader::header::read_header` meets its contract: the counts, and the five numbers that the body begins with.
use Prim.Native.Nat.{ℕ, ◌+◌, ◌*◌, ◌<◌}
use native.Mathlib.Nat.{add-zero}
use native.Mathlib.Omega.{arith}
use mathlib.Core.Path.{◌≡◌, ap, sym, ◌∙◌}
use mathlib.Core.List.{List}
use lib.Dec.{lit<}
use lib.ListN.{get_or, drop}
use lib.Ieee.{Float, nan, binary64, of_bits}
use Rattle.std.specs.Prelude.{Result}
use Rattle.std.specs.Result.{result_unwrap_or}
use Rattle.ieee.specs.Bytes.{f64s_in}
use Rattle.variogram.specs.declared.VariogramModel.{VariogramModel}
use Rattle.variogram.specs.declared.VariogramModel.TheVariants.{Linear}
use Rattle.variogram.specs.declared.UnknownModel.{UnknownModel}
use Rattle.survey_file_theory.proofs.Models.{same_model}
use Rattle.patterns.specs.Words.{word_at}
use Rattle.variogram.specs.Model.{variogram}
use Rattle.survey_file_theory.specs.Contents.{number_count}
use Rattle.survey_file_theory.specs.Trailer.{start_in, wells_in, nodes_in, externals_in}
use Rattle.survey_file_theory.specs.Reader.{model_of, survey_in}
use Rattle.survey_file_reader.proofs.Places.{byte_in}
use Rattle.survey_file_reader.proofs.Numbers.{number_at}
use Rattle.survey_file_reader.proofs.header.read_header.Goals as goal

-- a number of the body's first five, which stands behind S
abbrev numbers : List ℕ → List Float
numbers bytes = f64s_in (number_count (wells_in bytes) (nodes_in bytes) (externals_in bytes)) (drop (start_in bytes) bytes)

later : (bytes : List ℕ) {at : ℕ} {x : Float} (j : ℕ) → j < 5 → at ≡ start_in bytes
    → x ≡ of_bits binary64 (word_at bytes (at + 8 * j)) → x ≡ get_or (numbers bytes) j nan
later bytes {at} j l s e =
    let n = number_count (wells_in bytes) (nodes_in bytes) (externals_in bytes) in
    e ∙ ap (λ (k : ℕ). of_bits binary64 (word_at bytes (k + 8 * j))) s ∙ sym (number_at n bytes (start_in bytes) j (omega arith))

first : (bytes : List ℕ) {at : ℕ} {x : Float} → at ≡ start_in bytes → x ≡ of_bits binary64 (word_at bytes at) → x ≡ get_or (numbers bytes) 0 nan
first bytes {at} s e = later bytes 0 (lit< tt) s (e ∙ ap (λ (k : ℕ). of_bits binary64 (word_at bytes k)) (sym (add-zero at)))

-- Header { wells, nodes, bases, options, tolerance }
pub returns : goal.returns
unfolding survey_in
returns c =
    let v = c.new in
    let xs = c.args.bytes.now in
    let e = c.counts-counts.ensures in
    let at = e.start in
    let model = c.unwrap_or-model.ensures ∙ ap (λ (r : Result VariogramModel UnknownModel). result_unwrap_or r Linear) c.try_from.ensures in
    let m = model ∙ same_model _ ∙ ap model_of (byte_in xs 10) in
    let nugget = first xs at c.number_at-nugget.ensures in
    let sill = later xs 1 (lit< tt) at c.number_at-sill.ensures in
    let made = v.ensures ∙ (λ i. variogram (m i) (nugget i) (sill i) (later xs 2 (lit< tt) at c.number_at-range.ensures i)) in
    λ i. record {
      wells = e.wells i;
      nodes = e.nodes i;
      bases = e.bases i;
      options = record { variogram = made i; regularization = later xs 3 (lit< tt) at c.number_at.ensures i };
      tolerance = later xs 4 (lit< tt) at c.number_at-2.ensures i;
    }
