-- `vectors::models::next_variogram` meets its contract: a word, and then four numbers, each in its place.
use Rattle.std.proofs.Common.{ap, ◌∙◌}
use Rattle.variogram.specs.declared.Variogram.{Variogram}
use Rattle.variogram.specs.declared.VariogramModel.{VariogramModel}
use Rattle.variogram.specs.Model.{variogram, with_same_spot}
use Rattle.vectors.proofs.models.next_variogram.Goals as goal

pub returns : goal.returns
returns c = record {
  model = c.next.result;
  nugget = c.next-nugget.result;
  sill = c.next-sill.result;
  range = c.next-range.result;
  same_spot = c.next-same_spot.result;
  model_came = c.next.ensures;
  nugget_came = c.next-nugget.ensures;
  sill_came = c.next-sill.ensures;
  range_came = c.next-range.ensures;
  same_spot_came = c.next-same_spot.ensures;
  is =
      c.with_same_spot.ensures
      ∙ ap
      (λ (v : Variogram). with_same_spot v c.next-same_spot.result)
      (c.new.ensures
      ∙ ap (λ (m : VariogramModel). variogram m c.next-nugget.result c.next-sill.result c.next-range.result) c.model-model.ensures);
}
