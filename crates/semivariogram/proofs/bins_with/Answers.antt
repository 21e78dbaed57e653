-- `semivariogram::bins_with` meets its contract: its parts are those of the definition, one after the other.
use Rattle.std.proofs.Common.{◌≡◌, false, sym, ap, ◌∙◌, subst}
use lib.Ieee.{Float, binary64, div}
use Rattle.ieee.specs.Values.{Signed}
use Rattle.semivariogram_theory.specs.Bins.{width}
use Rattle.semivariogram.specs.declared.bounds.Bins.{Bins}
use Rattle.semivariogram.specs.Called.{sampled, held}
use Rattle.semivariogram.proofs.Taking.{taken_is}
use Rattle.semivariogram.proofs.Squares.{width_is, width_clear}
use Rattle.semivariogram.proofs.Whole.{accepted_by, none_added, laid_out}
use Rattle.semivariogram.proofs.bins_with.Goals as goal

pub invariant_of-layout : goal.invariant_of-layout
invariant_of-layout c =
    let s = c.args.samples.now in
    let q = sampled s in
    let a = held c.args.areas.now in
    let wide : div binary64 c.sqrt.result c.nearest_usize_to_f64.result ≡ width q =
    width_is q _ _ _ (taken_is s) c.all_squares-max_sq.ensures.greatest c.sqrt.ensures c.nearest_usize_to_f64.ensures in
    record {
      some = s.bins.0;
      clear = subst (λ (w : Float). ∥ Signed false w ∥₁) (sym wide) ∣ width_clear q a (accepted_by q a (taken_is s) c.requires.areas) ∣₁;
    }

pub add_pairs-requires-clause-bins : goal.add_pairs-requires-clause-bins
add_pairs-requires-clause-bins c =
    let s = c.args.samples.now in
    let is = c.bounded-bounded.ensures in
    record {
      width = ap (λ (b : Bins). b.width) is
          ∙ width_is (sampled s) _ _ _ (taken_is s) c.all_squares-max_sq.ensures.greatest c.sqrt.ensures c.nearest_usize_to_f64.ensures;
      count = ap (λ (b : Bins). b.count) is;
    }

pub add_pairs-requires-clause-left : goal.add_pairs-requires-clause-left
add_pairs-requires-clause-left c = none_added (sampled c.args.samples.now) c.args.samples.now.bins.1

pub returns : goal.returns
returns c =
    let s = c.args.samples.now in
    let wide = width_is (sampled s) _ _ _ (taken_is s) c.all_squares-max_sq.ensures.greatest c.sqrt.ensures c.nearest_usize_to_f64.ensures in
    let long = c.add_pairs.auto.bins ∙ laid_out s.n_bins s.bins.1 in
    let told = c.write_kept.ensures.written (sampled s) (sym long) wide c.add_pairs.ensures in
    record { lent = c.write_kept.ensures.lent; kept = told.0; filled = told.1 }
