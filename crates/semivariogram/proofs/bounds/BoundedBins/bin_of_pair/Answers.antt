-- `semivariogram::bounds::BoundedBins::bin_of_pair` meets its contract: inside the bounds of a bin a pair is in it, and else its distance tells.
use Rattle.std.proofs.Common.{false, T, sym, ap, ◌∙◌, subst}
use lib.Ieee.{binary64, fits}
use Rattle.ieee.specs.Root.{sqrt_of}
use Rattle.ieee.specs.Values.{Signed}
use Rattle.semivariogram_theory.specs.Pairs.{Pair, pair}
use Rattle.semivariogram_theory.specs.Bins.{lag}
use Rattle.semivariogram.specs.Called.{sampled}
use Rattle.semivariogram.specs.Parts.{bin_at}
use Rattle.semivariogram.proofs.Taking.{taken_is, bounds_of}
use Rattle.semivariogram.proofs.BinBounds.{inside}
use Rattle.semivariogram.proofs.Squares.{square_in_lem, square_clear, lag_is}
use Rattle.semivariogram.proofs.bounds.BoundedBins.bin_of_pair.Goals as goal

pub returns-then-dist_sq-self : goal.returns-then-dist_sq-self
returns-then-dist_sq-self c =
    let bounded = c.args.self.now in
    let bins = bounded.bins in
    let s = c.args.samples.now in
    let p : Pair = pair c.args.i c.args.j in
    let square = c.requires.square in
    let clear = square_clear (sampled s) (taken_is s) p c.requires.inside.0 c.requires.inside.1 in
    let b = c.likely_bin-bin.result in
    inside bins.width bins.count _ _ _ (bounds_of bounded) c.args.dist_sq (subst (Signed false) (sym square) clear)
    (subst (λ x. T (fits binary64 x)) (sym square) (square_in_lem s.points.now s.d p)) b c.if-bin-self.true
    (subst T (sym c.if-self-bin.true) tt) (subst T (sym c.if-dist_sq-self.true) tt)
    ∙ ap (bin_at bins.width bins.count) (ap sqrt_of square ∙ sym (lag_is (sampled s) (taken_is s) p))

pub returns : goal.returns
unfolding lag
returns c = let bins = c.args.self.now.bins in c.bin_of.ensures ∙ ap (bin_at bins.width bins.count) c.calculate_distance-dist.ensures
