-- `semivariogram::bounds::Bins::beside` meets its contract: the bin of what it returns is on its side of the edge, or it returns a NaN.
use Rattle.std.proofs.Common.{◌≡◌, not, eqb, sym, refl, ap, ◌∙◌, subst}
use lib.Ieee.{nan, binary64, of_bits}
use lib.Ieee.Fits.{mul-fits}
use Rattle.semivariogram.specs.Parts.{bin_at, Beside}
use Rattle.semivariogram.proofs.BinBounds.{beside_told, beside_nan}
use Rattle.semivariogram.proofs.bounds.Bins.beside.Goals as goal

pub returns-then-bin-b : goal.returns-then-bin-b
returns-then-bin-b g c =
    let bins = c.args.self.now in
    let is = c.bin_of-bin.ensures ∙ ap (bin_at bins.width bins.count) c.sqrt.ensures in
    beside_told bins.width bins.count (not (eqb g.row.ABOVE 0)) c.args.b _ _ bins.clear c.if-bound.true (mul-fits binary64 _ _) is c.if-bin-b.true

not_a_number : of_bits binary64 0x7ff8_0000_0000_0000 ≡ nan
unfolding of_bits
not_a_number = refl

pub returns-else-bin-b : goal.returns-else-bin-b
returns-else-bin-b g c =
    let bins = c.args.self.now in
    let above = not (eqb g.row.ABOVE 0) in
    subst (Beside above bins.width bins.count c.args.b) (sym not_a_number) (beside_nan bins.width bins.count above c.args.b)

pub returns-else-bound : goal.returns-else-bound
returns-else-bound g c =
    let bins = c.args.self.now in
    let above = not (eqb g.row.ABOVE 0) in
    subst (Beside above bins.width bins.count c.args.b) (sym not_a_number) (beside_nan bins.width bins.count above c.args.b)
