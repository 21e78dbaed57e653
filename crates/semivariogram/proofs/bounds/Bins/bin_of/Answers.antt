-- `semivariogram::bounds::Bins::bin_of` meets its contract: the floor changes nothing that the cast gives.
use Rattle.std.proofs.Common.{ℕ, ◌-◌, min, sym, ap, ◌∙◌}
use lib.Ieee.{binary64, div}
use lib.Ieee.Fits.{div-fits}
use Rattle.ieee.proofs.CastOrder.{floor_cast}
use Rattle.semivariogram.proofs.bounds.Bins.bin_of.Goals as goal

pub returns : goal.returns
returns c =
    let bins = c.args.self.now in
    let x = div binary64 c.args.dist bins.width in
    c.min.ensures ∙ ap (λ (b : ℕ). min b (bins.count - 1)) (c.saturating_f64_to_usize.ensures ∙ sym (floor_cast x (div-fits binary64 c.args.dist bins.width)))
