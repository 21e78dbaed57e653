-- `semivariogram::binning::write_kept` meets its contract: after i turns the areas are what the first i bins leave.
use Rattle.std.proofs.Common.{refl, ap, arith, length-set}
use lib.Ieee.{Float, binary64, add, mul, div}
use Rattle.semivariogram_theory.specs.Bins.{half}
use Rattle.semivariogram.proofs.KeptBins.{none_yet, one_kept, not_kept, all_written}
use Rattle.semivariogram.proofs.binning.write_kept.Goals as goal
use Rattle.semivariogram.proofs.binning.write_kept.Goals.{then-bin-gt0, else-bin-gt0}

pub loop-i-init : goal.loop-i-init
loop-i-init c = record {
  kept = omega arith;
  lent = record { distances = refl; semivariances = refl; counts = refl };
  distances = refl;
  semivariances = refl;
  counts = refl;
  progress = none_yet _ _ _;
}

pub loop-i-preserved : goal.loop-i-preserved
loop-i-preserved c =
    let v = c.loop-i.invariant in
    let far = c.args.bin_width in
    elim c.if-bin-gt0.branch [
      | then-bin-gt0 w ↦ rw (w.areas-is, w.kept-is) (record {
        kept = omega (arith, v.kept);
        lent = record { distances = v.lent.distances; semivariances = v.lent.semivariances; counts = v.lent.counts };
        distances = simp length-set v.distances;
        semivariances = simp length-set v.semivariances;
        counts = simp length-set v.counts;
        progress = one_kept far c.args.bins.now c.loop-i.i c.loop-i.kept _ _ _ _ _ v.progress w.if-bin-gt0.true
            (ap (λ (x : Float). mul binary64 (add binary64 x half) far) w.nearest_usize_to_f64.ensures)
            (ap (λ (x : Float). div binary64 _ x) w.nearest_usize_to_f64-then-bin-gt0.ensures)
            refl;
      })
      | else-bin-gt0 w ↦ rw (w.areas-is, w.kept-is) (record {
        kept = omega (arith, v.kept);
        lent = v.lent;
        distances = v.distances;
        semivariances = v.semivariances;
        counts = v.counts;
        progress = not_kept far c.args.bins.now c.loop-i.i c.loop-i.kept _ _ v.progress (omega (arith, w.if-bin-gt0.false));
      })
    ]

pub returns-clause-written : goal.returns-clause-written
returns-clause-written c q = all_written q c.args.bins.now c.args.bin_width c.loop-i.i c.loop-i.kept _ _ (omega arith) c.loop-i.invariant.progress
