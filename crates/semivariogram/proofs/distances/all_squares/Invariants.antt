-- `semivariogram::distances::all_squares` meets its contract: the greatest so far, with the samples that are left, is that of all, and the pairs before
-- them have their squares stored.
use Rattle.std.proofs.Common.{◌≡◌, ◌-◌, ◌≤◌, map, length}
use Rattle.ieee.specs.Floats.{zero_float}
use Rattle.semivariogram_theory.specs.Pairs.{pairs_from, pairs}
use Rattle.semivariogram_theory.specs.Bins.{greatest}
use Rattle.semivariogram.specs.Parts.{square_in, Reached, Stored}
use Rattle.semivariogram.proofs.distances.all_squares.Given as goal

abbrev pub invariant-loop-i : goal.invariant-loop-i
invariant-loop-i l =
    let n = length l.samples.values.now in
    let far = square_in l.samples.points.now l.samples.d in
    record {
      inside : l.i ≤ n;
      room : length l.squares ≡ length l.initial.squares;
      greatest : greatest l.max_sq (map far (pairs_from l.i (n - l.i))) ≡ greatest zero_float (map far (pairs n));
      reached : Reached (pairs n) (pairs_from l.i (n - l.i)) l.at;
      stored : Stored far (pairs n) l.at l.squares;
    }
