-- `semivariogram::distances::squares_from` meets its contract: the pairs before j have their squares stored, and the greatest so far, with the pairs that
-- are left, is the greatest of all.
use Rattle.std.proofs.Common.{◌≡◌, suc, ◌+◌, ◌-◌, ◌≤◌, ◌++◌, map, length}
use Rattle.semivariogram_theory.specs.Pairs.{pairs_from, pairs}
use Rattle.semivariogram_theory.specs.Bins.{greatest}
use Rattle.semivariogram.specs.Parts.{square_in, Reached, Stored}
use Rattle.semivariogram.proofs.Passes.{later, later_from}
use Rattle.semivariogram.proofs.distances.squares_from.Given as goal

abbrev pub invariant-loop-j : goal.invariant-loop-j
invariant-loop-j l =
    let n = length l.samples.values.now in
    let far = square_in l.samples.points.now l.samples.d in
    let place = l.at + (l.j - (l.i + 1)) in
    record {
      begun : suc l.i ≤ l.j;
      inside : l.j ≤ n;
      room : length l.squares ≡ length l.initial.squares;
      greatest : greatest l.max_sq (map far (later_from l.i l.j n)) ≡ greatest l.most (map far (later l.i n));
      reached : Reached (pairs n) (later_from l.i l.j n ++ pairs_from (suc l.i) (n - suc l.i)) place;
      stored : Stored far (pairs n) place l.squares;
    }
