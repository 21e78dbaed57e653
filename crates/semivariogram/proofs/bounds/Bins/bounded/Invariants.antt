-- `semivariogram::bounds::Bins::bounded` meets its contract: each bin before b has its low bound, and each but the last of them its high one.
use Rattle.std.proofs.Common.{◌≡◌, ℕ, ◌-◌, ◌<◌, ◌≤◌, length, get_or}
use lib.Ieee.{nan}
use Rattle.semivariogram.specs.Parts.{IsLow, IsHigh}
use Rattle.semivariogram.proofs.bounds.Bins.bounded.Given as goal

abbrev pub invariant-loop-b : goal.invariant-loop-b
invariant-loop-b l = record {
  begun : 1 ≤ l.b;
  inside : l.b ≤ l.self.count;
  lows : length l.lows ≡ l.self.count;
  highs : length l.highs ≡ l.self.count;
  low : (k : ℕ) → k < l.b → IsLow l.self.width l.self.count k (get_or l.lows k nan);
  high : (k : ℕ) → k < l.b - 1 → IsHigh l.self.width l.self.count k (get_or l.highs k nan);
}
