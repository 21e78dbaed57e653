-- `semivariogram::bounds::Bins::bounded` meets its contract: each bin before b has its low bound, and each but the last of them its high one.
use Rattle.std.proofs.Common.{◌≡◌, ℕ, ◌+◌, ◌-◌, ◌<◌, length, get_or, set, subst, arith, length-set}
use lib.Ieee.{nan}
use Rattle.semivariogram.specs.Parts.{IsLow, IsHigh}
use Rattle.semivariogram.proofs.BinBounds.{next_set, low_first, high_last}
use Rattle.semivariogram.proofs.bounds.Bins.bounded.Goals as goal

pub loop-b-init : goal.loop-b-init
loop-b-init c =
    let bins = c.args.self.now in
    record {
      begun = omega arith;
      inside = omega (arith, bins.some);
      lows = simp length-set c.requires.0;
      highs = c.requires.1;
      low = next_set (IsLow bins.width bins.count) 0 c.args.lows.now _ (omega (arith, bins.some)) (low_first bins.width bins.count _)
          (λ k l. absurd (omega arith));
      high = λ k l. absurd (omega arith);
    }

pub loop-b-preserved : goal.loop-b-preserved
loop-b-preserved c =
    let bins = c.args.self.now in
    let l = c.loop-b in
    let v = l.invariant in
    let e : l.b - 1 + 1 ≡ l.b + 1 - 1 = omega (arith, v.begun) in
    record {
      begun = omega (arith, v.begun);
      inside = omega arith;
      lows = simp length-set v.lows;
      highs = simp length-set v.highs;
      low = next_set (IsLow bins.width bins.count) l.b l.lows c.beside.result (omega (arith, v.lows)) c.beside.ensures v.low;
      high = subst (λ (n : ℕ). (k : ℕ) → k < n → IsHigh bins.width bins.count k (get_or (set l.highs (l.b - 1) c.beside-in-loop-b.result) k nan)) e
          (next_set (IsHigh bins.width bins.count) (l.b - 1) l.highs c.beside-in-loop-b.result (omega (arith, v.highs, v.begun))
          c.beside-in-loop-b.ensures v.high);
    }

pub invariant_of-result-2 : goal.invariant_of-result-2
invariant_of-result-2 c =
    let bins = c.args.self.now in
    let v = c.loop-b.invariant in
    let last : ℕ = bins.count - 1 in
    let end : c.loop-b.b ≡ bins.count = omega (arith, v.inside) in
    let room : last < length c.loop-b.highs = omega (arith, v.highs, bins.some) in
    record {
      each = simp length-set (omega (arith, v.lows, v.highs));
      low = λ b l. v.low b (omega (arith, v.lows));
      high = λ b l. next_set (IsHigh bins.width bins.count) last c.loop-b.highs _ room (high_last bins.width bins.count _)
          (λ k m. v.high k (omega arith)) b (omega (arith, v.highs, length-set {A = lib.Ieee.Float}));
    }
