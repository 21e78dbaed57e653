-- "greatest distance": of an accepted call no pair is farther, and it is the distance of a pair, or the +0 from which the search begins.
use Prim.Native.Nat.{ℕ, ◌+◌, ◌*◌, ◌<◌}
use native.Mathlib.Omega.{arith}
use mathlib.Core.Path.{◌≡◌, subst}
use mathlib.Core.Logic.{◌⊎◌, inl, inr}
use mathlib.Core.Bool.{false}
use mathlib.Core.List.Memᴰ
use mathlib.Core.List.{map, Memᴰ}
use lib.ListN.{length}
use lib.Ieee.{Float, of_bits}
use Rattle.area.proofs.Rows.{row_end}
use Rattle.ieee.specs.Floats.{zero_float}
use Rattle.ieee.specs.Values.{Signed, number}
use Rattle.variogram.proofs.Distance.{is_offered}
use Rattle.variogram.proofs.Signs.{distance_clear}
use Rattle.semivariogram_theory.specs.Pairs.{Pair, pair, pairs}
use Rattle.semivariogram_theory.specs.Call.{Samples, Areas, samples}
use Rattle.semivariogram_theory.specs.Bins.{lag, longest}
use Rattle.semivariogram_theory.specs.Binned.{Greatest}
use Rattle.semivariogram_theory.proofs.Pairs.{every_pair}
use Rattle.semivariogram_theory.proofs.Greatest.{greatest_clear, none_greater, one_of_them}
use Rattle.semivariogram_theory.proofs.Accepted.{Accepted}

zero_clear : Signed false zero_float
unfolding of_bits
zero_clear = number _ _

module _ (q : Samples) (a : Areas) (k : Accepted q a) where
  -- a distance of an accepted call is a number or infinity, and its sign is clear
  pub lag_clear : (p : Pair) → Memᴰ p (pairs (samples q)) → Signed false (lag q p)
  unfolding lag
  lag_clear p i =
      let d : ℕ = q.dimension in
      let n : ℕ = samples q in
      let long : length q.points ≡ n * d = k.points in
      let r = (every_pair p n).0 i in
      distance_clear q.points p.one q.points p.other d (is_offered d k.dimension.0 k.dimension.1)
      (λ c l. let b : p.one < n = omega arith in k.coordinates (p.one * d + c) (omega (arith, row_end d p.one n b)))
      (λ c l. k.coordinates (p.other * d + c) (omega (arith, row_end d p.other n r.1)))

  lags_clear : (h : Float) → Memᴰ h (map (lag q) (pairs (samples q))) → Signed false h
  lags_clear h i = let t = Memᴰ.of_map (lag q) (pairs (samples q)) i in subst (Signed false) t.2 (lag_clear t.0 t.1)

  -- and so is the greatest
  pub longest_clear : Signed false (longest q)
  unfolding longest
  longest_clear = greatest_clear zero_float (map (lag q) (pairs (samples q))) zero_clear lags_clear

  pub farthest : Greatest q (longest q)
  unfolding longest
  farthest =
      let lags = map (lag q) (pairs (samples q)) in
      record {
        none_farther = λ i j l m.
            none_greater zero_float lags zero_clear lags_clear (lag q (pair i j)) (Memᴰ.map (lag q) ((every_pair (pair i j) (samples q)).1 (l, m)));
        reached = go (one_of_them zero_float lags);
      }
    where
      go : (longest q ≡ zero_float) ⊎ Memᴰ (longest q) (map (lag q) (pairs (samples q)))
          → (longest q ≡ zero_float) ⊎ ((p : Pair) × (p.one < p.other) × (p.other < samples q) × (lag q p ≡ longest q))
      go (inl e) = inl e
      go (inr i) =
          let t = Memᴰ.of_map (lag q) (pairs (samples q)) i in
          let r = (every_pair t.0 (samples q)).0 t.1 in
          inr (t.0, r.0, r.1, t.2)
