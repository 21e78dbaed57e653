-- The bins against the list of their pairs: a bin's count is how many pairs are in it, and its average is their sum, in order, divided by how many they are.
-- Each pair is in one of the bins, so the counts of all bins add up to the number of pairs.
use Prim.Native.Nat.{ℕ, suc, ◌-◌, ◌*◌, ◌/◌, ◌≤◌, ◌<◌}
use native.Mathlib.Omega.{arith}
use mathlib.Core.Path.{◌≡◌, refl, ap, fun_ext, ◌∙◌}
use mathlib.Core.Bool.{Bool, true, false, cond}
use mathlib.Core.List.{List, [], ◌∷◌, map}
use lib.Dec.{eqb, ltb}
use lib.ListN.{length}
use lib.Ieee.{Float, binary64, add, div}
use Rattle.ieee.specs.Floats.{zero_float}
use Rattle.semivariogram_theory.specs.Pairs.{Pair, rising, pairs, filtered}
use Rattle.semivariogram_theory.specs.Call.{Samples, samples}
use Rattle.semivariogram_theory.specs.Bins.{as_float, half_square, bin_of, count_in, sum_in, count, average, kept_bins}
use Rattle.semivariogram_theory.specs.Binned.{pairs_in, added_up, total, is_kept}
use Rattle.semivariogram_theory.proofs.Lists.{total_zeros, one_more, total_above_zero}
use Rattle.semivariogram_theory.proofs.Pairs.{number_of_pairs}

module _ (q : Samples) (b : ℕ) where
  count_filtered : (ps : List Pair) → count_in q b ps ≡ length (filtered (λ p. eqb (bin_of q p) b) ps)
  unfolding count_in filtered
  count_filtered [] = refl
  count_filtered (p ∷ ps) = go (eqb (bin_of q p) b) (count_filtered ps)
    where
      go : (t : Bool) → count_in q b ps ≡ length (filtered (λ p. eqb (bin_of q p) b) ps)
          → cond t (suc (count_in q b ps)) (count_in q b ps) ≡ length (cond t (p ∷ filtered (λ p. eqb (bin_of q p) b) ps) (filtered (λ p. eqb (bin_of q p) b) ps))
      go true e = ap suc e
      go false e = e

  sum_filtered : (sum : Float) (ps : List Pair) → sum_in q b sum ps ≡ added_up sum (map (half_square q) (filtered (λ p. eqb (bin_of q p) b) ps))
  unfolding sum_in filtered added_up
  sum_filtered sum [] = refl
  sum_filtered sum (p ∷ ps) = go (eqb (bin_of q p) b) (λ s. sum_filtered s ps)
    where
      go : (t : Bool) → ((s : Float) → sum_in q b s ps ≡ added_up s (map (half_square q) (filtered (λ p. eqb (bin_of q p) b) ps)))
          → sum_in q b (cond t (add binary64 sum (half_square q p)) sum) ps
          ≡ added_up sum (map (half_square q) (cond t (p ∷ filtered (λ p. eqb (bin_of q p) b) ps) (filtered (λ p. eqb (bin_of q p) b) ps)))
      go true e = e (add binary64 sum (half_square q p))
      go false e = e sum

  -- a bin's count is the number of the pairs whose bin it is
  pub count_is : count q b ≡ length (pairs_in q b)
  unfolding count
  count_is = count_filtered (pairs (samples q))

  -- and its average is the sum over these pairs divided by that number
  pub average_is : average q b ≡ div binary64 (added_up zero_float (map (half_square q) (pairs_in q b))) (as_float (length (pairs_in q b)))
  unfolding average
  average_is = rw (count_is, sum_filtered zero_float (pairs (samples q)))

-- "Kept bins (count above 0), rising"
above_zero : (q : Samples) → kept_bins q ≡ filtered (λ b. ltb 0 (count q b)) (rising 0 q.bins)
unfolding kept_bins
above_zero q = refl

-- so they are the bins that have a pair
pub kept_bins_lem : (q : Samples) → kept_bins q ≡ filtered (is_kept q) (rising 0 q.bins)
kept_bins_lem q = above_zero q ∙ ap (λ (keep : ℕ → Bool). filtered keep (rising 0 q.bins)) (fun_ext (λ b. ap (ltb 0) (count_is q b)))

-- every pair is in one of the bins
pub bin_below : (q : Samples) (p : Pair) → 1 ≤ q.bins → bin_of q p < q.bins
unfolding bin_of
bin_below q p h = omega arith

module _ (q : Samples) (h : 1 ≤ q.bins) where
  all_counts : (ps : List Pair) → total (map (λ b. count_in q b ps) (rising 0 q.bins)) ≡ length ps
  unfolding count_in
  all_counts [] = total_zeros q.bins 0
  all_counts (p ∷ ps) =
      one_more (λ b. count_in q b ps) (bin_of q p) 0 q.bins (omega arith) (omega (arith, bin_below q p h)) ∙ ap suc (all_counts ps)

  -- the counts of the kept bins add up to the number of pairs
  pub kept_counts : total (map (count q) (kept_bins q)) ≡ samples q * (samples q - 1) / 2
  unfolding count
  kept_counts =
      ap (λ (ks : List ℕ). total (map (count q) ks)) (above_zero q)
      ∙ total_above_zero (count q) (rising 0 q.bins)
      ∙ all_counts (pairs (samples q))
      ∙ number_of_pairs (samples q)
