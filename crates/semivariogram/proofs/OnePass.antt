-- One pass over the pairs fills every bin: after some pairs, each bin's sum and count are those over the pairs so far whose bin it is, so that with the pairs
-- that are left they come to those over all pairs.
use Rattle.std.proofs.Common.{◌≡◌, ℕ, suc, ◌+◌, ◌-◌, ◌<◌, ◌≤◌, Bool, true, false, cond, eqb, ◌≢◌, ◌⊎◌, List, [], ◌∷◌, ◌++◌, length, get_or, set, sym, ap, ◌∙◌, subst, inl, inr, ⊎_elim, add-one, arith, get_or-set_other, get_or-set_same, eq-eqb, ne_eqb}
use native.Mathlib.Decide.{dec_lt}
use lib.Ieee.{Float, nan, binary64, add}
use Rattle.survey.specs.Limits.{library}
use Rattle.semivariogram_theory.specs.Pairs.{Pair, pair, pairs_from, pairs}
use Rattle.semivariogram_theory.specs.Call.{Samples, samples}
use Rattle.semivariogram_theory.specs.Bins.{lag, half_square, width, bin_of, count_in, sum_in, count}
use Rattle.semivariogram.specs.Parts.{most_pairs, bin_at, no_bin, Left, LeftIn}
use Rattle.semivariogram.specs.declared.binning.Bin.{Bin}
use Rattle.semivariogram.proofs.Passes.{later_from, next_sample, no_sample, next_later, no_later}
use Rattle.semivariogram.proofs.Places.{few_pairs_lem}

same_or_not : (a b : ℕ) → (a ≡ b) ⊎ (a ≢ b)
same_or_not a b =
    elim (dec_lt a b) [
      | yes l ↦ inr (λ e. omega arith)
      | no m ↦
          elim (dec_lt b a) [
            | yes l ↦ inr (λ e. omega arith)
            | no n ↦ inl (omega arith)
          ]
    ]

-- ---- one bin, one pair more
sum_own : (q : Samples) (b : ℕ) (s : Float) (p : Pair) (ps : List Pair) → bin_of q p ≡ b
    → sum_in q b s (p ∷ ps) ≡ sum_in q b (add binary64 s (half_square q p)) ps
unfolding sum_in
sum_own q b s p ps e = rw (eq-eqb (bin_of q p) b e)

sum_other : (q : Samples) (b : ℕ) (s : Float) (p : Pair) (ps : List Pair) → ¬ (bin_of q p ≡ b) → sum_in q b s (p ∷ ps) ≡ sum_in q b s ps
unfolding sum_in
sum_other q b s p ps e = rw (ne_eqb (bin_of q p) b e)

count_own : (q : Samples) (b : ℕ) (p : Pair) (ps : List Pair) → bin_of q p ≡ b → count_in q b (p ∷ ps) ≡ suc (count_in q b ps)
unfolding count_in
count_own q b p ps e = rw (eq-eqb (bin_of q p) b e)

count_other : (q : Samples) (b : ℕ) (p : Pair) (ps : List Pair) → ¬ (bin_of q p ≡ b) → count_in q b (p ∷ ps) ≡ count_in q b ps
unfolding count_in
count_other q b p ps e = rw (ne_eqb (bin_of q p) b e)

-- ---- all bins, one pair more: their sums and counts as two lists
module _ (q : Samples) (p : Pair) (ps : List Pair) (sums : List Float) (counts : List ℕ) (k : ℕ) (is : k ≡ bin_of q p) where
  added_sum : (b : ℕ) → b < length sums
      → sum_in q b (get_or (set sums k (add binary64 (get_or sums k nan) (half_square q p))) b nan) ps ≡ sum_in q b (get_or sums b nan) (p ∷ ps)
  added_sum b l =
      let v : Float = add binary64 (get_or sums k nan) (half_square q p) in
      ⊎_elim
      (λ e. rw e (ap (λ (s : Float). sum_in q k s ps) (get_or-set_same sums k v nan (rw e at l)) ∙ sym (sum_own q k (get_or sums k nan) p ps (sym is))))
      (λ m. ap (λ (s : Float). sum_in q b s ps) (get_or-set_other sums k b v nan m) ∙ sym (sum_other q b (get_or sums b nan) p ps (λ e. m (sym e ∙ sym is))))
      (same_or_not b k)

  added_count : (b : ℕ) → b < length counts → get_or (set counts k (get_or counts k 0 + 1)) b 0 + count_in q b ps ≡ get_or counts b 0 + count_in q b (p ∷ ps)
  added_count b l =
      let v : ℕ = get_or counts k 0 + 1 in
      ⊎_elim
      (λ e. let f = get_or-set_same counts k v 0 (rw e at l) in rw e (omega (arith, f, count_own q k p ps (sym is))))
      (λ m. omega (arith, get_or-set_other counts k b v 0 m, count_other q b p ps (λ e. m (sym e ∙ sym is))))
      (same_or_not b k)

  -- the pair's own bin has it, and the others are as they were
  pub one_pair : q.bins ≤ length sums → q.bins ≤ length counts → Left q (p ∷ ps) sums counts
      → Left q ps (set sums k (add binary64 (get_or sums k nan) (half_square q p))) (set counts k (get_or counts k 0 + 1))
  one_pair ls lc h = record {
    sum = λ b l. added_sum b (omega arith) ∙ h.sum b l;
    number = λ b l. added_count b (omega arith) ∙ h.number b l;
  }

-- and as one list of bins
-- a bin with one pair more, whose half square is v
abbrev pub more_by : Bin → Float → Bin
more_by b v = record { sum = add binary64 b.sum v; count = b.count + 1 }

module _ (q : Samples) (p : Pair) (ps : List Pair) (bins : List Bin) (k : ℕ) (is : k ≡ bin_of q p) where
  abbrev after : List Bin
  after = set bins k (more_by (get_or bins k no_bin) (half_square q p))

  added_sum_in : (b : ℕ) → b < length bins → sum_in q b (get_or after b no_bin).sum ps ≡ sum_in q b (get_or bins b no_bin).sum (p ∷ ps)
  added_sum_in b l =
      let v : Bin = more_by (get_or bins k no_bin) (half_square q p) in
      ⊎_elim
      (λ e. rw e (ap (λ (c : Bin). sum_in q k c.sum ps) (get_or-set_same bins k v no_bin (rw e at l))
      ∙ sym (sum_own q k (get_or bins k no_bin).sum p ps (sym is))))
      (λ m. ap (λ (c : Bin). sum_in q b c.sum ps) (get_or-set_other bins k b v no_bin m)
      ∙ sym (sum_other q b (get_or bins b no_bin).sum p ps (λ e. m (sym e ∙ sym is))))
      (same_or_not b k)

  added_count_in : (b : ℕ) → b < length bins → (get_or after b no_bin).count + count_in q b ps ≡ (get_or bins b no_bin).count + count_in q b (p ∷ ps)
  added_count_in b l =
      let v : Bin = more_by (get_or bins k no_bin) (half_square q p) in
      ⊎_elim
      (λ e. let f = ap (λ (c : Bin). c.count) (get_or-set_same bins k v no_bin (rw e at l)) in rw e (omega (arith, f, count_own q k p ps (sym is))))
      (λ m. omega (arith, ap (λ (c : Bin). c.count) (get_or-set_other bins k b v no_bin m), count_other q b p ps (λ e. m (sym e ∙ sym is))))
      (same_or_not b k)

  -- the pair's own bin has it, and the others are as they were
  pub one_pair_in : q.bins ≤ length bins → LeftIn q (p ∷ ps) bins → LeftIn q ps after
  one_pair_in l h = record {
    sum = λ b m. added_sum_in b (omega arith) ∙ h.sum b m;
    number = λ b m. added_count_in b (omega arith) ∙ h.number b m;
  }

-- ---- a pair as code works it out
pub bin_from : (q : Samples) (p : Pair) (h w : Float) (bins : ℕ) → h ≡ lag q p → w ≡ width q → bins ≡ q.bins → bin_at w bins h ≡ bin_of q p
unfolding bin_of
bin_from q p h w bins e f g = rw (e, f, g)

-- ---- a count is at most the number of pairs
count_most : (q : Samples) (b : ℕ) (ps : List Pair) → count_in q b ps ≤ length ps
unfolding count_in
count_most q b [] = omega arith
count_most q b (p ∷ ps) = go (eqb (bin_of q p) b) (count_most q b ps)
  where
    go : (t : Bool) → count_in q b ps ≤ length ps → cond t (suc (count_in q b ps)) (count_in q b ps) ≤ suc (length ps)
    go true h = omega arith
    go false h = omega arith

-- so that it fits a word
pub count_fits : (q : Samples) (ps : List Pair) (bins : List Bin) (b : ℕ) → samples q ≤ library.wells → b < q.bins → LeftIn q ps bins
    → (get_or bins b no_bin).count ≤ most_pairs
unfolding count
count_fits q ps bins b n l h = omega (arith, h.number b l, count_most q b (pairs (samples q)), few_pairs_lem (samples q) n)

-- ---- the pairs as code goes through them
module _ (q : Samples) (i j : ℕ) (rest : List Pair) (bins : List Bin) (k : ℕ) (v : Float) where
  -- one pair more: k is its bin, and v its half square
  pub one_later : k ≡ bin_of q (pair i j) → v ≡ half_square q (pair i j) → j < samples q → q.bins ≤ length bins
      → LeftIn q (later_from i j (samples q) ++ rest) bins
      → LeftIn q (later_from i (j + 1) (samples q) ++ rest) (set bins k (more_by (get_or bins k no_bin) v))
  one_later is e l m h =
      let ps : List Pair = later_from i (suc j) (samples q) ++ rest in
      let g : LeftIn q (pair i j ∷ ps) bins = subst (λ (ps : List Pair). LeftIn q (ps ++ rest) bins) (next_later i j (samples q) l) h in
      rw (add-one j, e) (one_pair_in q (pair i j) ps bins k is m g)

module _ (q : Samples) (i : ℕ) (bins : List Bin) where
  -- before the first of a sample's pairs
  pub first_later : i < samples q → LeftIn q (pairs_from i (samples q - i)) bins
      → LeftIn q (later_from i (i + 1) (samples q) ++ pairs_from (suc i) (samples q - suc i)) bins
  first_later l h = rw add-one (subst (λ (ps : List Pair). LeftIn q ps bins) (next_sample i (samples q) l) h)

  -- after the last
  pub last_later : (j : ℕ) (rest : List Pair) → samples q ≤ j → LeftIn q (later_from i j (samples q) ++ rest) bins → LeftIn q rest bins
  last_later j rest l h = subst (λ (ps : List Pair). LeftIn q (ps ++ rest) bins) (no_later i j (samples q) l) h

  -- after the last sample
  pub last_sample : samples q ≤ i → LeftIn q (pairs_from i (samples q - i)) bins → LeftIn q [] bins
  last_sample l h = subst (λ (ps : List Pair). LeftIn q ps bins) (no_sample i (samples q) l) h
