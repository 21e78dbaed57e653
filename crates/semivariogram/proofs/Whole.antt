-- The call's parts put together: what it starts from, and what it comes to, refused or not.
use Rattle.std.proofs.Common.{◌≡◌, ℕ, zero, suc, ◌+◌, ◌<◌, ◌≤◌, List, length, get_or, take, replicate, sym, ap, ◌∙◌, subst, zero-add, arith}
use lib.ListN.{get_or-replicate}
use Rattle.std.proofs.lemmas.List.{take-replicate, length-take-le, length-replicate}
use Rattle.semivariogram.proofs.KeptBins.{joined}
use lib.Ieee.{Float}
use Rattle.error.specs.Numbers.{number_of}
use Rattle.error.specs.declared.Refusal.{Refusal}
use Rattle.error.proofs.First.{numbers}
use Rattle.survey.specs.declared.Limits.{Limits}
use Rattle.semivariogram_theory.specs.Pairs.{pairs}
use Rattle.semivariogram_theory.specs.Call.{Samples, Areas, Outcome, samples, areas_of, answer_areas}
use Rattle.semivariogram_theory.specs.Refusals.{most_bins, refusal}
use Rattle.semivariogram_theory.specs.Bins.{sum_in, count, kept_bins, filled}
use Rattle.semivariogram.specs.Parts.{Taken, no_bin, empty, LeftIn}
use Rattle.semivariogram.specs.declared.binning.Bin.{Bin}
use Rattle.error.specs.Short.{LongEnough}
use Rattle.semivariogram_theory.specs.Semivariogram.{call_where, calculated}
use Rattle.semivariogram_theory.specs.Binned.{Ends}
use Rattle.semivariogram_theory.proofs.Accepted.{Accepted}
use Rattle.semivariogram_theory.proofs.Calculated.{is_done, ends}

-- ---- the start
-- samples that are taken, with areas that serve them, are those of a call that is not refused
pub accepted_by : (q : Samples) (a : Areas) → Taken q → LongEnough (answer_areas q a) → Accepted q a
accepted_by q a t l = record {
  dimension = t.dimension;
  points = t.points;
  coordinates = t.coordinates;
  bins = t.bins;
  distances = l.0;
  semivariances = l.1.0;
  counts = l.1.1.0;
}

-- before the first pair all sums and counts are 0
pub none_added : (q : Samples) → q.bins ≤ most_bins → LeftIn q (pairs (samples q)) (take q.bins (replicate most_bins empty))
unfolding count
none_added q h =
    let at : (b : ℕ) → b < q.bins → get_or (take q.bins (replicate most_bins empty)) b no_bin ≡ empty =
    λ b l. ap (λ (bs : List Bin). get_or bs b no_bin) (take-replicate q.bins most_bins empty h) ∙ get_or-replicate q.bins b empty no_bin l in
    record {
      sum = λ b l. ap (λ (c : Bin). sum_in q b c.sum (pairs (samples q))) (at b l);
      number = λ b l. ap (λ (c : Bin). c.count + count q b) (at b l) ∙ zero-add (count q b);
    }

-- and there are as many as are laid out
pub laid_out : (n : ℕ) → n ≤ most_bins → length (take n (replicate most_bins empty)) ≡ n
laid_out n h = length-take-le n (replicate most_bins empty) (omega (arith, length-replicate most_bins empty))

-- ---- the end
-- "A refusal carries only its number and writes nothing"
pub refused_is : (limits : Limits) (q : Samples) (a : Areas) (r : Refusal) → number_of r ≡ refusal limits q a
    → (record { number = number_of r; kept = 0; areas = a }) ≡ calculated limits q a
unfolding calculated call_where
refused_is limits q a r e = go (refusal limits q a) e
  where
    go : (n : ℕ) → number_of r ≡ n → (record { number = number_of r; kept = 0; areas = a }) ≡ call_where n q a
    go zero f = absurd (numbers r f)
    go (suc k) f = ap (λ (n : ℕ). record { number = n; kept = 0; areas = a }) f

pub done_is : (limits : Limits) (q : Samples) (a e : Areas) (n : ℕ) {x y : List Float} {z : List ℕ} → x ≡ e.distances → y ≡ e.semivariances → z ≡ e.counts
    → refusal limits q a ≡ 0 → n ≡ length (kept_bins q) → e ≡ filled q a → (record { number = 0; kept = n; areas = areas_of x y z }) ≡ calculated limits q a
done_is limits q a e n u v w h f g =
    ap (λ (d : Areas). record { number = 0; kept = n; areas = d }) (joined u v w ∙ g)
    ∙ ap (λ (m : ℕ). record { number = 0; kept = m; areas = filled q a }) f
    ∙ sym (is_done limits q a h)

-- what equals the definition has all that holds of it
pub has_ends : (limits : Limits) (q : Samples) (a : Areas) (o : Outcome) → o ≡ calculated limits q a → (o ≡ calculated limits q a) × Ends limits q a o
has_ends limits q a o e = (e, subst (Ends limits q a) (sym e) (ends limits q a))
