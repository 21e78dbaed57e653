-- How the semivariogram's call ends: each number exactly when; a refusal writes nothing; and of an accepted call the counts written add up to n(n−1)/2, each
-- kept bin is written at its rank with its centre, its average over the pairs whose bin it is, and their number, and nothing else is written.
use Prim.Native.Nat.{ℕ, zero, suc, ◌-◌, ◌≤◌, ◌<◌}
use native.Mathlib.Nat.{zero-add, sub-zero}
use native.Mathlib.Omega.{arith}
use mathlib.Core.Path.{◌≡◌, refl, ap, sym, subst, ◌∙◌}
use mathlib.Core.Logic.{◌≢◌, ◌↔◌}
use mathlib.Core.List.{List}
use lib.ListN.{length, get_or}
use lib.Ieee.{nan, binary64, add, mul, div}
use borrow.Author.Tests.{lt-ltb, ltb-true}
use Rattle.area.specs.Area.{written}
use Rattle.area.proofs.Start.{from_start, kept_start, take_mapped}
use Rattle.error.specs.Rules.{Ruled}
use Rattle.error.proofs.Rules.{ruled_exactly}
use Rattle.survey.specs.declared.Limits.{Limits}
use Rattle.semivariogram_theory.specs.Pairs.{rising, filtered}
use Rattle.semivariogram_theory.specs.Call.{Samples, Areas, Outcome}
use Rattle.semivariogram_theory.specs.Rules.{rules}
use Rattle.semivariogram_theory.specs.Refusals.{refusal}
use Rattle.semivariogram_theory.specs.Bins.{as_float, half, longest, width, count, average, centre, kept_bins, filled}
use Rattle.semivariogram_theory.specs.Semivariogram.{call_where, calculated}
use Rattle.semivariogram_theory.specs.Binned.{pairs_in, total, is_kept, rank, Row, KeptAt, Binned, Ends}
use Rattle.semivariogram_theory.proofs.Lists.{length-rising, filtered_length, Ranked, at_rank, from_rank}
use Rattle.semivariogram_theory.proofs.Bins.{count_is, average_is, kept_bins_lem, kept_counts}
use Rattle.semivariogram_theory.proofs.Told.{told}
use Rattle.semivariogram_theory.proofs.Accepted.{Accepted, accepted, accepted_exactly}
use Rattle.semivariogram_theory.proofs.Farthest.{farthest}
use Rattle.semivariogram_theory.proofs.BinOf.{bin_of_lem}

-- ---- the kept bins
fewer : (q : Samples) → length (kept_bins q) ≤ q.bins
fewer q = omega (arith, ap length (kept_bins_lem q), filtered_length (is_kept q) (rising 0 q.bins), length-rising 0 q.bins)

-- a kept bin stands at its rank
kept_rank : (q : Samples) (b : ℕ) → b < q.bins → 0 < length (pairs_in q b) → (get_or (kept_bins q) (rank q b) 0 ≡ b) × (rank q b < length (kept_bins q))
kept_rank q b l m =
    subst (λ (ks : List ℕ). (get_or ks (rank q b) 0 ≡ b) × (rank q b < length ks)) (sym (kept_bins_lem q))
    (at_rank (is_kept q) b q.bins l (lt-ltb 0 (length (pairs_in q b)) m))

-- each place is a kept bin's
kept_place : (q : Samples) (r : ℕ) → r < length (kept_bins q) → (b : ℕ) × KeptAt q r b
kept_place q r l =
    let ks : List ℕ = filtered (is_kept q) (rising 0 q.bins) in
    let b : ℕ = get_or ks r 0 in
    let k : Ranked (is_kept q) 0 q.bins b r = from_rank (is_kept q) 0 q.bins r (subst (λ (n : ℕ). r < n) (ap length (kept_bins_lem q)) l) in (
      b,
      record {
        bin = subst (λ (n : ℕ). b < n) (zero-add q.bins) k.most;
        pair = ltb-true 0 (length (pairs_in q b)) k.passes;
        rank = ap (λ (n : ℕ). length (filtered (is_kept q) (rising 0 n))) (sym (sub-zero b)) ∙ k.rank;
      },
    )

ranks_rise : (q : Samples) (b c : ℕ) → b < c → 0 < length (pairs_in q b) → rank q b < rank q c
ranks_rise q b c h m = (at_rank (is_kept q) b c h (lt-ltb 0 (length (pairs_in q b)) m)).1

-- ---- what is written
-- "(i + 0.5)·width", with the width written out
centre_is : (q : Samples) (b : ℕ) → centre q b ≡ mul binary64 (add binary64 (as_float b) half) (div binary64 (longest q) (as_float q.bins))
unfolding centre width
centre_is q b = refl

at_row : {A : Type 0} (g : ℕ → A) (ks : List ℕ) (xs : List A) (d : A) (r b : ℕ) → length ks ≤ length xs → r < length ks → get_or ks r 0 ≡ b
    → get_or (written 0 (length ks) (λ r. g (get_or ks r 0)) xs) r d ≡ g b
at_row g ks xs d r b l h e = from_start (length ks) (λ r. g (get_or ks r 0)) xs r d l h ∙ ap g e

filled_row : (q : Samples) (a : Areas) → Accepted q a → (r b : ℕ) → r < length (kept_bins q) → get_or (kept_bins q) r 0 ≡ b → Row q (filled q a) r b
unfolding filled
filled_row q a k r b h e =
    let few : length (kept_bins q) ≤ q.bins = fewer q in
    record {
      distance = at_row (centre q) (kept_bins q) a.distances nan r b (omega arith) h e ∙ centre_is q b;
      semivariance = at_row (average q) (kept_bins q) a.semivariances nan r b (omega arith) h e ∙ average_is q b;
      count = at_row (count q) (kept_bins q) a.counts 0 r b (omega arith) h e ∙ count_is q b;
    }

abbrev done : Samples → Areas → Outcome
done q a = record { number = 0; kept = length (kept_bins q); areas = filled q a }

binned : (q : Samples) (a : Areas) → Accepted q a → Binned q a (done q a)
unfolding filled
binned q a k =
    let few : length (kept_bins q) ≤ q.bins = fewer q in
    let n : ℕ = length (kept_bins q) in
    record {
      greatest = farthest q a k;
      bins = bin_of_lem q a k;
      counts = ap total (take_mapped (count q) (kept_bins q) a.counts (omega arith)) ∙ kept_counts q k.bins.0;
      rows = λ b l m. let r = kept_rank q b l m in (r.1, filled_row q a k (rank q b) b r.1 r.0);
      places = kept_place q;
      rising = ranks_rise q;
      distances = kept_start n (λ r. centre q (get_or (kept_bins q) r 0)) a.distances;
      semivariances = kept_start n (λ r. average q (get_or (kept_bins q) r 0)) a.semivariances;
      others = kept_start n (λ r. count q (get_or (kept_bins q) r 0)) a.counts;
    }

-- ---- the call
-- the number answered is the refusal's
number_is : (limits : Limits) (q : Samples) (a : Areas) → (calculated limits q a).number ≡ refusal limits q a
unfolding calculated call_where
number_is limits q a = go (refusal limits q a)
  where
    go : (n : ℕ) → (call_where n q a).number ≡ n
    go zero = refl
    go (suc k) = refl

pub is_done : (limits : Limits) (q : Samples) (a : Areas) → refusal limits q a ≡ 0 → calculated limits q a ≡ done q a
unfolding calculated call_where
is_done limits q a h = ap (λ (n : ℕ). call_where n q a) h

-- "A refusal carries only its number and writes nothing"
refused : (limits : Limits) (q : Samples) (a : Areas) → (calculated limits q a).number ≢ 0
    → ((calculated limits q a).kept ≡ 0) × ((calculated limits q a).areas ≡ a)
unfolding calculated call_where
refused limits q a h = go (refusal limits q a) h
  where
    go : (n : ℕ) → (call_where n q a).number ≢ 0 → ((call_where n q a).kept ≡ 0) × ((call_where n q a).areas ≡ a)
    go zero h = absurd (h refl)
    go (suc k) h = (refl, refl)

ruled : (limits : Limits) (q : Samples) (a : Areas) (k : ℕ) → ((calculated limits q a).number ≡ k) ↔ Ruled (rules limits q a) k
unfolding refusal
ruled limits q a k =
    let r = ruled_exactly (told limits q a) k in
    (λ e. r.0 (sym (number_is limits q a) ∙ e), λ x. number_is limits q a ∙ r.1 x)

pub ends : (limits : Limits) (q : Samples) (a : Areas) → Ends limits q a (calculated limits q a)
ends limits q a =
    let is : (calculated limits q a).number ≡ refusal limits q a = number_is limits q a in
    let none = accepted_exactly limits q a in
    record {
      ruled = ruled limits q a;
      accepted = (λ e. none.0 (sym is ∙ e), λ x. is ∙ none.1 x);
      refused = refused limits q a;
      binned = λ e.
          let h : refusal limits q a ≡ 0 = sym is ∙ e in
          subst (Binned q a) (sym (is_done limits q a h)) (binned q a (accepted limits q a h));
    }
