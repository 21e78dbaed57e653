-- The kept bins as code writes them: bin after bin, from the sums and counts of one pass.
use Rattle.std.proofs.Common.{◌≡◌, ℕ, zero, suc, ◌+◌, ◌<◌, ◌≤◌, Bool, true, false, cond, ltb, List, [], ◌∷◌, ◌++◌, length, get_or, set, sym, refl, ap, ◌∙◌, subst, ap₂, append-nil, zero-add, arith, length-append, le-ltb, lt-ltb}
use lib.ListN.{get_or-append}
use lib.Seq.{get_or-append_seam}
use lib.Ieee.{Float, binary64, add, mul, div}
use Rattle.area.specs.Area.{written}
use Rattle.area.proofs.Start.{next_start}
use Rattle.area.proofs.Places.{same_values}
use Rattle.ieee.specs.Floats.{zero_float}
use Rattle.semivariogram_theory.specs.Pairs.{rising, pairs, filtered}
use Rattle.semivariogram_theory.specs.Call.{Samples, Areas, samples, areas_of}
use Rattle.semivariogram_theory.specs.Bins.{as_float, half, width, count_in, sum_in, count, average, centre, kept_bins, filled}
use Rattle.semivariogram.specs.Parts.{no_bin, LeftIn}
use Rattle.semivariogram.specs.declared.binning.Bin.{Bin}
use Rattle.semivariogram_theory.proofs.Lists.{rising_add, filtered_append, from_rank}

-- ---- the numbers that pass a test, one more looked at
module _ (keep : ℕ → Bool) (i : ℕ) where
  looked_at : filtered keep (rising 0 (i + 1)) ≡ filtered keep (rising 0 i) ++ cond (keep i) (i ∷ []) []
  unfolding rising filtered
  looked_at =
      ap (filtered keep) (rising_add 0 i 1 ∙ ap (λ (n : ℕ). rising 0 i ++ (n ∷ [])) (zero-add i))
      ∙ filtered_append keep (rising 0 i) (i ∷ [])

  passes : keep i ≡ true → filtered keep (rising 0 (i + 1)) ≡ filtered keep (rising 0 i) ++ (i ∷ [])
  passes h = looked_at ∙ ap (λ (b : Bool). filtered keep (rising 0 i) ++ cond b (i ∷ []) []) h

  fails : keep i ≡ false → filtered keep (rising 0 (i + 1)) ≡ filtered keep (rising 0 i)
  fails h = looked_at ∙ ap (λ (b : Bool). filtered keep (rising 0 i) ++ cond b (i ∷ []) []) h ∙ append-nil (filtered keep (rising 0 i))

same_tests : (f g : ℕ → Bool) (start k : ℕ) → ((b : ℕ) → b < start + k → f b ≡ g b) → filtered f (rising start k) ≡ filtered g (rising start k)
unfolding rising filtered
same_tests f g start zero h = refl
same_tests f g start (suc k) h =
    ap₂ (λ (t : Bool) (ks : List ℕ). cond t (start ∷ ks) ks) (h start (omega arith)) (same_tests f g (suc start) k (λ b l. h b (omega arith)))

-- ---- an area with a value for each of some numbers at its first places
abbrev pub values_at : {A : Type 0} → (ℕ → A) → List ℕ → List A → List A
values_at f ks xs = written 0 (length ks) (λ r. f (get_or ks r 0)) xs

one_value : {A : Type 0} (f : ℕ → A) (ks : List ℕ) (i n : ℕ) (v : A) (xs ys : List A) → n ≡ length ks → v ≡ f i → ys ≡ values_at f ks xs
    → set ys n v ≡ values_at f (ks ++ (i ∷ [])) xs
one_value {A} f ks i n v xs ys m e h =
    let ls : List ℕ = ks ++ (i ∷ []) in
    let g : ℕ → A = λ r. f (get_or ls r 0) in
    let agree : (j : ℕ) → j < length ks → f (get_or ks j 0) ≡ g j = λ j b. ap f (sym (get_or-append ks (i ∷ []) 0 j b)) in
    let same : ys ≡ written 0 (length ks) g xs = h ∙ same_values 0 (length ks) (λ r. f (get_or ks r 0)) g xs agree in
    ap (λ (k : ℕ). set ys k v) m
    ∙ next_start (length ks) g xs ys v (e ∙ ap f (sym (get_or-append_seam ks i [] 0))) same
    ∙ ap (λ (k : ℕ). written 0 k g xs) (sym (length-append ks (i ∷ [])))

-- values that agree at each of the numbers
same_at : {A : Type 0} (f g : ℕ → A) (keep : ℕ → Bool) (n : ℕ) (xs : List A) → ((b : ℕ) → b < n → f b ≡ g b)
    → values_at f (filtered keep (rising 0 n)) xs ≡ values_at g (filtered keep (rising 0 n)) xs
same_at f g keep n xs h =
    let ks : List ℕ = filtered keep (rising 0 n) in
    same_values 0 (length ks) (λ r. f (get_or ks r 0)) (λ r. g (get_or ks r 0)) xs
    (λ r l. h (get_or ks r 0) (subst (λ (m : ℕ). get_or ks r 0 < m) (zero-add n) (from_rank keep 0 n r l).most))

-- ---- what the first i bins have left in the areas
abbrev pub count_at : List Bin → ℕ → ℕ
count_at bins b = (get_or bins b no_bin).count

abbrev pub has_pair : List Bin → ℕ → Bool
has_pair bins b = ltb 0 (count_at bins b)

abbrev pub kept_of : List Bin → ℕ → List ℕ
kept_of bins i = filtered (has_pair bins) (rising 0 i)

abbrev centre_of : Float → ℕ → Float
centre_of width b = mul binary64 (add binary64 (as_float b) half) width

abbrev average_of : List Bin → ℕ → Float
average_of bins b = div binary64 (get_or bins b no_bin).sum (as_float (count_at bins b))

pub record Progress (width : Float) (bins : List Bin) (i kept : ℕ) (a e : Areas) : Type 0 where
  pub kept_is : kept ≡ length (kept_of bins i)
  pub distances_are : e.distances ≡ values_at (centre_of width) (kept_of bins i) a.distances
  pub semivariances_are : e.semivariances ≡ values_at (average_of bins) (kept_of bins i) a.semivariances
  pub counts_are : e.counts ≡ values_at (count_at bins) (kept_of bins i) a.counts

module _ (width : Float) (bins : List Bin) where
  pub none_yet : (a : Areas) → Progress width bins 0 0 a a
  unfolding rising filtered
  none_yet a = record { kept_is = refl; distances_are = refl; semivariances_are = refl; counts_are = refl }

  -- a bin that has a pair
  pub one_kept : (i kept : ℕ) (a e : Areas) (x y : Float) (n : ℕ) → Progress width bins i kept a e
      → 0 < count_at bins i → x ≡ centre_of width i → y ≡ average_of bins i → n ≡ count_at bins i
      → Progress width bins (i + 1) (kept + 1) a
      record { distances = set e.distances kept x; semivariances = set e.semivariances kept y; counts = set e.counts kept n }
  one_kept i kept a e x y n p h ex ey en =
      let ks : List ℕ = kept_of bins i in
      let more : kept_of bins (i + 1) ≡ ks ++ (i ∷ []) = passes (has_pair bins) i (lt-ltb 0 (count_at bins i) h) in
      record {
        kept_is = ap (λ (k : ℕ). k + 1) p.kept_is ∙ sym (length-append ks (i ∷ [])) ∙ ap length (sym more);
        distances_are = one_value (centre_of width) ks i kept x a.distances e.distances p.kept_is ex p.distances_are
            ∙ ap (λ (ls : List ℕ). values_at (centre_of width) ls a.distances) (sym more);
        semivariances_are = one_value (average_of bins) ks i kept y a.semivariances e.semivariances p.kept_is ey p.semivariances_are
            ∙ ap (λ (ls : List ℕ). values_at (average_of bins) ls a.semivariances) (sym more);
        counts_are = one_value (count_at bins) ks i kept n a.counts e.counts p.kept_is en p.counts_are
            ∙ ap (λ (ls : List ℕ). values_at (count_at bins) ls a.counts) (sym more);
      }

  -- and one that has none
  pub not_kept : (i kept : ℕ) (a e : Areas) → Progress width bins i kept a e → count_at bins i ≤ 0 → Progress width bins (i + 1) kept a e
  not_kept i kept a e p h =
      let same : kept_of bins i ≡ kept_of bins (i + 1) = sym (fails (has_pair bins) i (le-ltb 0 (count_at bins i) h)) in
      record {
        kept_is = p.kept_is ∙ ap length same;
        distances_are = p.distances_are ∙ ap (λ (ls : List ℕ). values_at (centre_of width) ls a.distances) same;
        semivariances_are = p.semivariances_are ∙ ap (λ (ls : List ℕ). values_at (average_of bins) ls a.semivariances) same;
        counts_are = p.counts_are ∙ ap (λ (ls : List ℕ). values_at (count_at bins) ls a.counts) same;
      }

-- ---- all bins, where no pair is left
pub joined : {x y u v : List Float} {n m : List ℕ} → x ≡ y → u ≡ v → n ≡ m → areas_of x u n ≡ areas_of y v m
joined {x} {y} {u} {v} {n} {m} e f g =
    ap (λ (z : List Float). areas_of z u n) e ∙ ap (λ (z : List Float). areas_of y z n) f ∙ ap (λ (z : List ℕ). areas_of y v z) g

module _ (q : Samples) (bins : List Bin) (none : LeftIn q [] bins) where
  number_is : (b : ℕ) → b < q.bins → count_at bins b ≡ count q b
  unfolding count_in
  number_is b l = omega (arith, none.number b l)

  sum_is : (b : ℕ) → b < q.bins → (get_or bins b no_bin).sum ≡ sum_in q b zero_float (pairs (samples q))
  unfolding sum_in
  sum_is b l = none.sum b l

  average_is : (b : ℕ) → b < q.bins → average_of bins b ≡ average q b
  unfolding average
  average_is b l = ap₂ (λ (s : Float) (n : ℕ). div binary64 s (as_float n)) (sum_is b l) (number_is b l)

  kept_are : kept_of bins q.bins ≡ kept_bins q
  unfolding kept_bins
  kept_are =
      let inside : (b : ℕ) → b < 0 + q.bins → b < q.bins = λ b l. subst (λ (m : ℕ). b < m) (zero-add q.bins) l in
      same_tests (has_pair bins) (λ b. ltb 0 (count q b)) 0 q.bins (λ b l. ap (ltb 0) (number_is b (inside b l)))

  centres : (xs : List Float) → values_at (centre_of (width q)) (kept_of bins q.bins) xs ≡ values_at (centre q) (kept_bins q) xs
  unfolding centre
  centres xs = ap (λ (ks : List ℕ). values_at (centre_of (width q)) ks xs) kept_are

  averages : (xs : List Float) → values_at (average_of bins) (kept_of bins q.bins) xs ≡ values_at (average q) (kept_bins q) xs
  averages xs =
      same_at (average_of bins) (average q) (has_pair bins) q.bins xs average_is ∙ ap (λ (ks : List ℕ). values_at (average q) ks xs) kept_are

  numbers_are : (xs : List ℕ) → values_at (count_at bins) (kept_of bins q.bins) xs ≡ values_at (count q) (kept_bins q) xs
  numbers_are xs =
      same_at (count_at bins) (count q) (has_pair bins) q.bins xs number_is ∙ ap (λ (ks : List ℕ). values_at (count q) ks xs) kept_are

  pub all_kept : (kept : ℕ) (a e : Areas) → Progress (width q) bins q.bins kept a e → kept ≡ length (kept_bins q)
  all_kept kept a e p = p.kept_is ∙ ap length kept_are

  pub all_bins : (kept : ℕ) (a e : Areas) → Progress (width q) bins q.bins kept a e → e ≡ filled q a
  unfolding filled
  all_bins kept a e p =
      joined (p.distances_are ∙ centres a.distances) (p.semivariances_are ∙ averages a.semivariances) (p.counts_are ∙ numbers_are a.counts)

-- what stands after all of them
pub all_written : (q : Samples) (bins : List Bin) (wide : Float) (i kept : ℕ) (a e : Areas) → i ≡ length bins → Progress wide bins i kept a e
    → q.bins ≡ length bins → wide ≡ width q → LeftIn q [] bins → (kept ≡ length (kept_bins q)) × (e ≡ filled q a)
all_written q bins wide i kept a e end p long is none =
    let all : Progress (width q) bins q.bins kept a e =
    subst (λ (w : Float). Progress w bins q.bins kept a e) is (subst (λ (k : ℕ). Progress wide bins k kept a e) (end ∙ sym long) p) in
    (all_kept q bins none kept a e all, all_bins q bins none kept a e all)
