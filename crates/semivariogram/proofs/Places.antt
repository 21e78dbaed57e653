-- The numbers of the pairs in a list, each at its pair's place in their order, as code writes and reads them: sample after sample.
use Rattle.std.proofs.Common.{◌≡◌, ℕ, zero, suc, ◌+◌, ◌-◌, ◌*◌, ◌/◌, ◌<◌, ◌≤◌, List, [], ◌∷◌, ◌++◌, length, get_or, drop, set, sym, refl, ap, ◌∙◌, subst, mul-le-mul, mul-suc, add-one, arith, length-drop, drop-cons, get_or-set_other, get_or-set_same}
use native.Mathlib.Decide.{dec_lt}
use lib.Ieee.{Float, nan}
use Rattle.survey.specs.Limits.{library, program}
use Rattle.semivariogram_theory.specs.Pairs.{Pair, pair, pairs_from, pairs}
use Rattle.semivariogram_theory.proofs.Pairs.{twice}
use Rattle.semivariogram.specs.Parts.{most_pairs, few_pairs, Reached, Stored}
use Rattle.semivariogram.proofs.Passes.{later_from, next_sample, no_sample, next_later, no_later, all_pairs}

-- the pairs of 96 samples
pub most_pairs_lem : most_pairs ≡ 4560
most_pairs_lem = refl

-- fewer samples than so many have no more pairs
pairs_rise : (n most : ℕ) → n ≤ most → length (pairs n) ≤ most * (most - 1) / 2
unfolding pairs
pairs_rise zero most h = let t = twice 0 0 in omega arith
pairs_rise (suc m) most h =
    let l : m ≤ most - 1 = omega arith in
    let k : suc m * m ≤ most * (most - 1) = mul-le-mul h l in
    let s : suc m * suc m ≡ suc m * m + suc m = mul-suc (suc m) m in
    omega (arith, twice 0 (suc m))

pub few_pairs_lem : (n : ℕ) → n ≤ library.wells → length (pairs n) ≤ most_pairs
few_pairs_lem n h = pairs_rise n library.wells h

pub fewer_pairs : (n : ℕ) → n ≤ program.wells → length (pairs n) ≤ few_pairs
fewer_pairs n h = pairs_rise n program.wells h

module _ (all : List Pair) where
  -- the pair at a place where it is the next
  pub is_next : (p : Pair) (ps : List Pair) (at : ℕ) → Reached all (p ∷ ps) at → (at < length all) × (get_or all at (pair 0 0) ≡ p) × (drop (suc at) all ≡ ps)
  is_next p ps at h =
      let l : at < length all = omega (arith, length-drop at all, ap length h.rest) in
      let e : get_or all at (pair 0 0) ∷ drop (suc at) all ≡ p ∷ ps = sym (drop-cons all at (pair 0 0) l) ∙ h.rest in
      (l, (cc), (cc))

  -- a place by another name
  pub moved : {at k : ℕ} (ps : List Pair) → at ≡ k → Reached all ps at → Reached all ps k
  moved ps e h = subst (λ (j : ℕ). Reached all ps j) e h

  -- one pair further
  pub one_further : (p : Pair) (ps : List Pair) (at : ℕ) → Reached all (p ∷ ps) at → Reached all ps (at + 1)
  one_further p ps at h = let n = is_next p ps at h in record { rest = rw add-one n.2; inside = omega (arith, n.0) }

  module _ (f : Pair → Float) where
    -- its number is stored
    pub one_stored : (p : Pair) (ps : List Pair) (at : ℕ) (xs : List Float) (v : Float) → Reached all (p ∷ ps) at → at < length xs → v ≡ f p
        → Stored f all at xs → Stored f all (at + 1) (set xs at v)
    one_stored p ps at xs v h l e s k m =
        elim (dec_lt k at) [
          | yes b ↦ get_or-set_other xs at k v nan (λ i. omega arith) ∙ s k b
          | no b ↦
              let i : k ≡ at = omega arith in
              rw i (get_or-set_same xs at v nan l ∙ e ∙ ap f (sym (is_next p ps at h).1))
        ]

    -- and read
    pub one_read : (p : Pair) (ps : List Pair) (at : ℕ) (xs : List Float) → Reached all (p ∷ ps) at → Stored f all (length all) xs → get_or xs at nan ≡ f p
    one_read p ps at xs h s = let n = is_next p ps at h in s at n.0 ∙ ap f n.1

    -- none is left
    pub all_stored : (at : ℕ) (xs : List Float) → Reached all [] at → Stored f all at xs → Stored f all (length all) xs
    all_stored at xs h s k l = s k (omega (arith, length-drop at all, ap length h.rest))

-- ---- sample after sample
module _ (n : ℕ) where
  pub at_first : Reached (pairs n) (pairs_from 0 (n - 0)) 0
  at_first = subst (λ (ps : List Pair). Reached (pairs n) ps 0) (all_pairs n) record { rest = refl; inside = omega arith }

  pub at_last : (i at : ℕ) → n ≤ i → Reached (pairs n) (pairs_from i (n - i)) at → Reached (pairs n) [] at
  at_last i at l h = subst (λ (ps : List Pair). Reached (pairs n) ps at) (no_sample i n l) h

  pub next_start : (i at k : ℕ) → at ≡ k → Reached (pairs n) (pairs_from (suc i) (n - suc i)) at → Reached (pairs n) (pairs_from (i + 1) (n - (i + 1))) k
  next_start i at k e h = rw add-one (moved (pairs n) (pairs_from (suc i) (n - suc i)) e h)

  pub first_of : (i at : ℕ) → i < n → Reached (pairs n) (pairs_from i (n - i)) at
      → Reached (pairs n) (later_from i (i + 1) n ++ pairs_from (suc i) (n - suc i)) at
  first_of i at l h = rw add-one (subst (λ (ps : List Pair). Reached (pairs n) ps at) (next_sample i n l) h)

  module _ (i j : ℕ) (rest : List Pair) (at : ℕ) where
    pub here_of : j < n → Reached (pairs n) (later_from i j n ++ rest) at → Reached (pairs n) (pair i j ∷ (later_from i (suc j) n ++ rest)) at
    here_of l h = subst (λ (ps : List Pair). Reached (pairs n) (ps ++ rest) at) (next_later i j n l) h

    pub next_of : j < n → Reached (pairs n) (later_from i j n ++ rest) at → Reached (pairs n) (later_from i (j + 1) n ++ rest) (at + 1)
    next_of l h = rw (add-one j) (one_further (pairs n) (pair i j) (later_from i (suc j) n ++ rest) at (here_of l h))

    pub last_of : n ≤ j → Reached (pairs n) (later_from i j n ++ rest) at → Reached (pairs n) rest at
    last_of l h = subst (λ (ps : List Pair). Reached (pairs n) (ps ++ rest) at) (no_later i j n l) h
