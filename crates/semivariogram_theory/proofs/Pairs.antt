-- The pairs: which they are, "Pairs i < j", and how many, "n(n−1)/2".
use Prim.Native.Nat.{ℕ, zero, suc, ◌+◌, ◌-◌, ◌*◌, ◌/◌, ◌≤◌, ◌<◌}
use native.Mathlib.Nat.{zero-add}
use native.Mathlib.Decide.{dec_lt}
use native.Mathlib.Omega.{arith}
use mathlib.Core.Path.{◌≡◌, refl, ap, subst}
use mathlib.Core.Logic.{◌↔◌, ◌⊎◌, inl, inr}
use mathlib.Core.List.Memᴰ
use mathlib.Core.List.{List, [], ◌∷◌, map, Memᴰ}
use lib.ListN.{length, length-append, length-map}
use Rattle.semivariogram_theory.specs.Pairs.{Pair, pair, rising, pairs_from, pairs}
use Rattle.semivariogram_theory.proofs.Lists.{length-rising}

-- twice the pairs of k samples, and one for each sample, is k times k
pub twice : (i k : ℕ) → 2 * length (pairs_from i k) + k ≡ k * k
unfolding pairs_from
twice i zero = refl
twice i (suc k) =
    let row : List Pair = map (pair i) (rising (suc i) k) in
    omega (arith, length-append row (pairs_from (suc i) k), length-map (rising (suc i) k) (pair i), length-rising (suc i) k, twice (suc i) k)

halved : (l n : ℕ) → 2 * l + n ≡ n * n → l ≡ n * (n - 1) / 2
halved l zero h = omega arith
halved l (suc m) h = let e : suc m - 1 ≡ m = omega arith in rw e (let g : suc m * m ≡ 2 * l = omega arith in omega arith)

-- there are n(n−1)/2 of them
pub number_of_pairs : (n : ℕ) → length (pairs n) ≡ n * (n - 1) / 2
unfolding pairs
number_of_pairs n = halved (length (pairs_from 0 n)) n (twice 0 n)

-- ---- which they are
-- "Pairs i < j in that order"
pub pairs_of_four : pairs 4 ≡ pair 0 1 ∷ pair 0 2 ∷ pair 0 3 ∷ pair 1 2 ∷ pair 1 3 ∷ pair 2 3 ∷ []
unfolding pairs
pairs_of_four = refl

in_rising : (start k j : ℕ) → start ≤ j → j < start + k → Memᴰ j (rising start k)
unfolding rising
in_rising start zero j l h = absurd (omega arith)
in_rising start (suc k) j l h =
    elim (dec_lt start j) [
      | yes p ↦ Memᴰ.tail (in_rising (suc start) k j p (omega arith))
      | no m ↦ let e : j ≡ start = omega arith in Memᴰ.head e
    ]

of_rising : (start k j : ℕ) → Memᴰ j (rising start k) → (start ≤ j) × (j < start + k)
unfolding rising
of_rising start zero j m = absurd (Memᴰ.not-nil m)
of_rising start (suc k) j m = go (Memᴰ.cases_cons m) (of_rising (suc start) k j)
  where
    go : (j ≡ start) ⊎ Memᴰ j (rising (suc start) k) → (Memᴰ j (rising (suc start) k) → (suc start ≤ j) × (j < suc start + k))
        → (start ≤ j) × (j < start + suc k)
    go (inl e) ih = omega arith
    go (inr t) ih = let r = ih t in omega arith

in_pairs : (i j start k : ℕ) → start ≤ i → i < j → j < start + k → Memᴰ (pair i j) (pairs_from start k)
unfolding pairs_from
in_pairs i j start zero l h g = absurd (omega arith)
in_pairs i j start (suc k) l h g =
    elim (dec_lt start i) [
      | yes p ↦ Memᴰ.append_right (map (pair start) (rising (suc start) k)) (in_pairs i j (suc start) k p h (omega arith))
      | no m ↦
          let e : i ≡ start = omega arith in
          Memᴰ.append_left (pairs_from (suc start) k)
          (Memᴰ.cast (ap (λ (n : ℕ). pair n j) e) (Memᴰ.map (pair start) (in_rising (suc start) k j (omega arith) (omega arith))))
    ]

of_pairs : (p : Pair) (start k : ℕ) → Memᴰ p (pairs_from start k) → (start ≤ p.one) × (p.one < p.other) × (p.other < start + k)
unfolding pairs_from
of_pairs p start zero m = absurd (Memᴰ.not-nil m)
of_pairs p start (suc k) m = go (Memᴰ.append_cases (map (pair start) (rising (suc start) k)) m) (of_pairs p (suc start) k)
  where
    row : (j : ℕ) × Memᴰ j (rising (suc start) k) × (pair start j ≡ p) → (start ≤ p.one) × (p.one < p.other) × (p.other < start + suc k)
    row t =
        let r = of_rising (suc start) k t.0 t.1 in
        let e : start ≡ p.one = ap (λ (x : Pair). x.one) t.2 in
        let f : t.0 ≡ p.other = ap (λ (x : Pair). x.other) t.2 in
        omega arith

    go : Memᴰ p (map (pair start) (rising (suc start) k)) ⊎ Memᴰ p (pairs_from (suc start) k)
        → (Memᴰ p (pairs_from (suc start) k) → (suc start ≤ p.one) × (p.one < p.other) × (p.other < suc start + k))
        → (start ≤ p.one) × (p.one < p.other) × (p.other < start + suc k)
    go (inl t) ih = row (Memᴰ.of_map (pair start) (rising (suc start) k) t)
    go (inr t) ih = let r = ih t in omega arith

-- every two samples are a pair, the earlier one first, and there is no other
pub every_pair : (p : Pair) (n : ℕ) → Memᴰ p (pairs n) ↔ ((p.one < p.other) × (p.other < n))
unfolding pairs
every_pair p n = (
  λ m. let r = of_pairs p 0 n m in (r.1, subst (λ (k : ℕ). p.other < k) (zero-add n) r.2),
  λ r. in_pairs p.one p.other 0 n (omega arith) r.0 (omega arith),
)
