-- "The lowest applying number wins": where the numbers of a list of rules rise but for one that does not apply.
use Prim.Native.Nat.{ℕ, ◌<◌}
use native.Mathlib.Omega.{arith}
use mathlib.Core.Path.{◌≡◌, refl, sym, subst, ◌∙◌}
use mathlib.Core.Logic.{◌≢◌, inl, inr, ◌↔◌}
use mathlib.Core.Bool.{Bool, true, false, cond}
use mathlib.Core.List.{List, [], ◌∷◌}
use lib.Dec.{T, eqb, ltb, eqb→eq, ltb→lt, lt→ltb}
use lib.Ieee.Fits.{and_i, and_l, and_r}
use Rattle.error.specs.Tests.{Test, first_of}
use Rattle.error.specs.Rules.{Told, Rule, Ruled, Condition, Lowest}
use Rattle.error.specs.Rules.{positive, lacks, rising, without}
use Rattle.error.proofs.Rules.{ruled_exactly, Which, own, later, which, own_condition, later_condition, held_number}

-- ---- where the numbers rise
next_rises : (n : ℕ) (r : Rule) (rs : List Rule) → T (rising n (r ∷ rs)) → (n < r.number) × T (rising r.number rs)
next_rises n r rs p =
    (ltb→lt n r.number (and_l (ltb n r.number) (rising r.number rs) p), and_r (ltb n r.number) (rising r.number rs) p)

rising_positive : (n : ℕ) (rs : List Rule) → T (rising n rs) → T (positive rs)
rising_positive n [] p = tt
rising_positive n (r ∷ rs) p =
    let q = next_rises n r rs p in
    let l = q.0 in
    and_i (ltb 0 r.number) (positive rs) (lt→ltb 0 r.number (omega arith)) (rising_positive r.number rs q.1)

-- what holds has a number above those before
above : (n : ℕ) (rs : List Rule) → T (rising n rs) → (k : ℕ) → Condition rs k → n < k
above n [] p k c = absurd c
above n (r ∷ rs) p k c = let q = next_rises n r rs p in go (which r rs k c) q.0 (λ x. above r.number rs q.1 k x)
  where
    go : Which r rs k → n < r.number → (Condition rs k → r.number < k) → n < k
    go (own e x) l f = omega arith
    go (later m x) l f = let g = f x in omega arith

-- the condition of the number given holds, and of those below none
ruled_lowest : (n : ℕ) (rs : List Rule) → T (rising n rs) → (k : ℕ) → k ≢ 0 → Ruled rs k → Lowest rs k
ruled_lowest n [] p k z r = absurd (z r)
ruled_lowest n (r ∷ rs) p k z (inl x) =
    record { applies = own_condition r rs k (sym x.1) x.0; none_below = λ j l c. go j l (which r rs j c) }
  where
    go : (j : ℕ) → j < k → Which r rs j → ⊥
    go j l (own e y) = let f = x.1 in omega arith
    go j l (later m y) = let f = x.1 in let g = above r.number rs (next_rises n r rs p).1 j y in omega arith
ruled_lowest n (r ∷ rs) p k z (inr x) = go (ruled_lowest r.number rs (next_rises n r rs p).1 k z x.1)
  where
    below : Lowest rs k → (j : ℕ) → j < k → Which r rs j → ⊥
    below l j b (own e y) = x.0 y
    below l j b (later m y) = l.none_below j b y

    go : Lowest rs k → Lowest (r ∷ rs) k
    go l =
        let g = above r.number rs (next_rises n r rs p).1 k l.applies in
        record { applies = later_condition r rs k (omega arith) l.applies; none_below = λ j b c. below l j b (which r rs j c) }

-- and back: each rule before it has a lower number, so that it does not apply
lowest_ruled : (n : ℕ) (rs : List Rule) → T (rising n rs) → (k : ℕ) → Lowest rs k → Ruled rs k
lowest_ruled n [] p k l = absurd l.applies
lowest_ruled n (r ∷ rs) p k l = go (which r rs k l.applies) (lowest_ruled r.number rs (next_rises n r rs p).1 k)
  where
    higher : (j : ℕ) → Condition rs j → r.number < j
    higher = above r.number rs (next_rises n r rs p).1

    none_in_rest : (j : ℕ) → j < k → ¬ Condition rs j
    none_in_rest j b c = let g = higher j c in l.none_below j b (later_condition r rs j (λ e. omega arith) c)

    go : Which r rs k → (Lowest rs k → Ruled rs k) → Ruled (r ∷ rs) k
    go (own e x) f = inl (x, sym e)
    go (later m x) f =
        inr (λ y. l.none_below r.number (higher k x) (own_condition r rs r.number refl y), f (record { applies = x; none_below = none_in_rest }))

-- ---- where they rise but for the number j, and that does not apply
-- a rule that does not apply gives nothing
without_ruled : (rs : List Rule) (j : ℕ) → ¬ Condition rs j → (k : ℕ) → Ruled rs k ↔ Ruled (without j rs) k
without_ruled [] j n k = (λ x. x, λ x. x)
without_ruled (r ∷ rs) j n k = go (eqb r.number j) n (λ m. without_ruled rs j m k)
  where
    go : (b : Bool) → ¬ cond b r.applies (Condition rs j) → (¬ Condition rs j → Ruled rs k ↔ Ruled (without j rs) k)
        → Ruled (r ∷ rs) k ↔ Ruled (cond b rs (r ∷ without j rs)) k
    go true m f = (λ x. elim x [ inl y ↦ absurd (m y.0) | inr y ↦ y.1 ], λ x. inr (m, x))
    go false m f =
        (λ x. elim x [ inl y ↦ inl y | inr y ↦ inr (y.0, (f m).0 y.1) ], λ x. elim x [ inl y ↦ inl y | inr y ↦ inr (y.0, (f m).1 y.1) ])

-- and the conditions of the other numbers stay
without_condition : (rs : List Rule) (j k : ℕ) → k ≢ j → Condition rs k ↔ Condition (without j rs) k
without_condition [] j k n = (λ x. x, λ x. x)
without_condition (r ∷ rs) j k n = go (eqb r.number j) (eqb→eq r.number j) (without_condition rs j k n)
  where
    other : r.number ≡ j → r.number ≢ k
    other e f = n (sym f ∙ e)

    kept : (us : List Rule) → (Condition rs k → Condition us k) → Which r rs k → Condition (r ∷ us) k
    kept us f (own e x) = own_condition r us k e x
    kept us f (later m x) = later_condition r us k m (f x)

    back : (us : List Rule) → (Condition us k → Condition rs k) → Which r us k → Condition (r ∷ rs) k
    back us f (own e x) = own_condition r rs k e x
    back us f (later m x) = later_condition r rs k m (f x)

    past : r.number ≡ j → Which r rs k → Condition rs k
    past e (own f x) = absurd (other e f)
    past e (later m x) = x

    go : (b : Bool) → (T b → r.number ≡ j) → Condition rs k ↔ Condition (without j rs) k
        → Condition (r ∷ rs) k ↔ Condition (cond b rs (r ∷ without j rs)) k
    go true e f = (λ x. past (e tt) (which r rs k x), λ x. later_condition r rs k (other (e tt)) x)
    go false e f = (λ x. kept (without j rs) f.0 (which r rs k x), λ x. back (without j rs) f.1 (which r (without j rs) k x))

without_lowest : (rs : List Rule) (j : ℕ) → T (lacks j (without j rs)) → ¬ Condition rs j → (k : ℕ) → Lowest rs k ↔ Lowest (without j rs) k
without_lowest rs j q n k = (there, back)
  where
    held : (i : ℕ) → Condition rs i → i ≢ j
    held i c e = n (subst (Condition rs) e c)

    left : (i : ℕ) → Condition (without j rs) i → i ≢ j
    left i c e = held_number (without j rs) j i q c (sym e)

    there : Lowest rs k → Lowest (without j rs) k
    there l =
        record {
          applies = (without_condition rs j k (held k l.applies)).0 l.applies;
          none_below = λ i b c. l.none_below i b ((without_condition rs j i (left i c)).1 c);
        }

    back : Lowest (without j rs) k → Lowest rs k
    back l =
        record {
          applies = (without_condition rs j k (left k l.applies)).1 l.applies;
          none_below = λ i b c. l.none_below i b ((without_condition rs j i (held i c)).0 c);
        }

-- THE LOWEST NUMBER: it is given exactly where its condition holds and that of no lower number
pub lowest_but : {ts : List Test} {rs : List Rule} → Told ts rs → (j : ℕ) → T (rising 0 (without j rs)) → T (lacks j (without j rs)) → ¬ Condition rs j
    → (k : ℕ) → ((first_of ts ≡ k) × (k ≢ 0)) ↔ Lowest rs k
lowest_but {ts} {rs} h j p q n k = (there, back)
  where
    there : (first_of ts ≡ k) × (k ≢ 0) → Lowest rs k
    there x =
        let r = (without_ruled rs j n k).0 ((ruled_exactly h k).0 x.0) in
        (without_lowest rs j q n k).1 (ruled_lowest 0 (without j rs) p k x.1 r)

    back : Lowest rs k → (first_of ts ≡ k) × (k ≢ 0)
    back l =
        let m = (without_lowest rs j q n k).0 l in
        let g = above 0 (without j rs) p k m.applies in
        ((ruled_exactly h k).1 ((without_ruled rs j n k).1 (lowest_ruled 0 (without j rs) p k m)), λ e. omega arith)
