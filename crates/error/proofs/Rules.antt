-- The one theorem about refusals: a list of tests, each of which tells the condition of the rule at its place, gives the number that the rules give.
-- Whatever the order of the numbers.
use Prim.Native.Nat.{ℕ}
use native.Mathlib.Omega.{arith}
use mathlib.Core.Path.{◌≡◌, refl, sym, subst, ◌∙◌}
use mathlib.Core.Logic.{◌≢◌, inl, inr, ◌↔◌}
use mathlib.Core.Bool.{Bool, true, false, not, cond}
use mathlib.Core.List.{List, [], ◌∷◌, ◌++◌}
use lib.Dec.{T, T_not, eqb, ltb, eqb→eq, ltb→lt}
use lib.Ieee.Fits.{and_l, and_r, eq→eqb}
use Rattle.error.specs.Tests.{Test, first_of, Tells}
use Rattle.error.specs.Rules.{Told, no_more, tells, Rule, rule, Ruled, NoneApplies, Condition, First}
use Rattle.error.specs.Rules.{rules_before, positive, lacks, distinct}

pub joined : {ts us : List Test} {rs ps : List Rule} → Told ts rs → Told us ps → Told (ts ++ us) (rs ++ ps)
joined no_more h = h
joined (tells k t g) h = tells k t (joined g h)

-- ---- the number given, both ways
pub ruled : {ts : List Test} {rs : List Rule} → Told ts rs → Ruled rs (first_of ts)
unfolding first_of
ruled no_more = refl
ruled (tells k {b} {A} {ts} {rs} t h) = go b t (ruled h)
  where
    go : (c : Bool) → Tells c A → Ruled rs (first_of ts) → Ruled (rule k A ∷ rs) (cond c k (first_of ts))
    go true u r = inl (u.then tt, refl)
    go false u r = inr (u.back, r)

only_ruled : {ts : List Test} {rs : List Rule} → Told ts rs → (n : ℕ) → Ruled rs n → first_of ts ≡ n
unfolding first_of
only_ruled no_more n r = sym r
only_ruled (tells k {b} {A} {ts} {rs} t h) n r = go b t r (λ x. only_ruled h n x)
  where
    go : (c : Bool) → Tells c A → Ruled (rule k A ∷ rs) n → (Ruled rs n → first_of ts ≡ n) → cond c k (first_of ts) ≡ n
    go true u (inl x) f = sym x.1
    go true u (inr x) f = absurd (x.0 (u.then tt))
    go false u (inl x) f = absurd (u.back x.0)
    go false u (inr x) f = f x.1

-- THE THEOREM: the number of the first test that holds is the number that the rules give, and no other is
pub ruled_exactly : {ts : List Test} {rs : List Rule} → Told ts rs → (n : ℕ) → (first_of ts ≡ n) ↔ Ruled rs n
ruled_exactly {rs = rs} h n = (λ e. subst (Ruled rs) e (ruled h), only_ruled h n)

-- ---- 0: no rule applies
ruled_none : (rs : List Rule) → T (positive rs) → Ruled rs 0 → NoneApplies rs
ruled_none [] p r = tt
ruled_none (r ∷ rs) p (inl x) = let l = ltb→lt 0 r.number (and_l (ltb 0 r.number) (positive rs) p) in let e = x.1 in absurd (omega arith)
ruled_none (r ∷ rs) p (inr x) = (x.0, ruled_none rs (and_r (ltb 0 r.number) (positive rs) p) x.1)

none_ruled : (rs : List Rule) → NoneApplies rs → Ruled rs 0
none_ruled [] n = refl
none_ruled (r ∷ rs) n = inr (n.0, none_ruled rs n.1)

pub none_exactly : {ts : List Test} {rs : List Rule} → Told ts rs → T (positive rs) → (first_of ts ≡ 0) ↔ NoneApplies rs
none_exactly {rs = rs} h p = (λ e. ruled_none rs p ((ruled_exactly h 0).0 e), λ n. (ruled_exactly h 0).1 (none_ruled rs n))

-- a rule's condition, or that of a later rule with the number
pub data Which (r : Rule) (rs : List Rule) (k : ℕ) : Type 0 where
  own : r.number ≡ k → r.applies → Which r rs k
  later : r.number ≢ k → Condition rs k → Which r rs k

pub which : (r : Rule) (rs : List Rule) (k : ℕ) → Condition (r ∷ rs) k → Which r rs k
which r rs k c = go (eqb r.number k) refl c
  where
    go : (b : Bool) → eqb r.number k ≡ b → cond b r.applies (Condition rs k) → Which r rs k
    go true e x = own (eqb→eq r.number k (rw e tt)) x
    go false e x = later (λ f. subst T e (eq→eqb f)) x

pub own_condition : (r : Rule) (rs : List Rule) (k : ℕ) → r.number ≡ k → r.applies → Condition (r ∷ rs) k
own_condition r rs k e x = go (eqb r.number k) (eq→eqb e)
  where
    go : (b : Bool) → T b → cond b r.applies (Condition rs k)
    go true t = x
    go false t = absurd t

pub later_condition : (r : Rule) (rs : List Rule) (k : ℕ) → r.number ≢ k → Condition rs k → Condition (r ∷ rs) k
later_condition r rs k n x = go (eqb r.number k) (eqb→eq r.number k)
  where
    go : (b : Bool) → (T b → r.number ≡ k) → cond b r.applies (Condition rs k)
    go true f = absurd (n (f tt))
    go false f = x

-- then the condition of no number holds
pub no_condition : (rs : List Rule) → NoneApplies rs → (k : ℕ) → ¬ Condition rs k
no_condition [] n k c = c
no_condition (r ∷ rs) n k c = go (which r rs k c) (λ x. no_condition rs n.1 k x)
  where
    go : Which r rs k → ¬ Condition rs k → ⊥
    go (own e x) f = n.0 x
    go (later m x) f = f x

-- ---- by place: of the rules before that of the number given none applies, whatever their numbers are
pub none_before : (rs : List Rule) (k : ℕ) → Ruled rs k → NoneApplies (rules_before k rs)
none_before [] k r = tt
none_before (r ∷ rs) k (inl x) = go (eqb r.number k) (eq→eqb (sym x.1))
  where
    go : (b : Bool) → T b → NoneApplies (cond b [] (r ∷ rules_before k rs))
    go true t = tt
    go false t = absurd t
none_before (r ∷ rs) k (inr x) = go (eqb r.number k) (none_before rs k x.1)
  where
    go : (b : Bool) → NoneApplies (rules_before k rs) → NoneApplies (cond b [] (r ∷ rules_before k rs))
    go true n = tt
    go false n = (x.0, n)

-- a condition's number is among the numbers, so it is none that they lack, and it is not 0
pub held_number : (rs : List Rule) (j k : ℕ) → T (lacks j rs) → Condition rs k → j ≢ k
held_number [] j k l c = absurd c
held_number (r ∷ rs) j k l c = go (which r rs k c) (λ x. held_number rs j k (and_r (not (eqb r.number j)) (lacks j rs) l) x)
  where
    go : Which r rs k → (Condition rs k → j ≢ k) → j ≢ k
    go (own e x) f h = T_not (eqb r.number j) (and_l (not (eqb r.number j)) (lacks j rs) l) (eq→eqb (e ∙ sym h))
    go (later m x) f h = f x h

nonzero : (rs : List Rule) (k : ℕ) → T (positive rs) → Condition rs k → k ≢ 0
nonzero [] k p c = absurd c
nonzero (r ∷ rs) k p c = go (which r rs k c) (λ x. nonzero rs k (and_r (ltb 0 r.number) (positive rs) p) x)
  where
    go : Which r rs k → (Condition rs k → k ≢ 0) → k ≢ 0
    go (own e x) f h = let l = ltb→lt 0 r.number (and_l (ltb 0 r.number) (positive rs) p) in omega arith
    go (later m x) f h = f x h

ruled_applies : (rs : List Rule) (k : ℕ) → T (distinct rs) → k ≢ 0 → Ruled rs k → Condition rs k
ruled_applies [] k d z r = absurd (z r)
ruled_applies (r ∷ rs) k d z (inl x) = own_condition r rs k (sym x.1) x.0
ruled_applies (r ∷ rs) k d z (inr x) =
    let c = ruled_applies rs k (and_r (lacks r.number rs) (distinct rs) d) z x.1 in
    later_condition r rs k (held_number rs r.number k (and_l (lacks r.number rs) (distinct rs) d) c) c

first_ruled : (rs : List Rule) (k : ℕ) → Condition rs k → NoneApplies (rules_before k rs) → Ruled rs k
first_ruled [] k c n = absurd c
first_ruled (r ∷ rs) k c n = go (eqb r.number k) (eqb→eq r.number k) c n (λ d m. first_ruled rs k d m)
  where
    go : (b : Bool) → (T b → r.number ≡ k) → cond b r.applies (Condition rs k) → NoneApplies (cond b [] (r ∷ rules_before k rs))
        → (Condition rs k → NoneApplies (rules_before k rs) → Ruled rs k) → Ruled (r ∷ rs) k
    go true e x m f = inl (x, sym (e tt))
    go false e x m f = inr (m.0, f x m.1)

-- ORDER BY PLACE: where no number stands twice, a number is given exactly where its condition holds and no rule before its own applies
pub first_wins : {ts : List Test} {rs : List Rule} → Told ts rs → T (positive rs) → T (distinct rs) → (k : ℕ)
    → ((first_of ts ≡ k) × (k ≢ 0)) ↔ First rs k
first_wins {ts} {rs} h p d k = (there, λ f. ((ruled_exactly h k).1 (first_ruled rs k f.applies f.none_before), nonzero rs k p f.applies))
  where
    there : (first_of ts ≡ k) × (k ≢ 0) → First rs k
    there x = let r = (ruled_exactly h k).0 x.0 in record { applies = ruled_applies rs k d x.1 r; none_before = none_before rs k r }

-- ---- a number that no rule has is not given
pub never_given : (rs : List Rule) (k : ℕ) → T (lacks k rs) → k ≢ 0 → ¬ Ruled rs k
never_given [] k l n r = n r
never_given (r ∷ rs) k l n (inl x) = T_not (eqb r.number k) (and_l (not (eqb r.number k)) (lacks k rs) l) (eq→eqb (sym x.1))
never_given (r ∷ rs) k l n (inr x) = never_given rs k (and_r (not (eqb r.number k)) (lacks k rs) l) n x.1
