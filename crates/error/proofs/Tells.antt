-- A test tells a condition: it comes out true exactly where the condition holds. Tests joined by and, or, not; tests of numbers.
use Prim.Native.Nat.{ℕ, zero, suc, ◌≤◌, ◌<◌}
use native.Mathlib.Nat.{not-suc-le-zero}
use native.Mathlib.Decide.{dec_lt}
use native.Mathlib.Omega.{arith}
use mathlib.Core.Path.{◌≡◌, refl, ap₂, sym, subst}
use mathlib.Core.Logic.{◌≢◌, ◌⊎◌, inl, inr, ◌↔◌}
use mathlib.Core.List.{List}
use mathlib.Core.Bool.{Bool, true, false, not, ◌&&◌, ◌||◌}
use lib.Arith.{le→nltb}
use lib.Dec.{T, eqb, leb, ltb, eqb→eq, leb→le, le→leb, ltb→lt, lt→ltb, nltb→le, T_not, not_T}
use lib.Ieee.{Float}
use lib.Ieee.Scale.{finite}
use lib.Ieee.Fits.{and_i, and_l, and_r, eq→eqb}
use Rattle.error.specs.Tests.{all, Tells}
use Rattle.ieee.specs.Finite.{all_finite, NotFinite, SomeNotFinite}
use Rattle.ieee.proofs.FiniteLists.{not_finite, not_all_finite}

-- both ways at once
pub told : (b : Bool) {A : Type 0} → T b ↔ A → Tells b A
told b h = record { then = h.0; back = h.1 }

-- a condition that says the same
pub told_as : {b : Bool} {A B : Type 0} → Tells b A → (A → B) → (B → A) → Tells b B
told_as t g h = record { then = λ x. g (t.then x); back = λ y. t.back (h y) }

-- ---- the test's value where the condition holds, and where it does not
pub affirm : {b : Bool} {A : Type 0} → Tells b A → A → b ≡ true
affirm {b} t x = go b (t.back x)
  where
    go : (c : Bool) → T c → c ≡ true
    go true h = refl
    go false h = absurd h

pub refute : {b : Bool} {A : Type 0} → Tells b A → ¬ A → b ≡ false
refute {b} t n = go b (λ h. n (t.then h))
  where
    go : (c : Bool) → ¬ T c → c ≡ false
    go true h = absurd (h tt)
    go false h = refl

-- what is not refuted holds
pub stable : {b : Bool} {A : Type 0} → Tells b A → ¬ (¬ A) → A
stable {b} t n = t.then (go b (λ h. n (λ x. h (t.back x))))
  where
    go : (c : Bool) → ¬ (¬ T c) → T c
    go true h = tt
    go false h = h (λ x. x)

-- ---- tests joined
pub opposite : {b : Bool} {A : Type 0} → Tells b A → Tells (not b) (¬ A)
opposite {b} t = record { then = λ h x. T_not b h (t.back x); back = λ n. not_T b (λ h. n (t.then h)) }

-- a test that the opposite does not hold
pub twice : {b : Bool} {A : Type 0} → Tells b A → Tells (not (not b)) A
twice t = told_as (opposite (opposite t)) (stable t) (λ x n. n x)

pub both : {a b : Bool} {A B : Type 0} → Tells a A → Tells b B → Tells (a && b) (A × B)
both {a} {b} t u = record { then = λ h. (t.then (and_l a b h), u.then (and_r a b h)); back = λ x. and_i a b (t.back x.0) (u.back x.1) }

pub either : {a b : Bool} {A B : Type 0} → Tells a A → Tells b B → Tells (a || b) (A ⊎ B)
either {a} {b} {A} {B} t u = record { then = there a t.then; back = from a t.back }
  where
    there : (c : Bool) → (T c → A) → T (c || b) → A ⊎ B
    there true f h = inl (f tt)
    there false f h = inr (u.then h)

    from : (c : Bool) → (A → T c) → A ⊎ B → T (c || b)
    from true f x = tt
    from false f (inl x) = absurd (f x)
    from false f (inr y) = u.back y

-- one of two fails
pub not_both : (a b : Bool) {A B : Type 0} → Tells (not a) A → Tells (not b) B → Tells (not (a && b)) (A ⊎ B)
not_both a b {A} {B} t u = by a t
  where
    by : (c : Bool) → Tells (not c) A → Tells (not (c && b)) (A ⊎ B)
    by true v = record { then = λ h. inr (u.then h); back = from }
      where
        from : A ⊎ B → T (not b)
        from (inl x) = absurd (v.back x)
        from (inr y) = u.back y
    by false v = record { then = λ h. inl (v.then tt); back = λ x. tt }

-- a test that is made only where another holds, and passes
pub only_where : {a b : Bool} {A B : Type 0} → Tells a A → Tells b B → Tells (not (a && not b)) (A → B)
only_where t u =
    told_as (opposite (both t (opposite u)))
    (λ h x. stable u (λ n. h (x, n)))
    (λ f x. x.1 (f x.0))

-- a test made of each number below k, and whether one of them fails it
pub each : (k : ℕ) (f : ℕ → Bool) (P : ℕ → Type 0) → ((i : ℕ) → i < k → Tells (f i) (P i)) → Tells (all k f) ((i : ℕ) → i < k → P i)
unfolding all
each zero f P h = record { then = λ t i l. absurd (not-suc-le-zero l); back = λ x. tt }
each (suc k) f P h =
    told_as (both (each k f P (λ i l. h i (omega arith))) (h k (omega arith)))
    (λ x i l. elim (dec_lt i k) [ yes m ↦ x.0 i m | no m ↦ let e : k ≡ i = omega arith in subst P e x.1 ])
    (λ x. (λ i l. x i (omega arith), x k (omega arith)))

-- the same tests, together
pub same_all : (k : ℕ) (f g : ℕ → Bool) → ((i : ℕ) → i < k → f i ≡ g i) → all k f ≡ all k g
unfolding all
same_all zero f g h = refl
same_all (suc k) f g h = ap₂ (λ (b c : Bool). b && c) (same_all k f g (λ i l. h i (omega arith))) (h k (omega arith))

find_failing : (k : ℕ) (f : ℕ → Bool) (P : ℕ → Type 0) → ((i : ℕ) → i < k → Tells (f i) (P i)) → T (not (all k f)) → (i : ℕ) × (i < k) × (¬ P i)
unfolding all
find_failing zero f P h t = absurd t
find_failing (suc k) f P h t = by (all k f) (λ u. find_failing k f P (λ i l. h i (omega arith)) u) t
  where
    by : (b : Bool) → (T (not b) → (i : ℕ) × (i < k) × (¬ P i)) → T (not (b && f k)) → (i : ℕ) × (i < suc k) × (¬ P i)
    by true g u = (k, omega arith, (opposite (h k (omega arith))).then u)
    by false g u = let r = g tt in (r.0, omega arith, r.2)

pub one_fails : (k : ℕ) (f : ℕ → Bool) (P : ℕ → Type 0) → ((i : ℕ) → i < k → Tells (f i) (P i)) → Tells (not (all k f)) ((i : ℕ) × (i < k) × (¬ P i))
one_fails k f P h = record { then = find_failing k f P h; back = λ x. (opposite (each k f P h)).back (λ g. x.2 (g x.0 x.1)) }

-- ---- tests themselves
pub passes : (b : Bool) → Tells b (T b)
passes b = record { then = λ h. h; back = λ h. h }

pub is_true : (b : Bool) → Tells b (b ≡ true)
is_true b = record { then = affirm (passes b); back = λ e. subst T (sym e) tt }

-- ---- numbers
pub equal : (m n : ℕ) → Tells (eqb m n) (m ≡ n)
equal m n = record { then = eqb→eq m n; back = eq→eqb }

pub different : (m n : ℕ) → Tells (not (eqb m n)) (m ≢ n)
different m n = opposite (equal m n)

pub below : (m n : ℕ) → Tells (ltb m n) (m < n)
below m n = record { then = ltb→lt m n; back = lt→ltb m n }

pub at_most : (m n : ℕ) → Tells (leb m n) (m ≤ n)
at_most m n = record { then = leb→le m n; back = le→leb m n }

pub not_below : (m n : ℕ) → Tells (not (ltb m n)) (n ≤ m)
not_below m n = record { then = nltb→le m n; back = le→nltb m n }

-- ---- floats: "not finite"
pub not_finite_is : (x : Float) → Tells (not (finite x)) (NotFinite x)
not_finite_is x = told (not (finite x)) (not_finite x)

pub some_not_finite : (xs : List Float) → Tells (not (all_finite xs)) (SomeNotFinite xs)
some_not_finite xs = told (not (all_finite xs)) (not_all_finite xs)
