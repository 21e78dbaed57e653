-- The number of the first test that holds, found as code finds it: test after test, and part after part.
use Prim.Native.Nat.{ℕ, ◌<◌}
use mathlib.Core.Path.{◌≡◌, refl, sym, ap, ◌∙◌}
use mathlib.Core.Logic.{◌≢◌}
use mathlib.Core.Bool.{Bool, true, false, ◌&&◌, ◌||◌, cond}
use mathlib.Core.List.{List, [], ◌∷◌, ◌++◌}
use native.Mathlib.Omega.{arith}
use lib.Dec.{T, ltb, ltb→lt}
use lib.Ieee.Fits.{and_l, and_r}
use Rattle.std.specs.Prelude.{Result, Ok, Err}
use Rattle.error.specs.declared.Refusal.{Refusal}
use Rattle.error.specs.declared.Refusal.TheVariants.{CoordinatesLength, NodesLength, NoBasis, BasisCode, Regularization, ExternalLength}
use Rattle.error.specs.declared.Refusal.TheVariants.{TooFewWells, NodeExternalLength, TooMany, Tolerance, NotFinite, Model}
use Rattle.error.specs.declared.Refusal.TheVariants.{Dimension, TooFewSamples, Bins, SurveyFile, WorkArea, AnswerArea, Singular, SameSpot}
use Rattle.error.specs.Numbers.{number_of, judged}
use Rattle.error.specs.Tests.{Test, test, first_of}

-- ---- test after test
pub here : (k : ℕ) {b : Bool} (ts : List Test) → b ≡ true → first_of (test k b ∷ ts) ≡ k
unfolding first_of
here k ts h = rw h

pub past : (k : ℕ) {b : Bool} (ts : List Test) → b ≡ false → first_of (test k b ∷ ts) ≡ first_of ts
unfolding first_of
past k ts h = rw h

pub none : first_of [] ≡ 0
unfolding first_of
none = refl

-- a condition that is one of two
pub one : {a : Bool} (b : Bool) → a ≡ true → (a || b) ≡ true
one b h = rw h

pub other : {a : Bool} (b : Bool) → a ≡ false → (a || b) ≡ b
other b h = rw h

pub last_one : (a : Bool) → (a || false) ≡ a
last_one true = refl
last_one false = refl

-- a condition that is two at once
pub also : {a : Bool} (b : Bool) → a ≡ true → (a && b) ≡ b
also b h = rw h

pub not_even : {a : Bool} (b : Bool) → a ≡ false → (a && b) ≡ false
not_even b h = rw h

-- ---- part after part
-- 0 is no test's number
abbrev pub numbered : List Test → Bool
numbered [] = true
numbered (t ∷ ts) = ltb 0 t.number && numbered ts

-- a part that gives a number gives that of the whole
pub first_given : (ts us : List Test) → first_of ts ≢ 0 → first_of (ts ++ us) ≡ first_of ts
unfolding first_of
first_given [] us n = absurd (n refl)
first_given (t ∷ ts) us n = go t.holds n (λ m. first_given ts us m)
  where
    go : (b : Bool) → cond b t.number (first_of ts) ≢ 0 → (first_of ts ≢ 0 → first_of (ts ++ us) ≡ first_of ts)
        → cond b t.number (first_of (ts ++ us)) ≡ cond b t.number (first_of ts)
    go true m f = refl
    go false m f = f m

-- past a part that gives none the rest decides
pub first_later : (ts us : List Test) → T (numbered ts) → first_of ts ≡ 0 → first_of (ts ++ us) ≡ first_of us
unfolding first_of
first_later [] us p e = refl
first_later (t ∷ ts) us p e =
    go t.holds (ltb→lt 0 t.number (and_l (ltb 0 t.number) (numbered ts) p)) e (λ f. first_later ts us (and_r (ltb 0 t.number) (numbered ts) p) f)
  where
    go : (b : Bool) → 0 < t.number → cond b t.number (first_of ts) ≡ 0 → (first_of ts ≡ 0 → first_of (ts ++ us) ≡ first_of us)
        → cond b t.number (first_of (ts ++ us)) ≡ first_of us
    go true l h f = absurd (omega arith)
    go false l h f = f h

-- ---- as an answer
-- a refusal has a number
pub numbers : (r : Refusal) → number_of r ≢ 0
numbers CoordinatesLength h = omega arith
numbers NodesLength h = omega arith
numbers NoBasis h = omega arith
numbers BasisCode h = omega arith
numbers Regularization h = omega arith
numbers ExternalLength h = omega arith
numbers TooFewWells h = omega arith
numbers NodeExternalLength h = omega arith
numbers TooMany h = omega arith
numbers Tolerance h = omega arith
numbers NotFinite h = omega arith
numbers Model h = omega arith
numbers Dimension h = omega arith
numbers TooFewSamples h = omega arith
numbers Bins h = omega arith
numbers SurveyFile h = omega arith
numbers WorkArea h = omega arith
numbers AnswerArea h = omega arith
numbers Singular h = omega arith
numbers SameSpot h = omega arith

-- the refusal of a part is that of the whole
pub refused : {A : Type 0} (j : Result A Refusal) (r : Refusal) (ts us : List Test) → j ≡ Err r → judged j ≡ first_of ts → judged j ≡ first_of (ts ++ us)
refused j r ts us is e = e ∙ sym (first_given ts us (λ z. numbers r (sym (ap judged is) ∙ e ∙ z)))

pub turned_away : (r : Refusal) (ts us : List Test) → number_of r ≡ first_of ts → number_of r ≡ first_of (ts ++ us)
turned_away r ts us e = refused {A = Unit {0}} (Err r) r ts us refl e

-- past a part that accepts, the rest decides
pub accepted : {A : Type 0} (j : Result A Refusal) (x : A) (ts us : List Test) → T (numbered ts) → j ≡ Ok x → judged j ≡ first_of ts → first_of (ts ++ us) ≡ first_of us
accepted j x ts us p is e = first_later ts us p (sym e ∙ ap judged is)
