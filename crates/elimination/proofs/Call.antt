-- How a call that eliminates ends, both ways, for every call whose tests tell its rules and whose rules keep the work area long enough.
use Prim.Native.Nat.{ℕ, zero, suc, ◌*◌, ◌≤◌}
use native.Mathlib.Omega.{arith}
use mathlib.Core.Path.{◌≡◌, refl, ap, sym, ◌∙◌, subst}
use mathlib.Core.Logic.{◌≢◌, ◌↔◌}
use mathlib.Core.List.{List}
use lib.Dec.{T}
use lib.ListN.{length}
use lib.Ieee.{Float}
use Rattle.area.specs.Area.{Kept}
use Rattle.area.proofs.Kept.{kept_then}
use Rattle.error.specs.declared.Refusal.{Refusal}
use Rattle.error.specs.Numbers.{number_of}
use Rattle.error.specs.Outcome.{Outcome, outcome}
use Rattle.error.specs.Tests.{Test, first_of}
use Rattle.error.specs.Rules.{Rule, Ruled, NoneApplies, positive, lacks, Told, no_more, tells}
use Rattle.error.proofs.First.{numbers}
use Rattle.error.proofs.Tells.{below}
use Rattle.error.proofs.Rules.{ruled_exactly, none_exactly, never_given}
use Rattle.std.specs.Prelude.{Ok, Err}
use Rattle.elimination.specs.declared.Stop.TheVariants.{Pivot, TooShort}
use Rattle.elimination.specs.Elimination.{End, eliminated, outcome_of, Through, StopsAt, Outcome as Eliminated}
use Rattle.elimination.specs.Call.{work_tests, work_rules, Call, matrix, after_elimination, call_where, called, work_after, Ends}
use Rattle.elimination.proofs.Keeps.{kept_stepped}
use Rattle.elimination.proofs.Laid.{kept_laid}
use Rattle.elimination.proofs.Stops.{finished, stopped, done_exactly, stops_exactly, refused_exactly}

pub work_told : (size : ℕ) (work : List Float) → Told (work_tests size work) (work_rules size work)
work_told size work = tells 17 (below (length work) (2 * size * size)) no_more

-- the work area, whichever step the call has come to, is as long as it was, and past 2·s·s as it was
pub kept_work : {A : Type 0} (c : Call A) (i : ℕ) → i ≤ c.size → Kept (2 * c.size * c.size) c.work (work_after c i)
kept_work c i h =
    let e : c.size * (2 * c.size) ≡ 2 * c.size * c.size = omega arith in
    kept_then (kept_laid c.size c.entry c.work) (rw e at (kept_stepped c.skip c.size i (matrix c) h))

-- step i is the first whose held magnitude is below 2^-52, and every step goes through
abbrev Stops : {A : Type 0} → Call A → ℕ → Type 0
Stops c i = StopsAt c.skip c.size i (matrix c)

abbrev Solves : {A : Type 0} → Call A → Type 0
Solves c = Through c.skip c.size c.size (matrix c)

module _ {A : Type 0} (c : Call A) where
  -- the definition, case by case
  called_is : (k : ℕ) → c.refusal ≡ k → called c ≡ call_where k c
  unfolding called
  called_is k e = ap (λ (n : ℕ). call_where n c) e

  one_applies : (k : ℕ) → c.refusal ≡ suc k → called c ≡ outcome (suc k) c.lent
  unfolding call_where
  one_applies k e = called_is (suc k) e

  none_applies : (o : Eliminated) → c.refusal ≡ 0 → eliminated c.skip c.size (matrix c) ≡ o → called c ≡ after_elimination c o.answer o.area
  unfolding call_where
  none_applies o e f = called_is 0 e ∙ ap (λ (o : Eliminated). after_elimination c o.answer o.area) f

  -- "A refusal carries only its number and writes nothing": an answer that has a refusal, where the call has its number
  pub refused_there : (r : Refusal) → number_of r ≡ c.refusal → outcome (number_of r) c.lent ≡ called c
  refused_there r e = by (number_of r) (numbers r) e
    where
      by : (k : ℕ) → k ≢ 0 → k ≡ c.refusal → outcome k c.lent ≡ called c
      by zero n e = absurd (n refl)
      by (suc k) n e = sym (one_applies k (sym e))

  -- and an elimination that ended so, where no rule applies
  pub eliminated_there : (r : End) (xs : List Float) → c.refusal ≡ 0 → outcome_of r xs ≡ eliminated c.skip c.size (matrix c)
      → after_elimination c r xs ≡ called c
  eliminated_there r xs e h = sym (none_applies (outcome_of r xs) e (sym h))

  pub where_it_solves : c.refusal ≡ 0 → Solves c → called c ≡ outcome 0 (c.answered (work_after c c.size))
  unfolding after_elimination
  where_it_solves e t = none_applies _ e (finished c.skip c.size (matrix c) t)

  pub where_it_stops : (i : ℕ) → c.refusal ≡ 0 → Stops c i → called c ≡ outcome 19 (c.stopped (work_after c i))
  unfolding after_elimination
  where_it_stops i e t = none_applies _ e (stopped c.skip c.size i (matrix c) t)

number_is : {A : Type 0} {o : Outcome A} {k : ℕ} {b : A} → o ≡ outcome k b → o.number ≡ k
number_is {A} p = ap (λ (o : Outcome A). o.number) p

areas_are : {A : Type 0} {o : Outcome A} {k : ℕ} {b : A} → o ≡ outcome k b → o.areas ≡ b
areas_are {A} p = ap (λ (o : Outcome A). o.areas) p

-- the three ways in which a call ends
data Way {A : Type 0} (rules : List Rule) (c : Call A) : Type 0 where
  turned_away : (k : ℕ) → k ≢ 0 → k ≢ 19 → Ruled rules k → called c ≡ outcome k c.lent → Way rules c
  stopped_at : (i : ℕ) → NoneApplies rules → Stops c i → called c ≡ outcome 19 (c.stopped (work_after c i)) → Way rules c
  gone_through : NoneApplies rules → Solves c → called c ≡ outcome 0 (c.answered (work_after c c.size)) → Way rules c

module _ {A : Type 0} (ts : List Test) (rules : List Rule) (c : Call A) (tests : c.refusal ≡ first_of ts) (told : Told ts rules)
    (numbers : T (positive rules)) (no-19 : T (lacks 19 rules)) (long : NoneApplies rules → 2 * c.size * c.size ≤ length c.work) where
  given : (k : ℕ) → (c.refusal ≡ k) ↔ Ruled rules k
  given k = (λ e. (ruled_exactly told k).0 (sym tests ∙ e), λ r. tests ∙ (ruled_exactly told k).1 r)

  none_given : (c.refusal ≡ 0) ↔ NoneApplies rules
  none_given = (λ e. (none_exactly told numbers).0 (sym tests ∙ e), λ n. tests ∙ (none_exactly told numbers).1 n)

  -- 17 is the work area's: where no rule applies it is long enough
  never_short : NoneApplies rules → (eliminated c.skip c.size (matrix c)).answer ≢ Err TooShort
  never_short n t =
      let l = long n in
      let m = (kept_laid c.size c.entry c.work).len in
      let r = (refused_exactly c.skip c.size (matrix c)).0 t in
      omega arith

  way : Way rules c
  way = by c.refusal refl
    where
      after : (n : NoneApplies rules) (o : End) → (eliminated c.skip c.size (matrix c)).answer ≡ o → Way rules c
      after n (Ok tt) f = let t = (done_exactly c.skip c.size (matrix c)).0 f in gone_through n t (where_it_solves c (none_given.1 n) t)
      after n (Err (Pivot i)) f = let t = (stops_exactly c.skip c.size i (matrix c)).0 f in stopped_at i n t (where_it_stops c i (none_given.1 n) t)
      after n (Err TooShort) f = absurd (never_short n f)

      by : (k : ℕ) → c.refusal ≡ k → Way rules c
      by zero e = after (none_given.0 e) (eliminated c.skip c.size (matrix c)).answer refl
      by (suc k) e =
          let r = (given (suc k)).0 e in
          turned_away (suc k) (omega arith) (λ f. never_given rules 19 no-19 (omega arith) (subst (Ruled rules) f r)) r (one_applies c k e)

  -- THE THEOREM: each number exactly where its condition holds, and the areas then
  pub ends : Ends rules c.skip c.size (matrix c) c.lent c.stopped c.answered (called c)
  ends = record {
    refused = λ k n m. (λ e. refused_there k n m e way, λ r. refused_from k n r way);
    nineteen = (λ e. stopped_there e way, λ h. number_is (where_it_stops c h.1.0 (none_given.1 h.0) h.1.1));
    accepted = (λ e. accepted_there e way, λ h. number_is (where_it_solves c (none_given.1 h.0) h.1));
    refused_areas = λ n m. refused_so n m way;
    nineteen_areas = λ i e t. areas_are (where_it_stops c i (none_given.1 (stopped_there e way).0) t);
    accepted_areas = λ e. let h = accepted_there e way in areas_are (where_it_solves c (none_given.1 h.0) h.1);
  }
    where
      refused_there : (k : ℕ) → k ≢ 0 → k ≢ 19 → (called c).number ≡ k → Way rules c → Ruled rules k
      refused_there k n m e (turned_away j y z r f) = subst (Ruled rules) (sym (number_is f) ∙ e) r
      refused_there k n m e (stopped_at i y t f) = absurd (m (sym e ∙ number_is f))
      refused_there k n m e (gone_through y t f) = absurd (n (sym e ∙ number_is f))

      refused_from : (k : ℕ) → k ≢ 0 → Ruled rules k → Way rules c → (called c).number ≡ k
      refused_from k n r (turned_away j y z q f) = number_is f ∙ sym ((given j).1 q) ∙ (given k).1 r
      refused_from k n r (stopped_at i y t f) = absurd (n (sym ((given k).1 r) ∙ none_given.1 y))
      refused_from k n r (gone_through y t f) = absurd (n (sym ((given k).1 r) ∙ none_given.1 y))

      stopped_there : (called c).number ≡ 19 → Way rules c → NoneApplies rules × ((i : ℕ) × Stops c i)
      stopped_there e (turned_away j y z r f) = absurd (z (sym (number_is f) ∙ e))
      stopped_there e (stopped_at i y t f) = (y, (i, t))
      stopped_there e (gone_through y t f) = let g = number_is f in absurd (omega arith)

      accepted_there : (called c).number ≡ 0 → Way rules c → NoneApplies rules × Solves c
      accepted_there e (turned_away j y z r f) = absurd (y (sym (number_is f) ∙ e))
      accepted_there e (stopped_at i y t f) = let g = number_is f in absurd (omega arith)
      accepted_there e (gone_through y t f) = (y, t)

      refused_so : (called c).number ≢ 0 → (called c).number ≢ 19 → Way rules c → (called c).areas ≡ c.lent
      refused_so n m (turned_away j y z r f) = areas_are f
      refused_so n m (stopped_at i y t f) = absurd (m (number_is f))
      refused_so n m (gone_through y t f) = absurd (n (number_is f))

  -- what holds of the areas however the call ends: of those lent, of those where a step stopped, and of those where all went through
  pub whichever : (P : A → Type 0) → P c.lent → ((i : ℕ) → i ≤ c.size → P (c.stopped (work_after c i))) → P (c.answered (work_after c c.size))
      → P (called c).areas
  whichever P a b d = by way
    where
      by : Way rules c → P (called c).areas
      by (turned_away j y z r f) = subst P (sym (areas_are f)) a
      by (stopped_at i y t f) = let l = t.reached in subst P (sym (areas_are f)) (b i (omega arith))
      by (gone_through y t f) = subst P (sym (areas_are f)) d
