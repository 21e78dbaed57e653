-- A call that eliminates, whichever it is: turned away before, stopped at a step, or gone through.
use Rattle.std.specs.Prelude.{ℕ, zero, suc, ◌*◌, ◌<◌, ◌≡◌, ◌≢◌, ◌↔◌, Bool, List, [], ◌∷◌, ltb, length, Ok, Err, Float}
use Rattle.error.specs.declared.Refusal.TheVariants.{Singular}
use Rattle.error.specs.Numbers.{number_of}
use Rattle.error.specs.Outcome.{Outcome, outcome}
use Rattle.error.specs.Tests.{Test, test}
use Rattle.error.specs.Rules.{Rule, rule, Ruled, NoneApplies}
use Rattle.elimination.specs.declared.Stop.TheVariants.{Pivot, TooShort}
use Rattle.elimination.specs.Elimination.{End, end_number, eliminated, stepped, Through, StopsAt}
use Rattle.elimination.specs.Inverse.{laid}

-- "17 work area under 2·s·s numbers": of every call that eliminates, as a test and as a rule
abbrev pub work_tests : ℕ → List Float → List Test
work_tests size work = test 17 (ltb (length work) (2 * size * size)) ∷ []

abbrev pub work_rules : ℕ → List Float → List Rule
work_rules size work = rule 17 (length work < 2 * size * size) ∷ []

-- what there is to know of such a call, on areas of the type A
pub record Call (A : Type 0) : Type 0 where
  -- the number of the refusal that comes before the elimination, 0 where there is none
  pub refusal : ℕ
  -- whether a row with a zero factor is skipped; the size of the matrix, its entries, and the work area that is lent for it
  pub skip : Bool
  pub size : ℕ
  pub entry : ℕ → ℕ → Float
  pub work : List Float
  -- the areas as they were lent; and by what the work area holds then, the areas where a step stopped and where all went through
  pub lent : A
  pub stopped : List Float → A
  pub answered : List Float → A

-- "The matrix beside the identity", in the work area
abbrev pub matrix : {A : Type 0} → Call A → List Float
matrix c = laid c.size c.entry c.work

-- The areas of a call whose elimination ended so, by what the work area holds then. "19 leaves the work area as elimination stopped"; "On success the work
-- area holds the finished elimination". An area that is too short is refused by 17 before.
abbrev pub areas_after : {A : Type 0} → Call A → End → List Float → A
areas_after c (Ok u) work = c.answered work
areas_after c (Err (Pivot i)) work = c.stopped work
areas_after c (Err TooShort) work = c.lent

-- what such an elimination gives the call, with the number of its end
unfoldable pub after_elimination : {A : Type 0} → Call A → End → List Float → Outcome A
after_elimination c end work = outcome (end_number end) (areas_after c end work)

-- the call by its refusal: "A refusal carries only its number and writes nothing"
unfoldable pub call_where : {A : Type 0} → ℕ → Call A → Outcome A
unfolding laid eliminated after_elimination
call_where zero c = let done = eliminated c.skip c.size (matrix c) in after_elimination c done.answer done.area
call_where (suc k) c = outcome (suc k) c.lent

-- the whole call
unfoldable pub called : {A : Type 0} → Call A → Outcome A
unfolding call_where
called c = call_where c.refusal c

-- ---- how it ends, as the papers say it

-- the work area with the first i steps done on the matrix
abbrev pub work_after : {A : Type 0} → Call A → ℕ → List Float
work_after c i = stepped c.skip c.size i (matrix c)

-- A call with these rules before the elimination of a matrix beside the identity, xs, of this size, ended as o: each number exactly when, and what its
-- areas hold then. `lent` are the areas as they were; `stopped` and `answered`, by what the work area holds, those where a step stopped and where all went
-- through.
pub record Ends {A : Type 0} (rules : List Rule) (skip : Bool) (size : ℕ) (xs : List Float) (lent : A) (stopped answered : List Float → A)
    (o : Outcome A) : Type 0 where
  -- any number but 0 and 19 is that of the first rule that applies
  pub refused : (k : ℕ) → k ≢ 0 → k ≢ number_of Singular → (o.number ≡ k) ↔ Ruled rules k
  -- 19: no rule applies, and some step stops: "19 needs the held pivot of a step"
  pub nineteen : (o.number ≡ number_of Singular) ↔ (NoneApplies rules × ((i : ℕ) × StopsAt skip size i xs))
  -- 0: no rule applies, and every step goes through
  pub accepted : (o.number ≡ 0) ↔ (NoneApplies rules × Through skip size size xs)
  -- "A refusal carries only its number and writes nothing"
  pub refused_areas : o.number ≢ 0 → o.number ≢ number_of Singular → o.areas ≡ lent
  -- "19 leaves the work area as elimination stopped": the step that stopped left nothing of itself, its swap neither
  pub nineteen_areas : (i : ℕ) → o.number ≡ number_of Singular → StopsAt skip size i xs → o.areas ≡ stopped (stepped skip size i xs)
  -- "On success the work area holds the finished elimination"
  pub accepted_areas : o.number ≡ 0 → o.areas ≡ answered (stepped skip size size xs)
