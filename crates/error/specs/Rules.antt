-- "What turns a call away", as the papers say it and not as tests: rules in the order in which they count, each a number with its condition.
use Rattle.std.specs.Prelude.{ℕ, ◌<◌, ◌≡◌, ◌⊎◌, Bool, true, not, ◌&&◌, cond, List, [], ◌∷◌, eqb, ltb}
use Rattle.error.specs.Tests.{Test, test, Tells}

pub record Rule : Type 1 where
  pub number : ℕ
  pub applies : Type 0

abbrev pub rule : ℕ → Type 0 → Rule
rule k A = record { number = k; applies = A }

-- the number given: that of the first rule that applies, 0 where none does
abbrev pub Ruled : List Rule → ℕ → Type 0
Ruled [] k = k ≡ 0
Ruled (r ∷ rs) k = (r.applies × (k ≡ r.number)) ⊎ ((¬ r.applies) × Ruled rs k)

-- no rule applies
abbrev pub NoneApplies : List Rule → Type 0
NoneApplies [] = Unit {0}
NoneApplies (r ∷ rs) = (¬ r.applies) × NoneApplies rs

-- the condition of the number k: that of its rule; a number without a rule has none that holds
abbrev pub Condition : List Rule → ℕ → Type 0
Condition [] k = ⊥
Condition (r ∷ rs) k = cond (eqb r.number k) r.applies (Condition rs k)

-- "The lowest applying number wins": the condition of k holds, and that of no lower number
pub record Lowest (rs : List Rule) (k : ℕ) : Type 0 where
  pub applies : Condition rs k
  pub none_below : (j : ℕ) → j < k → ¬ Condition rs j

-- ---- order by place, whatever the numbers are
-- the numbers, in the order in which their rules count
abbrev pub numbers_of : List Rule → List ℕ
numbers_of [] = []
numbers_of (r ∷ rs) = r.number ∷ numbers_of rs

-- the rules that count before the number k
abbrev pub rules_before : ℕ → List Rule → List Rule
rules_before k [] = []
rules_before k (r ∷ rs) = cond (eqb r.number k) [] (r ∷ rules_before k rs)

-- a number by its place: its condition holds, and of the rules before it none applies
pub record First (rs : List Rule) (k : ℕ) : Type 0 where
  pub applies : Condition rs k
  pub none_before : NoneApplies (rules_before k rs)

-- the tests are those of the rules: the same numbers in the same order, each test telling its rule's condition
pub data Told : List Test → List Rule → Type 1 where
  no_more : Told [] []
  tells : (k : ℕ) {b : Bool} {A : Type 0} {ts : List Test} {rs : List Rule} → Tells b A → Told ts rs → Told (test k b ∷ ts) (rule k A ∷ rs)

-- ---- the numbers of rules, by computation
-- 0 is no refusal's number
abbrev pub positive : List Rule → Bool
positive [] = true
positive (r ∷ rs) = ltb 0 r.number && positive rs

-- the number k is none of theirs
abbrev pub lacks : ℕ → List Rule → Bool
lacks k [] = true
lacks k (r ∷ rs) = not (eqb r.number k) && lacks k rs

-- no number stands twice
abbrev pub distinct : List Rule → Bool
distinct [] = true
distinct (r ∷ rs) = lacks r.number rs && distinct rs

-- they rise, from above n
abbrev pub rising : ℕ → List Rule → Bool
rising n [] = true
rising n (r ∷ rs) = ltb n r.number && rising r.number rs

-- the rules without that of the number j
abbrev pub without : ℕ → List Rule → List Rule
without j [] = []
without j (r ∷ rs) = cond (eqb r.number j) rs (r ∷ without j rs)
