-- How a call ends: 0 or the number of its refusal, and what the areas that it was lent hold then.
use Rattle.std.specs.Prelude.{ℕ, Result, Ok, Err}
use Rattle.error.specs.declared.Refusal.{Refusal}
use Rattle.error.specs.Numbers.{number_of}

pub record Outcome (A : Type 0) : Type 0 where
  pub number : ℕ
  pub areas : A

abbrev pub outcome : {A : Type 0} → ℕ → A → Outcome A
outcome k a = record { number = k; areas = a }

-- by its answer, where the areas hold all of that: 0, else the refusal's number
abbrev pub ended : {A B : Type 0} → Result A Refusal → B → Outcome B
ended (Ok _) a = outcome 0 a
ended (Err r) a = outcome (number_of r) a
