-- How a call ends by its answer.
use Rattle.std.specs.Prelude.{ℕ, Result, Ok, Err}
use Rattle.error.specs.declared.Refusal.{Refusal}
use Rattle.error.specs.Numbers.{number_of}
use Rattle.semivariogram_theory.specs.Call.{Areas, Outcome}

-- the number and the value of each answer: "how many is returned", and "A refusal carries only its number"
abbrev pub outcome_of : Result ℕ Refusal → Areas → Outcome
outcome_of (Ok k) a = record { number = 0; kept = k; areas = a }
outcome_of (Err r) a = record { number = number_of r; kept = 0; areas = a }
