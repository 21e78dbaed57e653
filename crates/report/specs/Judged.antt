-- The answer of a fit as it is lent, and what is judged before any of a text is written.
use Rattle.std.specs.Prelude.{ℕ, ◌+◌, ◌<◌, ◌≡◌, Result, Ok, Err, List, Float}
use Rattle.report.specs.declared.Answer.{Answer}
use Rattle.report.specs.declared.Unprinted.{Unprinted}
use Rattle.report.specs.declared.Unprinted.TheVariants.{TooShort}

-- of the lists of an answer
abbrev pub of_answer {ℓ} : {A : Type ℓ} → (List Float → List Float → List ℕ → List Float → List Float → A) → Answer → A
of_answer f a = f a.predicted.now a.variance.now a.verdicts.now a.multipliers.now a.trend.now

-- whether A holds, and where it does not, what is answered
abbrev pub Judges : Type 0 → Unprinted → Result (Unit {0}) Unprinted → Type 0
Judges A answer (Ok _) = A
Judges A answer (Err u) = (u ≡ answer) × ¬ A

-- what is left of a room, and that it is too short where more is taken
abbrev pub Leaves : ℕ → ℕ → Result ℕ Unprinted → Type 0
Leaves room taken (Ok rest) = rest + taken ≡ room
Leaves room taken (Err u) = (u ≡ TooShort) × (room < taken)
