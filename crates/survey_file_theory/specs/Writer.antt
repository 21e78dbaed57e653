-- The writer of the survey file: its answer, and its area at exit.
use Rattle.std.specs.Prelude.{ℕ, zero, suc, ◌≡◌, ◌≢◌, ◌↔◌, List, ◌++◌, length, drop, Result, Ok, Err}
use Rattle.std.proofs.Math.Option.{Option, none, some}
use Rattle.area.specs.Area.{copied}
use Rattle.error.specs.declared.Refusal.{Refusal}
use Rattle.error.specs.Numbers.{number_of}
use Rattle.error.specs.Rules.{Ruled}
use Rattle.survey.specs.Survey.{Survey}
use Rattle.survey_file_theory.specs.File.{writer_file}
use Rattle.survey_file_theory.specs.Rules.{Writable, writer_rules}
use Rattle.survey_file_theory.specs.Refusals.{writer_refusal}

-- how a call ends: the answer's number (0, or the refusal's), how many bytes were written if any were, and the area at exit
pub record Outcome : Type 0 where
  pub number : ℕ
  pub count : Option ℕ
  pub area : List ℕ

-- the number and the value of each answer: "A refusal carries only its number"
abbrev pub outcome_of : Result ℕ Refusal → List ℕ → Outcome
outcome_of (Ok count) area = record { number = 0; count = some count; area = area }
outcome_of (Err refusal) area = record { number = number_of refusal; count = none; area = area }

-- the call by its refusal: "A refusal carries only its number and writes nothing"; else the area has the file
unfoldable pub call_where : ℕ → ℕ → Survey → List ℕ → Outcome
unfolding writer_file
call_where zero newest s area =
    let file = writer_file newest s in
    record { number = 0; count = some (length file); area = copied 0 file area }
call_where (suc k) newest s area = record { number = suc k; count = none; area = area }

-- the whole call, of a writer that knows the versions up to the newest
unfoldable pub writer : ℕ → Survey → List ℕ → Outcome
unfolding call_where writer_refusal
writer newest s area = call_where (writer_refusal newest s area) newest s area

-- ---- how it ends, as the paper says it
-- an accepted call: the file, its length, and "all past the named lengths is untouched"
pub record Writes (newest : ℕ) (s : Survey) (area : List ℕ) (o : Outcome) : Type 0 where
  pub count : o.count ≡ some (length (writer_file newest s))
  pub file : o.area ≡ writer_file newest s ++ drop (length (writer_file newest s)) area

-- a call ended as o: each number exactly when, and what its area holds then
pub record Ends (newest : ℕ) (s : Survey) (area : List ℕ) (o : Outcome) : Type 0 where
  -- the number is that of the first rule that applies, 0 where none does
  pub ruled : (k : ℕ) → (o.number ≡ k) ↔ Ruled (writer_rules newest s area) k
  pub accepted : (o.number ≡ 0) ↔ Writable newest s area
  -- "A refusal carries only its number and writes nothing"
  pub refused : o.number ≢ 0 → (o.count ≡ none) × (o.area ≡ area)
  pub writes : o.number ≡ 0 → Writes newest s area o
