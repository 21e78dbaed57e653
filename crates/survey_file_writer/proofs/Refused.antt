-- The number that turns the writer away, found test after test: past the lists' lengths, the numbers and the same-spot distance.
use Prim.Native.Nat.{ℕ}
use mathlib.Core.Path.{◌≡◌, sym, ◌∙◌}
use mathlib.Core.Bool.{Bool, true, false}
use mathlib.Core.List.{List, [], ◌∷◌}
use Rattle.error.specs.Tests.{Test, test, first_of}
use Rattle.error.proofs.First as First
use Rattle.survey.specs.Survey.{Survey}
use Rattle.survey_file_theory.specs.File.{newest_version}
use Rattle.survey_file_theory.specs.Refusals.{some_number_not_finite, other_spot, too_long, short_file, writer_refusal}
use Rattle.survey_file_writer.specs.Parts.{length_tests}

-- a number is that of the tests that are left
pub record Left (n : ℕ) (ts : List Test) : Type 0 where
  pub is : n ≡ first_of ts

-- where the next of them holds it is that test's, else those that are left after it decide
pub found : {n k : ℕ} {b : Bool} {ts : List Test} → Left n (test k b ∷ ts) → b ≡ true → k ≡ n
found {k = k} {ts = ts} l h = sym (l.is ∙ First.here k ts h)

pub passed : {n k : ℕ} {b : Bool} {ts : List Test} → Left n (test k b ∷ ts) → b ≡ false → Left n ts
passed {k = k} {ts = ts} l h = record { is = l.is ∙ First.past k ts h }

pub none_left : {n : ℕ} → Left n [] → 0 ≡ n
none_left l = sym (l.is ∙ First.none)

-- what is left past the same-spot distance: 16 and 18
abbrev pub of_length : Survey → List ℕ → List Test
of_length s area = test 16 (too_long newest_version s) ∷ test 18 (short_file newest_version s area) ∷ []

abbrev of_numbers : Survey → List ℕ → List Test
of_numbers s area = test 11 (some_number_not_finite s) ∷ test 22 (other_spot s) ∷ of_length s area

past_lengths : (s : Survey) (area : List ℕ) → 0 ≡ first_of (length_tests s) → Left (writer_refusal newest_version s area) (of_numbers s area)
unfolding writer_refusal
past_lengths s area e = record { is = First.first_later (length_tests s) (of_numbers s area) tt (sym e) }

pub past_spot : (s : Survey) (area : List ℕ) {number spot : Bool} → 0 ≡ first_of (length_tests s) → number ≡ some_number_not_finite s
    → number ≡ false → spot ≡ other_spot s → spot ≡ false → Left (writer_refusal newest_version s area) (of_length s area)
past_spot s area lengths numbers f is g = passed (passed (past_lengths s area lengths) (sym numbers ∙ f)) (sym is ∙ g)
