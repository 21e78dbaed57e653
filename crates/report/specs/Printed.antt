-- What printing into a lent area answers, and what the area holds then.
use Rattle.std.specs.Prelude.{ℕ, Result, Ok, Err, ◌≤◌, ◌≡◌, ◌↔◌, cond, ◌&&◌, List, eqb, leb, length, Float}
use Rattle.error.specs.declared.Refusal.TheVariants.{AnswerArea}
use Rattle.error.specs.Numbers.{number_of}
use Rattle.area.specs.Area.{copied}
use Rattle.report.specs.Listing.{listing}
use Rattle.report.specs.declared.Unprinted.{Unprinted}
use Rattle.report.specs.declared.Unprinted.TheVariants.{TooShort, Uneven}

-- how it ends
pub record Outcome : Type 0 where
  pub answer : Result ℕ Unprinted
  pub area : List ℕ

abbrev pub outcome_of : Result ℕ Unprinted → List ℕ → Outcome
outcome_of answer area = record { answer = answer; area = area }

-- A text: where the area has room, how many bytes it has, the text in the first places and past it what was there. Without room nothing is written.
unfoldable pub printed : List ℕ → List ℕ → Outcome
printed text area = cond (leb (length text) (length area)) (outcome_of (Ok (length text)) (copied 0 text area)) (outcome_of (Err TooShort) area)

-- The listing of an accepted fit. A node has one figure, one variance and one verdict, a column one multiplier and one number of the trend: lists of
-- different lengths have no listing, and nothing is written.
unfoldable pub listed : List Float → List Float → List ℕ → List Float → List Float → List ℕ → Outcome
listed figures variances verdicts multipliers trend area =
    cond (eqb (length figures) (length verdicts) && eqb (length variances) (length verdicts) && eqb (length trend) (length multipliers))
    (printed (listing figures variances verdicts multipliers trend) area)
    (outcome_of (Err Uneven) area)

-- ---- the number of how it ends

-- "18 an answer area too short": the text's area, or of lists that differ in length a shorter one, since a listing of m nodes and p columns needs "m figures
-- and variances", "m verdicts", "p coefficients" and a trend not "shorter than p". 0 where the text stands in the area
abbrev pub end_number : Result ℕ Unprinted → ℕ
end_number (Ok count) = 0
end_number (Err TooShort) = number_of AnswerArea
end_number (Err Uneven) = number_of AnswerArea

-- lists that have a listing
pub record Even (figures variances : List Float) (verdicts : List ℕ) (multipliers trend : List Float) : Type 0 where
  pub figure_each : length figures ≡ length verdicts
  pub variance_each : length variances ≡ length verdicts
  pub trend_each : length trend ≡ length multipliers

-- printing that is possible where A holds ends with the number k: 0 exactly then, and else 18
pub record Numbered (A : Type 0) (k : ℕ) : Type 0 where
  pub none : (k ≡ 0) ↔ A
  pub eighteen : (k ≡ 18) ↔ (¬ A)

abbrev pub TextNumbered : List ℕ → List ℕ → Result ℕ Unprinted → Type 0
TextNumbered text area r = Numbered (length text ≤ length area) (end_number r)

abbrev pub ListingNumbered : List Float → List Float → List ℕ → List Float → List Float → List ℕ → Result ℕ Unprinted → Type 0
ListingNumbered figures variances verdicts multipliers trend area r = Numbered
    (Even figures variances verdicts multipliers trend × (length (listing figures variances verdicts multipliers trend) ≤ length area)) (end_number r)
