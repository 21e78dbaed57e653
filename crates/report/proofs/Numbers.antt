-- The number of how printing ends: 0 exactly where it is possible, and else 18.
use Prim.Native.Nat.{ℕ, ◌≤◌}
use native.Mathlib.Omega.{arith}
use mathlib.Core.Path.{◌≡◌, refl, ap, sym, ◌∙◌, subst}
use mathlib.Core.Bool.{Bool, true, false, cond, ◌&&◌}
use mathlib.Core.List.{List}
use lib.Dec.{eqb, leb}
use lib.ListN.{length}
use lib.Ieee.{Float}
use Rattle.area.specs.Area.{copied}
use Rattle.error.specs.Tests.{Tells}
use Rattle.error.proofs.Tells.{told_as, both, equal, at_most}
use Rattle.report.specs.Listing.{listing}
use Rattle.report.specs.Printed.{Outcome, outcome_of, printed, listed, end_number, Even, Numbered, TextNumbered, ListingNumbered}
use Rattle.report.specs.declared.Unprinted.{Unprinted}
use Rattle.std.specs.Prelude.{Result}
use Rattle.report.specs.declared.Unprinted.TheVariants.{TooShort, Uneven}
use Rattle.std.specs.Prelude.{Ok, Err}

-- a test that tells whether it is possible gives the number
numbered : (b : Bool) {A : Type 0} → Tells b A → Numbered A (cond b 0 18)
numbered true t = record { none = (λ e. t.then tt, λ a. refl); eighteen = (λ e. absurd (omega arith), λ n. absurd (n (t.then tt))) }
numbered false t = record { none = (λ e. absurd (omega arith), λ a. absurd (t.back a)); eighteen = (λ e a. t.back a, λ n. refl) }

answer_is : {r : Result ℕ Unprinted} {exit : List ℕ} {o : Outcome} → outcome_of r exit ≡ o → end_number o.answer ≡ end_number r
answer_is e = ap (λ (o : Outcome). end_number o.answer) (sym e)

-- ---- a text
printed_number : (text area : List ℕ) → end_number (printed text area).answer ≡ cond (leb (length text) (length area)) 0 18
unfolding printed
printed_number text area = go (leb (length text) (length area)) (copied 0 text area)
  where
    go : (b : Bool) (done : List ℕ) → end_number (cond b (outcome_of (Ok (length text)) done) (outcome_of (Err TooShort) area)).answer ≡ cond b 0 18
    go true done = refl
    go false done = refl

pub text_numbered : (text area exit : List ℕ) (r : Result ℕ Unprinted) → outcome_of r exit ≡ printed text area → TextNumbered text area r
text_numbered text area exit r e =
    subst (Numbered (length text ≤ length area)) (sym (printed_number text area) ∙ answer_is e)
    (numbered (leb (length text) (length area)) (at_most (length text) (length area)))

-- ---- a listing
module _ (figures variances : List Float) (verdicts : List ℕ) (multipliers trend : List Float) (area : List ℕ) where
  abbrev pub evenly : Bool
  evenly = eqb (length figures) (length verdicts) && eqb (length variances) (length verdicts) && eqb (length trend) (length multipliers)

  abbrev text : List ℕ
  text = listing figures variances verdicts multipliers trend

  pub tells_even : Tells evenly (Even figures variances verdicts multipliers trend)
  tells_even =
      told_as (both (both (equal (length figures) (length verdicts)) (equal (length variances) (length verdicts))) (equal (length trend) (length multipliers)))
      (λ h. record { figure_each = h.0.0; variance_each = h.0.1; trend_each = h.1 })
      (λ e. ((e.figure_each, e.variance_each), e.trend_each))

  listed_number : end_number (listed figures variances verdicts multipliers trend area).answer ≡ cond (evenly && leb (length text) (length area)) 0 18
  unfolding listed
  listed_number = go evenly
    where
      go : (b : Bool) → end_number (cond b (printed text area) (outcome_of (Err Uneven) area)).answer ≡ cond (b && leb (length text) (length area)) 0 18
      go true = printed_number text area
      go false = refl

  pub listing_numbered : (exit : List ℕ) (r : Result ℕ Unprinted) → outcome_of r exit ≡ listed figures variances verdicts multipliers trend area
      → ListingNumbered figures variances verdicts multipliers trend area r
  listing_numbered exit r e =
      subst (Numbered _) (sym listed_number ∙ answer_is e) (numbered _ (both tells_even (at_most (length text) (length area))))
