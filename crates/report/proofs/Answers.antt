-- A text in its area: without room, and with it.
use Prim.Native.Nat.{ℕ, ◌≤◌, ◌<◌}
use native.Mathlib.Nat.{zero-add}
use mathlib.Core.Path.{◌≡◌, refl, ap₂, sym, ◌∙◌}
use mathlib.Core.List.{List}
use borrow.Author.Tests.{le-leb, lt-leb}
use lib.ListN.{length, take, drop}
use lib.Ieee.{Float}
use Rattle.area.specs.Area.{copied}
use Rattle.area.proofs.Start.{take_copied, drop_copied}
use Rattle.report.specs.Listing.{listing}
use Rattle.area.specs.Placed.{Put}
use Rattle.report.specs.Printed.{outcome_of, printed, listed, Even}
use Rattle.report.proofs.Numbers.{evenly, tells_even}
use Rattle.error.specs.Tests.{Tells}
use Rattle.area.specs.Cursor.{Puts}
use Rattle.area.specs.declared.Cursor.{Cursor}
use mathlib.Core.Bool.{Bool, true, false, cond}
use Rattle.report.specs.declared.Unprinted.TheVariants.{TooShort, Uneven}
use Rattle.std.specs.Prelude.{Ok, Err}

pub without_room : (text area : List ℕ) → length area < length text → outcome_of (Err TooShort) area ≡ printed text area
unfolding printed
without_room text area h = rw (lt-leb (length text) (length area), printed)

-- with room, in the terms of what is answered
pub with_room : (text area : List ℕ) → length text ≤ length area → printed text area ≡ outcome_of (Ok (length text)) (copied 0 text area)
unfolding printed
with_room text area h = rw (le-leb (length text) (length area), printed)

-- and by what a function put from the first place on
pub put_whole : (text area : List ℕ) {next : ℕ} {exit : List ℕ} → length text ≤ length area → Put 0 text area next exit
    → outcome_of (Ok next) exit ≡ printed text area
put_whole text area h u =
    ap₂ (λ (n : ℕ) (xs : List ℕ). outcome_of (Ok n) xs) (u.past ∙ zero-add (length text)) u.holds ∙ sym (with_room text area h)

-- what a caller finds then: the text in the first places, and past it what was there
pub text_found : (text area : List ℕ) → length text ≤ length area → take (length text) (printed text area).area ≡ text
text_found text area h = rw (with_room text area h) (take_copied 0 text area h)

pub rest_found : (text area : List ℕ) → length text ≤ length area → drop (length text) (printed text area).area ≡ drop (length text) area
rest_found text area h = rw (with_room text area h) (drop_copied 0 text area h)

-- and by what a function put with a cursor
pub puts_whole : (text area : List ℕ) {c d : Cursor} → c.at ≡ 0 → c.area.now ≡ area → length text ≤ length area → Puts text c d
    → outcome_of (Ok d.at) d.area.now ≡ printed text area
puts_whole text area first is h p = put_whole text area h (rw (← first, ← is) p.put)

-- ---- listings
module _ (figures variances : List Float) (verdicts : List ℕ) (multipliers trend : List Float) (area : List ℕ) where
  abbrev even : Type 0
  even = Even figures variances verdicts multipliers trend

  abbrev text : List ℕ
  text = listing figures variances verdicts multipliers trend

  pub uneven_listed : ¬ even → outcome_of (Err Uneven) area ≡ listed figures variances verdicts multipliers trend area
  unfolding listed
  uneven_listed h = go (evenly figures variances verdicts multipliers trend area) (tells_even figures variances verdicts multipliers trend area)
    where
      go : (b : Bool) → Tells b even → outcome_of (Err Uneven) area ≡ cond b (printed text area) (outcome_of (Err Uneven) area)
      go true t = absurd (h (t.then tt))
      go false t = refl

  -- of even lists it is the listing, printed
  pub even_listed : even → printed text area ≡ listed figures variances verdicts multipliers trend area
  unfolding listed
  even_listed h = go (evenly figures variances verdicts multipliers trend area) (tells_even figures variances verdicts multipliers trend area)
    where
      go : (b : Bool) → Tells b even → printed text area ≡ cond b (printed text area) (outcome_of (Err Uneven) area)
      go true t = refl
      go false t = absurd (t.back h)
