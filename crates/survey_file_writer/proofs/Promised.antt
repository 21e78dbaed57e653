-- All that the contract of the writer says, from its equation: the theorems about the definition, joined.
use Prim.Native.Nat.{ℕ, zero, suc, ◌+◌, ◌≤◌}
use native.Mathlib.Nat.{zero-add}
use native.Mathlib.Omega.{arith}
use mathlib.Core.Path.{◌≡◌, refl, ap, sym, ◌∙◌, subst}
use mathlib.Core.List.{List}
use mathlib.Core.Option.{none, some}
use lib.Dec.{T}
use lib.ListN.{length, take}
use lib.Ieee.{Float, binary64, fits, of_bits}
use Rattle.std.specs.Prelude.{Result, Ok, Err}
use Rattle.ieee.specs.Bytes.{all_fit}
use Rattle.ieee.specs.Floats.{epsilon}
use Rattle.error.specs.declared.Refusal.{Refusal}
use Rattle.error.specs.Numbers.{number_of}
use Rattle.error.proofs.First as First
use Rattle.survey.specs.Survey.{Survey}
use Rattle.survey_file_theory.specs.Areas.{Areas, Holds}
use Rattle.survey_file_theory.specs.Contents.{numbers, EachF64}
use Rattle.survey_file_theory.specs.File.{newest_version, writer_file}
use Rattle.survey_file_theory.specs.Refusals.{writer_refusal}
use Rattle.survey_file_theory.specs.Reader.{reader, answer_of}
use Rattle.survey_file_theory.specs.Writer.{Outcome, outcome_of, call_where, writer, Ends}
use Rattle.survey_file_theory.proofs.Writer.{written_exactly, writer_ends}
use Rattle.survey_file_theory.proofs.RoundTrip.{round_trip_call}
use Rattle.area.specs.Placed.{Put}

-- the same-spot distance of a survey that is written is an f64 too
each_f64 : (s : Survey) → T (all_fit (numbers s)) → s.options.variogram.same_spot ≡ epsilon → EachF64 s
unfolding fits of_bits
each_f64 s fit spot = record { numbers = fit; spot = subst (λ (x : Float). T (fits binary64 x)) (sym spot) tt }

module _ (s : Survey) (area : List ℕ) where
  -- ---- the two ways in which the call ends
  refused_is : (r : Refusal) → number_of r ≡ writer_refusal newest_version s area → outcome_of (Err r) area ≡ writer newest_version s area
  unfolding writer call_where
  refused_is r e = go (writer_refusal newest_version s area) e
    where
      go : (k : ℕ) → number_of r ≡ k → outcome_of (Err r) area ≡ call_where k newest_version s area
      go zero h = absurd (First.numbers r h)
      go (suc k) h = λ i. record { number = h i; count = none; area = area }

  -- what nothing turns away has room
  pub room_there : 0 ≡ writer_refusal newest_version s area → 0 + length (writer_file newest_version s) ≤ length area
  unfolding writer call_where
  room_there e =
      let is = written_exactly newest_version s area in
      omega (arith, (is.0 (ap (λ (k : ℕ). (call_where k newest_version s area).number) (sym e))).room)

  pub written_there : {count : ℕ} {after : List ℕ} → 0 ≡ writer_refusal newest_version s area → Put 0 (writer_file newest_version s) area count after
      → outcome_of (Ok count) after ≡ writer newest_version s area
  unfolding writer call_where
  written_there e p =
      (λ i. record { number = 0; count = some ((p.past ∙ zero-add (length (writer_file newest_version s))) i); area = p.holds i })
      ∙ ap (λ (k : ℕ). call_where k newest_version s area) e

  -- ---- the clauses, in their order: equation, ends, back
  abbrev Promise : Outcome → List ℕ → Type 0
  Promise e after =
      (e ≡ writer newest_version s area)
      × Ends newest_version s area e
      × ((count : ℕ) → e.count ≡ some count → (lent : Areas) → Holds s lent → reader newest_version (take count after) lent ≡ answer_of s lent)

  -- "A refusal carries only its number": nothing is said of what reads back
  pub refused_there : {h : Result ℕ Refusal} (r : Refusal) → h ≡ Err r → number_of r ≡ writer_refusal newest_version s area
      → Promise (outcome_of h area) area
  refused_there r is e =
      let ends = subst (Ends newest_version s area) (sym (refused_is r e)) (writer_ends newest_version s area) in
      subst (λ (h : Result ℕ Refusal). Promise (outcome_of h area) area) (sym is) (refused_is r e, ends, λ count said lent holds. absurd cc)

  pub promised : T (all_fit (numbers s)) → s.options.variogram.same_spot ≡ epsilon → {count : ℕ} {after : List ℕ}
      → outcome_of (Ok count) after ≡ writer newest_version s area → Promise (outcome_of (Ok count) after) after
  promised fit spot h =
      subst (λ (e : Outcome). Promise e e.area) (sym h) (
        refl,
        writer_ends newest_version s area,
        λ count said lent holds. round_trip_call newest_version s area count said (each_f64 s fit spot) lent holds,
      )
